-- A state with work pages that a history leads to, as bytes, and what every call finds in it. `Live` is such a state, `Lost` one whose
-- work pages may be gone, `Ran` one whose work pages and log are those of an uncut run, which is all that a begin or a step asks. Assumes nothing
-- but the unit laws, which are handed in.
use Prim.Native.Nat.{ℕ, ◌+◌, ◌≤◌}
use native.Mathlib.Omega.{arith}
use mathlib.Core.Path.{◌≡◌, sym, ap, ◌∙◌}
use mathlib.Core.Bool.{true}
use mathlib.Core.List.{List, [], ◌∷◌, ◌++◌, append-nil}
use mathlib.Core.Option.{Option, some}
use lib.ListN.{length, take, length-append}
use lib.Seq.{take-append-le}
use borrow.Author.Tests.{eq-eqb}
use Rattle.field.specs.Bytes.{Bytes, put}
use Rattle.field.proofs.Test.{both-intro}
use Rattle.page.specs.Pages.{pages}
use Rattle.logs.specs.Record.{Check, Rec, size, encode, encode_check, encode_all, sizes}
use Rattle.logs.specs.Log.{encode_log}
use Rattle.logs.proofs.State.{at-at_end}
use Rattle.logs.proofs.Record.{length-encode_check}
use Rattle.logs.specs.Valid.{Fits}
use Rattle.tree.specs.Tree.{all_records}
use Rattle.store.specs.Calls.{Lent, lent, known, two_sized, pages_sized, log_sized, new_log}
use Rattle.replay.specs.Store.{Formed, Settled, Uncut, Reached}
use Rattle.replay.specs.Laws.{UnitLaws}
use Rattle.replay.proofs.Theorem.{theorem, origin-settled, work-uncut, ran-shape, ran-formed}
use Rattle.promise.specs.Parts.{log_of, state_of, store, asked}
use Rattle.promise.proofs.OnPages.{page-laws}
use Rattle.promise.proofs.Standing.{last_fits}
use Rattle.promise.proofs.Image.{image, Stored, Numbered, length-image, put-image, at-grown, known-image}

-- the work pages may be gone: the store's pages, the log's bytes, and how many of its records are forced
pub record Lost (rs : List (List ℕ)) (origin : List ℕ) (d : Lent) (forced : ℕ) : Type 0 where
  pub records : all_records (pages origin) ≡ rs  -- those at the check record
  pub work : Option (List ℕ)
  pub top : Check
  pub recs : List Rec
  pub many : ℕ
  pub reached : Reached store asked origin work d.store top recs many
  pub log : d.log ≡ image top recs
  pub held : forced ≡ 24 + sizes (take many recs)
  pub among : many ≤ length recs
  pub bytes : Bytes d.bytes

-- the work pages are there, and the numbers say what is so
pub record Live (rs : List (List ℕ)) (origin : List ℕ) (d : Lent) : Type 0 where
  pub records : all_records (pages origin) ≡ rs
  pub top : Check
  pub recs : List Rec
  pub many : ℕ
  pub reached : Reached store asked origin (some d.work) d.store top recs many
  pub log : d.log ≡ image top recs
  pub numbered : Numbered d top recs many
  pub bytes : Bytes d.bytes

pub live-lost : {rs : List (List ℕ)} {origin : List ℕ} {d : Lent} → Live rs origin d → Lost rs origin d d.forced
live-lost {d = d} v =
    record {
      records = v.records;
      work = some d.work;
      top = v.top;
      recs = v.recs;
      many = v.many;
      reached = v.reached;
      log = v.log;
      held = v.numbered.forced;
      among = v.numbered.among;
      bytes = v.bytes;
    }

-- list's room and put's record may be any bytes
pub live-bytes : {rs : List (List ℕ)} {origin : List ℕ} {d : Lent} (b : List ℕ) → Bytes b → Live rs origin d
    → Live rs origin (lent d.used d.forced d.work d.store d.log b)
live-bytes b h v =
    record {
      records = v.records;
      top = v.top;
      recs = v.recs;
      many = v.many;
      reached = v.reached;
      log = v.log;
      numbered = record { used = v.numbered.used; forced = v.numbered.forced; among = v.numbered.among };
      bytes = h;
    }

-- and, where the work pages may be gone, whatever stands there
pub lost-bytes : {rs : List (List ℕ)} {origin : List ℕ} {d : Lent} {forced : ℕ} (w b : List ℕ) → Bytes b → Lost rs origin d forced
    → Lost rs origin (lent d.used d.forced w d.store d.log b) forced
lost-bytes w b h v =
    record {
      records = v.records;
      work = v.work;
      top = v.top;
      recs = v.recs;
      many = v.many;
      reached = v.reached;
      log = v.log;
      held = v.held;
      among = v.among;
      bytes = h;
    }

-- a new log's bytes
pub image-bare : (c : Check) → image c [] ≡ new_log c
unfolding image new_log encode_log encode_all sizes
image-bare c =
    let a : (state_of c []).at ≡ 24 = at-at_end (log_of c []) in
    rw (append-nil (encode_check c), a, length-encode_check c)

-- work pages and log of an uncut run from the pages origin, whatever the store holds
pub record Ran (origin : List ℕ) (d : Lent) : Type 0 where
  pub top : Check
  pub recs : List Rec
  pub many : ℕ
  pub settled : Settled store asked origin origin top []
  pub uncut : Uncut store asked origin top d.work recs
  pub log : d.log ≡ image top recs
  pub numbered : Numbered d top recs many

module _ (U : UnitLaws store asked) where
  -- the log of a state is in form, and its bytes hold it
  pub stored_of : {o s : List ℕ} {x : Option (List ℕ)} {c : Check} {l : List Rec} {m : ℕ} → Reached store asked o x s c l m → Stored c l
  stored_of g = let v = theorem store asked page-laws U g in record { good = v.log-form.0; fits = v.log-form.1 }

  -- a live state's work pages and log are those of an uncut run
  abbrev pub ran-of : {rs : List (List ℕ)} {origin : List ℕ} {d : Lent} → Live rs origin d → Ran origin d
  ran-of v =
      record {
        top = v.top;
        recs = v.recs;
        many = v.many;
        settled = origin-settled store asked page-laws U v.reached;
        uncut = work-uncut store asked page-laws U v.reached;
        log = v.log;
        numbered = v.numbered;
      }

  module _ {origin : List ℕ} (d : Lent) (v : Ran origin d) where
    pub stored : Stored v.top v.recs
    stored = let s = ran-shape store asked page-laws U v.settled v.uncut in record { good = s.0; fits = s.1 }

    pub work-pages : Formed store asked d.work
    work-pages = ran-formed store asked page-laws U v.settled v.uncut

    pub two_sized_lem : two_sized d ≡ true
    unfolding two_sized pages_sized log_sized
    two_sized_lem =
        both-intro _ _ (eq-eqb (length d.work) 16384 work-pages.sized.0)
        (eq-eqb (length d.log) 8192 (ap length v.log ∙ length-image v.top v.recs stored))

    -- test 2 finds the log
    pub known-ran : known d ≡ some (log_of v.top v.recs)
    known-ran = known-image d v.top v.recs v.many v.log stored.good v.numbered

  -- one record more
  pub live-grown : {rs : List (List ℕ)} {origin : List ℕ} (d : Lent) (v : Live rs origin d) (r : Rec) (w' : List ℕ)
      → Reached store asked origin (some w') d.store v.top (v.recs ++ (r ∷ [])) v.many
      → Live rs origin
      (lent ((state_of v.top v.recs).at + size r) d.forced w' d.store
      (put (state_of v.top v.recs).at (encode ((state_of v.top v.recs).number + 1) r) d.log) d.bytes)
  live-grown d v r w' g =
      let c : Check = v.top in
      let l : List Rec = v.recs in
      let f : Fits (state_of c l) r = last_fits c l r (stored_of g).good in
      record {
        records = v.records;
        top = c;
        recs = l ++ (r ∷ []);
        many = v.many;
        reached = g;
        log = ap (put (state_of c l).at (encode ((state_of c l).number + 1) r)) v.log ∙ put-image c l r (stored_of v.reached).good f;
        numbered = record {
          used = sym (at-grown c l r);
          forced = v.numbered.forced ∙ ap (λ (a : List Rec). 24 + sizes a) (sym (take-append-le v.many l (r ∷ []) v.numbered.among));
          among = rw (length-append l (r ∷ [])) (omega (arith, v.numbered.among));
        };
        bytes = v.bytes;
      }
