-- The two starts of a history are live states: an accepted recovery whose log held only its check record, by what its tests have found, and
-- a finished build, by the laws of its layout. Assumes nothing.
use Prim.Native.Nat.{ℕ, zero, suc, ◌+◌, ◌-◌, ◌*◌, ◌/◌, ◌%◌, ◌≤◌, ◌<◌}
use native.Mathlib.Omega.{arith}
use mathlib.Core.Path.{◌≡◌, refl, sym, ap, ap₂, ◌∙◌, subst}
use mathlib.Core.Bool.{Bool, true, false}
use mathlib.Core.List.{List, [], ◌∷◌}
use mathlib.Core.Option.{some, none}
use lib.ListN.{length, get_or}
use borrow.Author.Tests.{eqb-true, leb-true}
use Rattle.field.specs.Test.{need, given}
use Rattle.field.specs.Bytes.{Bytes}
use Rattle.field.proofs.Test.{both-1, both-2, all_head, all_tail, need-true, given-some}
use Rattle.page.specs.Page.{rows_of, ascend_records, number}
use Rattle.page.proofs.Rows.{long-rows_of, bytes-rows_of}
use Rattle.page.specs.Pages.{page, pages, all_formed}
use Rattle.page.proofs.Pages.{length-pages, get_or-pages, formed-page}
use Rattle.logs.specs.Record.{Check}
use Rattle.logs.specs.Log.{first, after_all, read_log, at_end}
use Rattle.logs.proofs.State.{number-at_end}
use Rattle.logs.proofs.Cut.{good-bare}
use Rattle.tree.specs.Tree.{well_formed, all_records}
use Rattle.tree.specs.Layout.{leaf_groups, base_groups, layout}
use Rattle.laid.proofs.Laid.{Laid, layout-laws}
use Rattle.unit.specs.Next.{repeat_all}
use Rattle.store.specs.Calls.{Lent, lent, Left, left, refused, zeroed, three_sized, pages_sized, log_sized, none_newer, finish_open, recovered, new_log}
use Rattle.store.specs.Calls as Calls
use Rattle.replay.specs.Store.{Settled, Reached}
use Rattle.promise.specs.Parts.{log_of, state_of, store, asked}
use Rattle.promise.specs.Promise.{InBytes, saved_by}
use Rattle.promise.proofs.Image.{image, Stored, image-read, stored-read}
use Rattle.promise.proofs.Forward.{none-not, left-none}
use Rattle.promise.proofs.Recovering.{none-newer}
use Rattle.promise.proofs.Live.{Live, image-bare}
use Rattle.promise.proofs.Called.{bare-at, nothing-forced}

-- ---- an accepted chain of tests

passed : (b : Bool) (x y : Left) → (x.reply ≡ 0 → ⊥) → (need b x y).reply ≡ 0 → b ≡ true
unfolding need
passed true x y bad e = refl
passed false x y bad e = absurd (bad e)

onward : (b : Bool) (x y : Left) → b ≡ true → (need b x y).reply ≡ 0 → y.reply ≡ 0
onward b x y t e = sym (ap (λ (z : Left). z.reply) (need-true b x y t)) ∙ e

refused-bad : (k r : ℕ) (d : Lent) → (refused k (suc r) d).reply ≡ 0 → ⊥
unfolding refused
refused-bad k r d e = omega arith

zeroed-bad : (r : ℕ) (d : Lent) → (zeroed (suc r) d).reply ≡ 0 → ⊥
unfolding zeroed
zeroed-bad r d e = omega arith

-- an accepted recovery was lent buffers of the right length
pub recover-lengths : (d : Lent) → (Calls.recover d).reply ≡ 0 → three_sized d ≡ true
unfolding Calls.recover
recover-lengths d e = passed (three_sized d) (refused 1 1 d) _ (refused-bad 1 0 d) e

-- ---- what an accepted recovery of a check record alone has found

pub record Found (d : Lent) (c : Check) : Type 0 where
  pub sized : three_sized d ≡ true
  pub form : all_formed 0 (pages d.store) ≡ true
  pub low : none_newer (state_of c []).number (pages d.store) ≡ true
  pub well : well_formed (pages d.store) ≡ true
  pub is : Calls.recover d ≡ left 0 (0 ∷ []) (lent (state_of c []).at (state_of c []).at d.store d.store d.log d.bytes)

-- nothing is repeated and nothing finished
bare-recovered : (d : Lent) (c : Check) → given (repeat_all (c.number + 1) [] d.store) (zeroed 5 d) (λ w.
    recovered d (state_of c []) (finish_open (state_of c []).opened (state_of c []) w d.log))
    ≡ need (well_formed (pages d.store)) (zeroed 8 d)
    (left 0 (0 ∷ []) (lent (state_of c []).at (state_of c []).at d.store d.store d.log d.bytes))
unfolding repeat_all given recovered finish_open at_end after_all first
bare-recovered d c =
    let z : c.number - c.number ≡ 0 = omega arith in
    rw z

pub found_of : (d : Lent) (c : Check) → read_log d.log ≡ some (log_of c []) → (Calls.recover d).reply ≡ 0 → Found d c
unfolding Calls.recover
found_of d c r e =
    let s : three_sized d ≡ true = passed (three_sized d) (refused 1 1 d) _ (refused-bad 1 0 d) e in
    let e1 = onward (three_sized d) (refused 1 1 d) _ s e in
    let e2 = sym (ap (λ (z : Left). z.reply) (given-some (read_log d.log) (log_of c []) (zeroed 2 d) _ r)) ∙ e1 in
    let f : all_formed 0 (pages d.store) ≡ true = passed (all_formed 0 (pages d.store)) (zeroed 3 d) _ (zeroed-bad 2 d) e2 in
    let e3 = onward (all_formed 0 (pages d.store)) (zeroed 3 d) _ f e2 in
    let n : none_newer (state_of c []).number (pages d.store) ≡ true = passed (none_newer (state_of c []).number (pages d.store)) (zeroed 4 d) _ (zeroed-bad 3 d) e3 in
    let e4 = onward (none_newer (state_of c []).number (pages d.store)) (zeroed 4 d) _ n e3 in
    let e5 = sym (ap (λ (z : Left). z.reply) (bare-recovered d c)) ∙ e4 in
    let w : well_formed (pages d.store) ≡ true = passed (well_formed (pages d.store)) (zeroed 8 d) _ (zeroed-bad 7 d) e5 in
    record {
      sized = s;
      form = f;
      low = n;
      well = w;
      is = need-true (three_sized d) (refused 1 1 d) _ s
          ∙ given-some (read_log d.log) (log_of c []) (zeroed 2 d) _ r
          ∙ need-true (all_formed 0 (pages d.store)) (zeroed 3 d) _ f
          ∙ need-true (none_newer (state_of c []).number (pages d.store)) (zeroed 4 d) _ n
          ∙ bare-recovered d c
          ∙ need-true (well_formed (pages d.store)) (zeroed 8 d) _ w;
    }

-- ---- a start

-- no page is newer than the log's last record
newer-at : (last i : ℕ) (pgs : List (List ℕ)) → none_newer last pgs ≡ true → i < length pgs → number (get_or pgs i []) ≤ last
unfolding none_newer
newer-at last i [] e h = absurd (omega arith)
newer-at last zero (pg ∷ pgs) e h = leb-true (number pg) last (both-1 _ _ e)
newer-at last (suc i) (pg ∷ pgs) e h = newer-at last i pgs (both-2 _ _ e) (omega arith)

pages-low : (last : ℕ) (w : List ℕ) → none_newer last (pages w) ≡ true → (p : ℕ) → p < 64 → number (page p w) ≤ last
pages-low last w e p h = rw (← (get_or-pages p w h)) (newer-at last p (pages w) e (omega (arith, length-pages w)))

pub none-left-bare : (c : Check) (w : List ℕ) → store.left c w [] ≡ 0
none-left-bare c w = left-none (state_of c []).opened (state_of c []) w (unfold at_end after_all first in refl)

pub saved-bare : (rs : List (List ℕ)) → rs ≡ saved_by [] rs
unfolding saved_by
saved-bare rs = refl

-- pages that the tests have found well formed, and a log of its check record alone
settled-bare : (w : List ℕ) (c : Check) → length w ≡ 16384 → Bytes w → Stored c [] → all_formed 0 (pages w) ≡ true
    → none_newer (state_of c []).number (pages w) ≡ true → well_formed (pages w) ≡ true → Settled store asked w w c []
settled-bare w c n b st f low well =
    record {
      formed = record { sized = (n, b); form = λ p h. formed-page p w f h };
      shape = (st.good, st.fits);
      low = λ p h. rw (← (number-at_end (log_of c []))) (pages-low (state_of c []).number w low p h);
      fine = (well, saved-bare (all_records (pages w)));
      complete = none-left-bare c w;
    }

-- the same pages in work and store, the numbers at the check record's end
live-bare : (rs : List (List ℕ)) (w b : List ℕ) (c : Check) → Bytes b → Settled store asked w w c [] → all_records (pages w) ≡ rs
    → Live rs w (lent 24 24 w w (image c []) b)
live-bare rs w b c h g e =
    record {
      records = e;
      top = c;
      recs = [];
      many = 0;
      reached = Reached.start g;
      log = refl;
      numbered = record { used = sym (bare-at c); forced = nothing-forced; among = omega arith };
      bytes = h;
    }

pub woken-live : (d : Lent) (c : Check) → InBytes d → (Calls.recover d).reply ≡ 0 → read_log d.log ≡ some (log_of c [])
    → Live (all_records (pages (Calls.recover d).now.work)) (Calls.recover d).now.work (Calls.recover d).now × ((Calls.recover d).now.forced ≡ 24)
unfolding three_sized pages_sized log_sized
woken-live d c b e r =
    let f : Found d c = found_of d c r e in
    let t = all_tail _ _ f.sized in
    let n : length d.store ≡ 16384 = eqb-true (length d.store) 16384 (all_head _ _ t) in
    let m : length d.log ≡ 8192 = eqb-true (length d.log) 8192 (all_head _ _ (all_tail _ _ t)) in
    let st : Stored c [] = stored-read d.log (log_of c []) m b.log r in
    let i : d.log ≡ image c [] = image-read d.log (log_of c []) m r in
    let g : Settled store asked d.store d.store c [] = settled-bare d.store c n b.store st f.form f.low f.well in
    let y : Left = left 0 (0 ∷ []) (lent 24 24 d.store d.store (image c []) d.bytes) in
    let z : Calls.recover d ≡ y =
    f.is ∙ ap₂ (λ (a : ℕ) (l : List ℕ). left 0 (0 ∷ []) (lent a a d.store d.store l d.bytes)) (bare-at c) i in (
      subst (λ (x : Left). Live (all_records (pages x.now.work)) x.now.work x.now) (sym z)
          (live-bare (all_records (pages d.store)) d.store d.bytes c b.bytes g refl),
      ap (λ (x : Left). x.now.forced) z,
    )

-- ---- a finished build

-- its check record: number 1, unit 0, LK absent
abbrev newest : Check
newest = record { number = 1; unit = 0; lk = none }

-- what an accepted build has tested
pub record Built (f g : ℕ) (d : Lent) : Type 0 where
  pub leaf-low : 1 ≤ f
  pub leaf-high : f ≤ 15
  pub base-low : 1 ≤ g
  pub base-high : g ≤ 30
  pub whole : length d.bytes % 16 ≡ 0
  pub order : ascend_records 0 (rows_of 16 (length d.bytes / 16) d.bytes) ≡ true
  pub leaves : length (leaf_groups f (rows_of 16 (length d.bytes / 16) d.bytes)) ≤ 56
  pub bases : length (base_groups f g (rows_of 16 (length d.bytes / 16) d.bytes)) ≤ 7
  pub is : Calls.build f g d
      ≡ left 0 [] (lent 24 24 (layout f g (rows_of 16 (length d.bytes / 16) d.bytes)) (layout f g (rows_of 16 (length d.bytes / 16) d.bytes))
      (new_log newest) d.bytes)

pub built_of : (f g : ℕ) (d : Lent) → (Calls.build f g d).reply ≡ 0 → Built f g d
unfolding Calls.build
built_of f g d e =
    let s = passed (three_sized d) (refused 0 1 d) _ (refused-bad 0 0 d) e in
    let e1 = onward (three_sized d) (refused 0 1 d) _ s e in
    let t = passed _ (refused 0 12 d) _ (refused-bad 0 11 d) e1 in
    let e2 = onward _ (refused 0 12 d) _ t e1 in
    let o = passed _ (refused 0 16 d) _ (refused-bad 0 15 d) e2 in
    let e3 = onward _ (refused 0 16 d) _ o e2 in
    let n = passed _ (refused 0 17 d) _ (refused-bad 0 16 d) e3 in
    let t1 = all_tail _ _ t in
    let t2 = all_tail _ _ t1 in
    let t3 = all_tail _ _ t2 in
    record {
      leaf-low = leb-true 1 f (all_head _ _ t);
      leaf-high = leb-true f 15 (all_head _ _ t1);
      base-low = leb-true 1 g (all_head _ _ t2);
      base-high = leb-true g 30 (all_head _ _ t3);
      whole = eqb-true (length d.bytes % 16) 0 (all_head _ _ (all_tail _ _ t3));
      order = o;
      leaves = leb-true _ 56 (both-1 _ _ n);
      bases = leb-true _ 7 (both-2 _ _ n);
      is = need-true (three_sized d) (refused 0 1 d) _ s
          ∙ need-true _ (refused 0 12 d) _ t
          ∙ need-true _ (refused 0 16 d) _ o
          ∙ need-true _ (refused 0 17 d) _ n;
    }

-- the check record of a new store
newest-stored : Stored newest []
newest-stored =
    record {
      good = good-bare newest (record { number = omega arith; unit = omega arith; lk = λ k e. absurd (none-not k e) });
      fits = omega (arith, bare-at newest);
    }

low-zero : (last : ℕ) (w : List ℕ) → ((p : ℕ) → p < 64 → number (page p w) ≡ 0) → none_newer last (pages w) ≡ true
low-zero last w h = none-newer last w (λ p k. omega (arith, h p k))

pub built-live : (f g : ℕ) (d : Lent) → Bytes d.bytes → (Calls.build f g d).reply ≡ 0
    → Live (rows_of 16 (length d.bytes / 16) d.bytes) (Calls.build f g d).now.work (Calls.build f g d).now × (24 ≡ (Calls.build f g d).now.forced)
built-live f g d b e =
    let x : Built f g d = built_of f g d e in
    let k : ℕ = length d.bytes / 16 in
    let rows : List (List ℕ) = rows_of 16 k d.bytes in
    let h : 16 * k ≤ length d.bytes = omega arith in
    let l : Laid (layout f g rows) rows =
    layout-laws f g rows x.leaf-low x.leaf-high x.base-low x.base-high (long-rows_of 16 k d.bytes h) (bytes-rows_of 16 k d.bytes b) x.order
    x.leaves x.bases in
    let s : Settled store asked (layout f g rows) (layout f g rows) newest [] =
    settled-bare (layout f g rows) newest l.whole l.bytes newest-stored l.form (low-zero _ (layout f g rows) l.stamps) l.tree in
    let z = x.is ∙ ap (λ (i : List ℕ). left 0 [] (lent 24 24 (layout f g rows) (layout f g rows) i d.bytes)) (sym (image-bare newest)) in (
      subst (λ (y : Left). Live rows y.now.work y.now) (sym z) (live-bare rows (layout f g rows) d.bytes newest b s l.holds),
      sym (ap (λ (y : Left). y.now.forced) z),
    )
