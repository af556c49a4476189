-- A record that an open put or delete appends: what its tests have shown, and the log that is read afterwards. Assumes nothing.
use Prim.Native.Nat.{ℕ, suc, ◌+◌, ◌-◌, ◌≤◌}
use native.Mathlib.Omega.{arith}
use mathlib.Core.Path.{◌≡◌, refl, sym, ap, ◌∙◌, subst}
use mathlib.Core.Bool.{true}
use mathlib.Core.List.{List, [], ◌∷◌, ◌++◌}
use mathlib.Core.Option.{Option, some}
use borrow.Author.Tests.{leb-true}
use lib.ListN.{length, length-append, length-map}
use Rattle.field.specs.Bytes.{Bytes, put, most4}
use Rattle.logs.specs.Record.{saves, Image, Rec, LB, LO, LI, LM, LG, LE, size, sizes, encode}
use Rattle.logs.specs.Log.{Open, State, images_of, after, Log, read_log, at_end}
use Rattle.logs.specs.Valid.{Follows, logs, Fits}
use Rattle.logs.proofs.Sound.{Imaged, no-image, an-image, Keeps, Waits, waits-save, sound-at_end}
use Rattle.logs.proofs.Read.{read_log-facts}
use Rattle.unit.specs.Next.{apply}
use Rattle.saving.specs.Rest.{Rest, refuses, lacks, image_of}
use Rattle.saving.proofs.Resumes.{length-logging}
use Rattle.saved.specs.Units.{Enters}
use Rattle.saved.proofs.Entered.{save-enters}
use Rattle.saved.proofs.Lacking.{Lacked, lacked, first-logs, save-saves}
use Rattle.store.specs.Calls.{went, and_then, log_length, append_all, conclude, lacked_by}
use Rattle.forward.proofs.Grows.{stopped-not, given-went, need-went, went-state, went-work, went-log, Grown, grows}

-- ---- what the tests have shown

-- the first of the records r, rs was appended, after the tests for all of them
pub record First (r : Rec) (rs : List Rec) (s : State) (w l : List ℕ) (s' : State) (w' l' : List ℕ) : Type 0 where
  pub fits : s.at + (size r + sizes rs) ≤ log_length
  pub numbered : s.number + suc (length rs) ≤ most4
  pub applied : apply (s.number + 1) r w ≡ some w'
  pub state : s' ≡ after s r
  pub written : l' ≡ put s.at (encode (s.number + 1) r) l

pub first-concluded : (r : Rec) (rs : List Rec) (s : State) (w l : List ℕ) (s' : State) (w' l' : List ℕ) → conclude 1 (lacks (r ∷ rs)) s w l ≡ went s' w' l'
    → First r rs s w l s' w' l'
unfolding conclude append_all and_then sizes
first-concluded r rs s w l s' w' l' e =
    let a = need-went _ 6 _ s' w' l' e in
    let b = need-went _ 7 _ s' w' l' a.1 in
    let c = given-went (apply (s.number + 1) r w) 5 _ s' w' l' b.1 in
    record {
      fits = leb-true _ log_length a.0;
      numbered = leb-true _ most4 b.0;
      applied = c.was ∙ ap some (went-work _ s' c.from w' _ l' c.gives);
      state = went-state _ s' c.from w' _ l' c.gives;
      written = went-log _ s' c.from w' _ l' c.gives;
    }

-- where something is lacked, there is a first record
pub record Concluded (rest : Rest) (s : State) (w l : List ℕ) (s' : State) (w' l' : List ℕ) : Type 0 where
  pub added : Rec
  pub others : List Rec
  pub lacked : rest ≡ lacks (added ∷ others)
  pub first : First added others s w l s' w' l'

abbrev Lacks : Rest → Type 0
Lacks rest = (rs : List Rec) → rest ≡ lacks rs → 1 ≤ length rs

by-rest : (rest : Rest) → Lacks rest → (s : State) (w l : List ℕ) (s' : State) (w' l' : List ℕ) → conclude 1 rest s w l ≡ went s' w' l' → Concluded rest s w l s' w' l'
by-rest (refuses r) f s w l s' w' l' e = absurd (stopped-not r s' w' l' (unfold conclude in e))
by-rest (lacks []) f s w l s' w' l' e = absurd (omega (arith, f [] refl))
by-rest (lacks (r ∷ rs)) f s w l s' w' l' e = record { added = r; others = rs; lacked = refl; first = first-concluded r rs s w l s' w' l' e }

-- ---- the record may come next

pub length_more : (is : List Image) (did : List Rec) → Imaged did → length (images_of did is) ≡ length did + length is
unfolding images_of
length_more is [] no-image = omega arith
length_more is (LB g ∷ did) p = elim p [ ]
length_more is (LO org dest rs ∷ did) p = elim p [ ]
length_more is (LI org dest back rs ∷ did) p = elim p [ ]
length_more is (LM base old new key ∷ did) p = elim p [ ]
length_more is (LE unit images ∷ did) p = elim p [ ]
length_more is (LG i ∷ did) (an-image p) = omega (arith, length_more (i ∷ is) did p)

-- the pages that an open put or delete changes
module _ (g : Log) (o : Open) (w l : List ℕ) (whole : length w ≡ 16384) (bw : Bytes w) (bl : Bytes l) (read : read_log l ≡ some g)
    (is : (at_end g).opened ≡ some o) (v : saves o.start ≡ true) where
  keeps : Keeps (at_end g).unit o
  keeps = waits-save (subst (Waits (at_end g).unit) is (sound-at_end g ((read_log-facts l g read).good bl)).waits) v

  -- LB's number
  abbrev first : ℕ
  first = (at_end g).number - length o.did

  abbrev done : List Image
  done = images_of o.did []

  pub save-lacks : (rs : List Rec) → lacked_by o (at_end g) w ≡ lacks rs → Lacked o.start first done w rs
  unfolding lacked_by
  save-lacks rs e = lacked o.start first done w rs whole bw e

  pub lacks-some : (rs : List Rec) → lacked_by o (at_end g) w ≡ lacks rs → 1 ≤ length rs
  lacks-some rs e =
      let k : Lacked o.start first done w rs = save-lacks rs e in
      rw (k.recs, length-logging k.others (LE o.start.unit (done ++ k.others) ∷ [])) (omega arith)

  module _ (few : length o.did ≤ (at_end g).number) (r : Rec) (rs : List Rec) (e : lacked_by o (at_end g) w ≡ lacks (r ∷ rs))
      (h : (at_end g).number + suc (length rs) ≤ most4) where
    all : Lacked o.start first done w (r ∷ rs)
    all = save-lacks (r ∷ rs) e

    -- LE's number
    abbrev last : ℕ
    last = first + length all.changed + 1

    counted : (length done ≡ length o.did) × (length all.changed ≡ length done + length all.others) × (suc (length rs) ≡ length all.others + 1)
    counted = (
      omega (arith, length_more [] o.did keeps.images),
      sym (length-map all.changed (image_of last)) ∙ ap (λ (x : List Image). length x) all.images ∙ length-append done all.others,
      ap (λ (x : List Rec). length x) all.recs ∙ length-logging all.others (LE o.start.unit (done ++ all.others) ∷ []),
    )

    last_fits : last ≤ most4
    last_fits = omega (arith, counted.0, counted.1, counted.2, h, few)

    enters : Enters o.start.unit last (done ++ all.others)
    enters =
        subst (Enters o.start.unit last) all.images
        (save-enters o.start.unit last all.changed w _ last_fits
        (save-saves o.start keeps.ok v keeps.whole keeps.bytes w all.tidy last last_fits all.changed all.are))

    pub save-fits : Fits (at_end g) r
    save-fits =
        let f = first-logs o.start.unit ((at_end g).number + 1) last done all.others r rs enters
        (λ q. omega (arith, counted.0, counted.1, ap (λ (x : List Image). length x) q, few)) (sym all.recs) in
        record {
          room = omega (arith, h);
          follows = subst (λ (x : Option Open). Follows (at_end g).unit x r) (sym is) (logs v f.0);
          bears = f.1;
        }

  -- ---- the log with the record more

  pub conclude-grows : length l ≡ 8192 → length o.did ≤ (at_end g).number → (s' : State) (w' l' : List ℕ)
      → (c : Concluded (lacked_by o (at_end g) w) (at_end g) w l s' w' l') → Grown g c.added w l s' w' l'
  conclude-grows n few s' w' l' c =
      grows g c.added w l s' w' l' n bw bl read (save-fits few c.added c.others c.lacked c.first.numbered) c.first.applied
      (omega (arith, c.first.fits)) c.first.state c.first.written

  pub conclude-went : (s' : State) (w' l' : List ℕ) → conclude 1 (lacked_by o (at_end g) w) (at_end g) w l ≡ went s' w' l'
      → Concluded (lacked_by o (at_end g) w) (at_end g) w l s' w' l'
  conclude-went s' w' l' e = by-rest (lacked_by o (at_end g) w) lacks-some (at_end g) w l s' w' l' e
