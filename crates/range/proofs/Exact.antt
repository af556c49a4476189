-- A RANGE READER GIVES EXACTLY LIST'S RECORDS, IN ORDER: the promises of `specs/Walked.antt`. Assumes nothing.
use Prim.Native.Nat.{ℕ, zero, suc, ◌+◌, ◌*◌, ◌≤◌, ◌<◌}
use native.Mathlib.Omega.{arith}
use mathlib.Core.Path.{◌≡◌, refl, sym, ap, ap₂, ◌∙◌}
use mathlib.Core.Bool.{true, false≢true}
use mathlib.Core.List.{List, [], ◌∷◌, ◌++◌}
use lib.ListN.{length, take, drop, get_or, length-drop}
use lib.Seq.{drop-cons, take_all}
use lib.Dec.{eqb}
use borrow.Author.Tests.{eq-eqb, eqb-true}
use Rattle.field.specs.Bytes.{part, Bytes, bytes4, most4}
use Rattle.field.proofs.Test.{pick_true, pick-false}
use Rattle.field.proofs.Part.{split, length_part, part-add}
use Rattle.field.proofs.Number.{bytes4-le4}
use Rattle.page.specs.Page.{leaf, key_of, value_of, count, rows}
use Rattle.page.specs.Pages.{page, pages, all_formed}
use Rattle.page.proofs.Rows.{length-rows, get_or_rows, each_at}
use Rattle.page.proofs.Order.{mark-at}
use Rattle.page.proofs.Kept.{bytes-rows}
use Rattle.page.proofs.Made.{Shaped}
use Rattle.page.proofs.Pages.{bytes-page, length-page}
use Rattle.tree.specs.Tree.{below, all_records, well_formed}
use Rattle.tree.specs.Answer.{between, in_bounds}
use Rattle.tree.specs.Reader.{Sound, from_root, to_come}
use Rattle.tree.specs.declared.walk.Place.{Place}
use Rattle.tree.proofs.Regions.{decide}
use Rattle.tree.proofs.Listing.{between-few}
use Rattle.tree.proofs.Onward.{come-end, all_from}
use Rattle.ranging.specs.Reading.{the_end, step, nothing, settled, next_from, first_from, start_from}
use Rattle.range.specs.Walked.{record_of, walked, up_to, GivesList, GivesAll, GivesRange, GivesNone}
use Rattle.ranging.specs.declared.Reached.{Reached}
use Rattle.ranging.proofs.Tested.{next-unsized, next-end, start-unsized, start-broken, start-unwell, start-well}
use Rattle.range.proofs.Bounds.{up_to-none, up_to-here, up_to-stop, up_to-between}
use Rattle.range.proofs.Standing.{leaf-kind, Seat, Standing, record_at, next-is, next-comes, come-now}
use Rattle.range.proofs.Few.{tree-few}
use Rattle.range.proofs.Arrive.{records-rise, records-small, first-comes}

-- ---- the record that a step gives

record-again : (r : List ℕ) → length r ≡ 16 → get_or r 0 0 ≡ 114 → get_or r 1 0 ≡ 99 → Bytes r → 114 ∷ 99 ∷ (bytes4 (key_of r) ++ value_of r) ≡ r
unfolding key_of value_of
record-again r long one two bytes =
    let back : part 2 14 r ≡ drop 2 r = unfold part in take_all 14 (drop 2 r) (rw (length-drop 2 r) (omega arith)) in
    let cut : part 2 14 r ≡ part 2 4 r ++ part 6 10 r = part-add 2 4 10 r in
    let whole : r ≡ get_or r 0 0 ∷ get_or r 1 0 ∷ drop 2 r = drop-cons r 0 0 (omega arith) ∙ ap (λ (l : List ℕ). get_or r 0 0 ∷ l) (drop-cons r 1 0 (omega arith)) in
    sym (whole ∙ rw (one, two, ← back, cut, bytes4-le4 r 2 bytes (omega arith)))

module _ (w : List ℕ) (s : Sound w) (bytes : Bytes w) (at : Place) (seat : Seat w at) (here : at.row < count (page at.leaf w)) where
  given : (next : Place) → record_of (step true (key_of (record_at w s at seat here)) (value_of (record_at w s at seat here)) next) ≡ record_at w s at seat here
  unfolding record_of
  given next =
      let pg : List ℕ = page at.leaf w in
      let k : Shaped leaf pg = leaf-kind w s at.leaf seat.spot seat.high in
      let h : at.row < length (rows 16 pg) = rw (length-rows 16 pg) here in
      let lp : length pg ≡ 256 = length-page at.leaf w s.form.whole seat.spot.inside in
      let long : length (part (16 + 16 * at.row) 16 pg) ≡ 16 = length_part (16 + 16 * at.row) 16 pg (omega (arith, k.room, here)) in
      let m = mark-at 114 99 0 at.row (rows 16 pg) k.order h in
      record-again (record_at w s at seat here) (ap length (get_or_rows 16 at.row pg here) ∙ long) m.0 m.1
      (each_at at.row (bytes-rows 16 pg (bytes-page at.leaf w bytes)) h)

-- ---- step by step

walked_more : (n : ℕ) (w : List ℕ) (at : Place) (k : ℕ) (v : List ℕ) (next : Place) → next_from w at ≡ step true k v next → walked (suc n) w at ≡ record_of
    (step true k v next) ∷ walked n w next
unfolding walked
walked_more n w at k v next e = rw e (pick_true _ _ _ refl)

walked_end : (n : ℕ) (w : List ℕ) (at : Place) → next_from w at ≡ nothing → walked n w at ≡ []
unfolding walked
walked_end zero w at e = refl
walked_end (suc n) w at e = rw e (pick-false _ _ _ refl)

walked-take : (n : ℕ) (w : List ℕ) → Sound w → Bytes w → (at : Place) → Standing w at → walked n w at ≡ take n (to_come w at)
walked-take zero w s bytes at st = unfold walked in refl
walked-take (suc n) w s bytes at st =
    split 0 at.leaf
    (λ h. let seat : Seat w at = st.seat h in
    let here = st.here h in
    let c = next-comes w s at seat here in
    let rest = walked-take n w s bytes (settled _ w) c.stands in
    walked_more n w at _ _ _ (next-is w s at seat here)
    ∙ ap₂ (λ (x : List ℕ) (l : List (List ℕ)). x ∷ l) (given w s bytes at seat here _) (rest ∙ ap (take n) c.left)
    ∙ sym (ap (take (suc n)) (come-now w s at seat here)))
    (λ h. let z : at.leaf ≡ 0 = omega arith in
    walked_end (suc n) w at (next-end w at s.form.whole z) ∙ sym (ap (take (suc n)) (come-end w at z)))

-- ---- from a start

pub gives-list : GivesList
unfolding in_bounds
gives-list w s bytes low n =
    let c = first-comes w s bytes low in
    ap (λ (z : Reached). walked n w z.at) (start-well w low s.form.whole s.form.forms s.well)
    ∙ walked-take n w s bytes (first_from low w) c.stands ∙ ap (take n) c.left

pub gives_all : GivesAll
gives_all w s bytes low =
    let few : length (in_bounds low most4 w) ≤ 840 = unfold in_bounds in omega (arith, between-few low most4 (all_records (pages w)), tree-few w s) in
    gives-list w s bytes low 840 ∙ take_all 840 (in_bounds low most4 w) few

up_to-take : (high n : ℕ) (rs : List (List ℕ)) → up_to high (take n rs) ≡ take n (up_to high rs)
up_to-take high zero rs = unfold up_to in refl
up_to-take high (suc n) [] = up_to-none high ∙ sym (ap (take (suc n)) (up_to-none high))
up_to-take high (suc n) (r ∷ rs) =
    split high (key_of r)
    (λ h. up_to-stop high r (take n rs) h ∙ sym (ap (take (suc n)) (up_to-stop high r rs h)))
    (λ h. up_to-here high r (take n rs) h ∙ ap (λ (l : List (List ℕ)). r ∷ l) (up_to-take high n rs) ∙ sym (ap (take (suc n)) (up_to-here high r rs h)))

pub gives-range : GivesRange
unfolding in_bounds
gives-range w s bytes low high n =
    let e : below 16 (pages w) (below 8 (pages w) (rows 8 (page 0 w))) ≡ all_records (pages w) = unfold from_root in all_from w in
    let b : up_to high (between low most4 (all_records (pages w))) ≡ between low high (all_records (pages w)) =
    rw (← e) (up_to-between low high most4 0 (below 16 (pages w) (below 8 (pages w) (rows 8 (page 0 w)))) (records-rise w s) (records-small w s bytes)) in
    ap (up_to high) (gives-list w s bytes low n) ∙ up_to-take high n (between low most4 (all_records (pages w))) ∙ ap (take n) b

-- ---- refused pages

end-gives : (w : List ℕ) → next_from w the_end ≡ nothing
end-gives w =
    decide (eqb (length w) 16384)
    (λ t. next-end w the_end (eqb-true _ _ t) refl)
    (λ f. next-unsized w the_end (λ e. false≢true (sym f ∙ eq-eqb (length w) 16384 e)))

refused_end : (w : List ℕ) (low : ℕ) → ((start_from w low).reply ≡ 0 → ⊥) → (start_from w low).at ≡ the_end
refused_end w low ne =
    decide (eqb (length w) 16384)
    (λ t. let whole = eqb-true (length w) 16384 t in
    decide (all_formed 0 (pages w))
    (λ f. decide (well_formed (pages w))
    (λ g. absurd (ne (ap (λ (z : Reached). z.reply) (start-well w low whole f g))))
    (λ g. ap (λ (z : Reached). z.at) (start-unwell w low whole f g)))
    (λ f. ap (λ (z : Reached). z.at) (start-broken w low whole f)))
    (λ t. ap (λ (z : Reached). z.at) (start-unsized w low (λ e. false≢true (sym t ∙ eq-eqb (length w) 16384 e))))

pub gives_none : GivesNone
gives_none w low n ne = ap (λ (x : Place). walked n w x) (refused_end w low ne) ∙ walked_end n w the_end (end-gives w)
