-- What comes of carrying an open put or delete on: a refusal, the next LG, or the LE. Assumes nothing.
use Prim.Native.Nat.{ℕ, ◌+◌, ◌-◌, ◌*◌, ◌≤◌, ◌<◌}
use native.Mathlib.Omega.{arith}
use mathlib.Core.Path.{◌≡◌, refl, sym, ap, ap₂, ◌∙◌}
use mathlib.Core.Bool.{Bool, true, false}
use mathlib.Core.List.{List, [], ◌∷◌, ◌++◌, map}
use mathlib.Core.Option.{some}
use lib.ListN.{length, take, drop, get_or, length-map, drop_of_length-le}
use lib.Seq.{get_or-drop}
use lib.Dec.{leb}
use borrow.Author.Tests.{leb-true, le-leb, lt-leb}
use Rattle.field.specs.Test.{need}
use Rattle.field.specs.Bytes.{part, put, most4}
use Rattle.field.proofs.Test.{pick_true, need-true, need-false, given-some}
use Rattle.field.proofs.Part.{part-drop}
use Rattle.page.specs.Pages.{pages}
use Rattle.logs.specs.Record.{length_of, Image, Rec, LG, LE, kind_of, carried, size, body, previous, encode}
use Rattle.logs.specs.Log.{read_begin}
use Rattle.logs.specs.Valid.{Filed}
use Rattle.logs.specs.Scan.{images_in, images_on}
use Rattle.logs.specs.declared.scan.Walk.{Walk}
use Rattle.unit.specs.Next.{targets, changed_at, apply}
use Rattle.unit.specs.Made.{ended}
use Rattle.unit.proofs.Ended.{end-applies}
use Rattle.saving.specs.Save.{Sheet, drawn, sheets}
use Rattle.saving.specs.Draft.{sheet_of, draft_at, Plans}
use Rattle.saving.specs.Rest.{image_of, Rest, begins, logging}
use Rattle.saving.specs.declared.draft.Draft.{Draft}
use Rattle.saving.specs.declared.plan.Plan.{Plan}
use Rattle.resuming.specs.Lacking.{worked, compared, lacking, drafted, Unfinished, type_on, record_on, first_number, last_number, lacked}
use Rattle.resuming.specs.Concluded.{Outcome, outcome, first_of, concluded, rest_on, concluded_on, tested}
use Rattle.resuming.proofs.Stages.{resumed-by, compared-begins, plan-refuses, plan-lists, length-drafted, plans-of, lacking-sizes, lacking-count}
use Rattle.resuming.proofs.Agrees.{many-images, record-lent, images-lent, begins-few, begins-all, draft-next}

-- ---- tests 6 and 7

module _ (at n k : ℕ) where
  pub tested-full! : 8192 < at + (272 * k + 16) → 6 ≡ tested at n k
  unfolding tested length_of
  tested-full! h = sym (need-false _ _ _ (lt-leb (at + (272 * k + 16)) 8192 h))

  module _ (h : at + (272 * k + 16) ≤ 8192) where
    pub tested-last! : 4294967295 < n + (k + 1) → 7 ≡ tested at n k
    unfolding tested length_of
    tested-last! m = sym (need-true _ _ _ (le-leb (at + (272 * k + 16)) 8192 h) ∙ need-false _ _ _ (lt-leb (n + (k + 1)) most4 m))

    pub tested-ok! : n + (k + 1) ≤ 4294967295 → 0 ≡ tested at n k
    unfolding tested length_of
    tested-ok! m = sym (need-true _ _ _ (le-leb (at + (272 * k + 16)) 8192 h) ∙ need-true _ _ _ (le-leb (n + (k + 1)) most4 m))

passed : (a b : Bool) → ◌≡◌ {A = ℕ} (need a 6 (need b 7 0)) 0 → (a ≡ true) × (b ≡ true)
unfolding need
passed true true e = (refl, refl)
passed true false e = absurd (let y : ⊥ = omega arith in y)
passed false b e = absurd (let y : ⊥ = omega arith in y)

-- where both hold, there is room, and there are numbers
pub tested-room : (at n k : ℕ) → tested at n k ≡ 0 → (at + (272 * k + 16) ≤ 8192) × (n + (k + 1) ≤ 4294967295)
unfolding tested length_of
tested-room at n k e = let p = passed _ _ e in (leb-true _ _ p.0, leb-true _ _ p.1)

module _ (v l : List ℕ) (o : Outcome) where
  stopped_by : (a b : Bool) (reply : ℕ) → reply ≡ need a 6 (need b 7 0) → (reply ≡ 0 → ⊥) → outcome reply v l ≡ need a (outcome 6 v l) (need b (outcome 7 v l) o)
  unfolding need
  stopped_by true true reply e f = absurd (f e)
  stopped_by true false reply e f = rw e
  stopped_by false b reply e f = rw e

  passed-by : (a b : Bool) → ◌≡◌ {A = ℕ} (need a 6 (need b 7 0)) 0 → need a (outcome 6 v l) (need b (outcome 7 v l) o) ≡ o
  unfolding need
  passed-by true true e = refl
  passed-by true false e = absurd (let y : ⊥ = omega arith in y)
  passed-by false b e = absurd (let y : ⊥ = omega arith in y)

-- ---- what is lacked

image-applies : (n : ℕ) (i : Image) (v : List ℕ) → apply n (LG i) v ≡ some v
unfolding apply targets changed_at
image-applies n i v = refl

module _ (l v : List ℕ) (w : Walk) (u : Unfinished l w) (x : Plan) (p : Plans v (record_on l w) x (lacked l w v)) where
  abbrev is : List Image
  is = images_on l w

  abbrev go : Rest → Outcome
  go rest = concluded w.at w.number.0 rest v l

  rest-is : rest_on l w v ≡ lacking w.unit.0 (first_number w) is (lacked l w v)
  unfolding rest_on lacked read_begin type_on record_on
  rest-is =
      let b : List ℕ = drop w.begin l in
      let t : get_or b 16 0 ≡ get_or l (w.begin + 16) 0 = get_or-drop w.begin l 16 0 in
      let s : get_or (read_begin w.unit.0 b).saved 0 [] ≡ part (w.begin + 44) 16 l =
      ap (λ (y : List (List ℕ)). get_or y 0 []) (pick_true _ _ _ u.saves) ∙ part-drop w.begin 44 16 l in
      resumed-by (read_begin w.unit.0 b) (first_number w) is v
      ∙ ap₂ (λ (a : ℕ) (r : List ℕ). lacking w.unit.0 (first_number w) is (compared (first_number w) is (worked a r v))) t s

  pub carry-refused : (x.reply ≡ 0 → ⊥) → outcome x.reply v l ≡ concluded_on w v l
  unfolding concluded_on concluded lacking
  carry-refused f = sym (ap go (rest-is ∙ ap (lacking w.unit.0 (first_number w) is) (plan-refuses v (record_on l w) x _ p f)))

  module _ (e : x.reply ≡ 0) where
    abbrev xs : List Sheet
    xs = drafted (pages v) (record_on l w) x

    abbrev last : ℕ
    last = first_number w + length xs + 1

    abbrev js : List Image
    js = map (image_of last) xs

    abbrev recs : List Rec
    recs = logging (drop (length is) js) ++ (LE w.unit.0 js ∷ [])

    many : length xs ≡ x.count
    many = length-drafted v (record_on l w) x _ p

    lists : lacked l w v ≡ sheets xs
    lists = plan-lists v (record_on l w) x _ p e

    pub carry-lists : Plans v (record_on l w) x (sheets xs)
    carry-lists = plans-of v (record_on l w) x _ _ p lists

    begun : begins last is js ≡ true
    unfolding lacked
    begun = compared-begins (first_number w) is (worked (type_on l w) (record_on l w) v) xs lists

    length-js : length js ≡ x.count
    length-js = length-map xs (image_of last) ∙ many

    pub done-few : w.done ≤ x.count
    done-few = omega (arith, begins-few last is js begun, length-js, many-images l w)

    -- the tests, by the images that are not logged yet
    outcome-is : concluded_on w v l
        ≡ need (leb (w.at + (272 * (x.count - w.done) + 16)) 8192) (outcome 6 v l)
        (need (leb (w.number.0 + (x.count - w.done + 1)) most4) (outcome 7 v l) (first_of w.at w.number.0 recs v l))
    unfolding concluded_on concluded lacking
    outcome-is =
        ap go (rest-is ∙ ap (lacking w.unit.0 (first_number w) is) lists)
        ∙ rw (lacking-sizes w.unit.0 (first_number w) is xs, lacking-count w.unit.0 (first_number w) is xs, many, many-images l w)

    pub carry-stopped : (reply : ℕ) → reply ≡ tested w.at w.number.0 (x.count - w.done) → (reply ≡ 0 → ⊥) → outcome reply v l ≡ concluded_on w v l
    unfolding tested length_of
    carry-stopped reply q f = stopped_by v l _ _ _ reply q f ∙ sym outcome-is

    module _ (q : tested w.at w.number.0 (x.count - w.done) ≡ 0) where
      first-is : concluded_on w v l ≡ first_of w.at w.number.0 recs v l
      unfolding tested length_of
      first-is = outcome-is ∙ passed-by v l _ _ _ q

      -- the LE
      pub carry-end : x.count - w.done ≡ 0 → (v' l' : List ℕ) → v' ≡ ended (w.number.0 + 1) is v
          → l' ≡ put w.at (encode (w.number.0 + 1) (LE w.unit.0 is)) l → outcome 0 v' l' ≡ concluded_on w v l
      unfolding first_of logging
      carry-end h v' l' ev el =
          let a : length js ≤ length is = omega (arith, h, length-js, many-images l w) in
          let b : is ≡ js = begins-all last is js begun a in
          let d : drop (length is) js ≡ [] = drop_of_length-le js a in
          let f : recs ≡ LE w.unit.0 is ∷ [] = rw (d, ← b) in
          let g : first_of w.at w.number.0 (LE w.unit.0 is ∷ []) v l ≡ outcome 0 v' l' =
          given-some _ _ _ _ (end-applies w.unit.0 (w.number.0 + 1) is v u.filed) ∙ rw (← ev, ← el) in
          sym (first-is ∙ ap (λ (rs : List Rec). first_of w.at w.number.0 rs v l) f ∙ g)

      -- the next LG
      pub carry-image : (x.count - w.done ≡ 0 → ⊥) → (d : Draft) → d ≡ draft_at x w.done → (l' : List ℕ)
          → l' ≡ put w.at (encode (w.number.0 + 1) (LG (image_of (last_number w x.count) (sheet_of (pages v) (record_on l w) d)))) l → outcome 0 v l' ≡ concluded_on w v l
      unfolding first_of logging last_number
      carry-image h d ed l' el =
          let i : Image = image_of last (sheet_of (pages v) (record_on l w) (draft_at x w.done)) in
          let k : w.done < x.count = omega (arith, h, done-few) in
          let a : drop (length is) js ≡ i ∷ drop (w.done + 1) js = ap (λ (y : ℕ). drop y js) (many-images l w) ∙ draft-next v (record_on l w) x carry-lists last w.done k in
          let f : recs ≡ LG i ∷ (logging (drop (w.done + 1) js) ++ (LE w.unit.0 js ∷ [])) = ap (λ (y : List Image). logging y ++ (LE w.unit.0 js ∷ [])) a in
          let g : first_of w.at w.number.0 (LG i ∷ (logging (drop (w.done + 1) js) ++ (LE w.unit.0 js ∷ []))) v l ≡ outcome 0 v l' =
          given-some _ _ _ _ (image-applies (w.number.0 + 1) i v) ∙ rw (el, ed, many) in
          sym (first-is ∙ ap (λ (rs : List Rec). first_of w.at w.number.0 rs v l) f ∙ g)

-- ---- the two records as the code writes them

module _ (l v : List ℕ) (w : Walk) where
  image-is : (n : ℕ) (r : List ℕ) (d : Draft) → record { at = d.page.0; bytes = drawn n (sheet_of (pages v) r d) } ≡ image_of n (sheet_of (pages v) r d)
  unfolding image_of sheet_of
  image-is n r d = refl

  pub image-written : (n k last : ℕ) → last ≡ last_number w k → (d : Draft) (pg : List ℕ)
      → pg ≡ drawn last (sheet_of (pages v) (take (w.begin + 44 + 16 - (w.begin + 44)) (drop (w.begin + 44) l)) d) → (l' : List ℕ)
      → l' ≡ put w.at (encode n (LG (record { at = d.page.0; bytes = pg }))) l
      → l' ≡ put w.at (encode n (LG (image_of (last_number w k) (sheet_of (pages v) (record_on l w) d)))) l
  image-written n k last ek d pg e l' el =
      let q : pg ≡ drawn (last_number w k) (sheet_of (pages v) (record_on l w) d) = e ∙ rw (ek, record-lent l w) in
      el ∙ rw q (ap (λ (i : Image). put w.at (encode n (LG i)) l) (image-is (last_number w k) (record_on l w) d))

  pub end-put : (n : ℕ) (l' : List ℕ) → l' ≡ put w.at (encode n (LE w.unit.0 [])) l → l' ≡ put w.at (encode n (LE w.unit.0 (images_on l w))) l
  unfolding encode size carried kind_of previous body
  end-put n l' e = e

  pub images-filed : Filed 0 (images_on l w) → Filed 0 (images_in w.done (take (length l - (w.begin + 44 + 16)) (drop (w.begin + 44 + 16) l)))
  images-filed f = rw (images-lent l w) f

  pub images-laid : (n : ℕ) (v' : List ℕ) → v' ≡ ended n (images_in w.done (take (length l - (w.begin + 44 + 16)) (drop (w.begin + 44 + 16) l))) v → v' ≡ ended n (images_on l w) v
  images-laid n v' e = e ∙ rw (images-lent l w)
