-- What the code finds of an open put or delete: the pages worked out, and what comes of comparing them with the images logged. Assumes nothing.
use Prim.Native.Nat.{ℕ, ◌+◌, ◌-◌}
use mathlib.Core.Path.{◌≡◌, sym, ◌∙◌}
use mathlib.Core.Bool.{Bool, true, false, not}
use mathlib.Core.List.{List, map}
use lib.ListN.{length, take, drop, get_or}
use borrow.Author.Tests.{not-true, not-false}
use Rattle.page.specs.Pages.{pages}
use Rattle.logs.specs.Scan.{images_on}
use Rattle.logs.specs.declared.scan.Walk.{Walk}
use Rattle.saving.specs.Save.{Sheet, cannot, sheets}
use Rattle.saving.specs.Draft.{Plans}
use Rattle.saving.specs.Rest.{image_of, begins}
use Rattle.saving.specs.declared.plan.Plan.{Plan}
use Rattle.resuming.specs.Lacking.{readied, worked, compared, drafted, type_on, record_on, first_number, last_number, lacked}
use Rattle.resuming.proofs.Stages.{worked-unready, compared-cannot, compared_same, compared-other, plan-refuses, plan-lists, length-drafted, plans-of}
use Rattle.resuming.proofs.Agrees.{record-lent}

pub found-unready : (l v : List ℕ) (w : Walk) (n : ℕ) → n ≡ readied v → (n ≡ 0 → ⊥) → (x : Plan) → ((w r : List ℕ) → Plans w r x (cannot n))
    → Plans v (record_on l w) x (lacked l w v)
unfolding lacked
found-unready l v w n e f x q =
    let u : worked (type_on l w) (record_on l w) v ≡ cannot n = worked-unready (type_on l w) (record_on l w) v n e f in
    plans-of v (record_on l w) x _ _ (q v (record_on l w)) (sym (compared-cannot (first_number w) (images_on l w) _ n u ∙ u))

module _ (l v : List ℕ) (w : Walk) (x : Plan)
    (p : Plans v (take (w.begin + 44 + 16 - (w.begin + 44)) (drop (w.begin + 44) l)) x
    (worked (get_or l (w.begin + 16) 0) (take (w.begin + 44 + 16 - (w.begin + 44)) (drop (w.begin + 44) l)) v)) where
  found : Plans v (record_on l w) x (worked (type_on l w) (record_on l w) v)
  unfolding type_on
  found = rw (← record-lent l w) p

  pub found-refuses : (x.reply ≡ 0 → ⊥) → Plans v (record_on l w) x (lacked l w v)
  unfolding lacked
  found-refuses f =
      plans-of v (record_on l w) x _ _ found (sym (compared-cannot (first_number w) (images_on l w) _ x.reply (plan-refuses v (record_on l w) x _ found f)))

  module _ (e : x.reply ≡ 0) where
    pub found-lists : Plans v (record_on l w) x (sheets (drafted (pages v) (record_on l w) x))
    found-lists = plans-of v (record_on l w) x _ _ found (plan-lists v (record_on l w) x _ found e)

    module _ (z : Bool)
        (ez : z ≡ begins (last_number w x.count) (images_on l w) (map (image_of (last_number w x.count)) (drafted (pages v) (record_on l w) x))) where
      pub found-other : not z ≡ true → (y : Plan) → ((w r : List ℕ) → Plans w r y (cannot 5)) → Plans v (record_on l w) y (lacked l w v)
      unfolding lacked last_number
      found-other t y q =
          let r : List ℕ = record_on l w in
          let xs : List Sheet = drafted (pages v) r x in
          let k : length xs ≡ x.count = length-drafted v r x _ found in
          let c : compared (first_number w) (images_on l w) (sheets xs) ≡ cannot 5 = compared-other (first_number w) (images_on l w) xs x.count k z ez (not-true z t) in
          let d : compared (first_number w) (images_on l w) (worked (type_on l w) r v) ≡ cannot 5 = rw (plan-lists v r x _ found e) c in
          plans-of v r y _ _ (q v r) (sym d)

      pub found-same : not z ≡ false → Plans v (record_on l w) x (lacked l w v)
      unfolding lacked last_number
      found-same t =
          let r : List ℕ = record_on l w in
          let xs : List Sheet = drafted (pages v) r x in
          let k : length xs ≡ x.count = length-drafted v r x _ found in
          let c : compared (first_number w) (images_on l w) (sheets xs) ≡ sheets xs = compared_same (first_number w) (images_on l w) xs x.count k z ez (not-false z t) in
          let d : compared (first_number w) (images_on l w) (worked (type_on l w) r v) ≡ sheets xs = rw (plan-lists v r x _ found e) c in
          plans-of v r x _ _ found-lists (sym d)
