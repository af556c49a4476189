-- What a put or delete comes to: four pages changed at most, or a refusal, 18 or 15; so that no refusal tells the reply 0. Assumes nothing.
use Prim.Native.Nat.{ℕ, suc, ◌≤◌}
use native.Mathlib.Omega.{arith}
use mathlib.Core.Path.{◌≡◌, refl, ap, ◌∙◌}
use mathlib.Core.Logic.{◌⊎◌, inl, inr, ⊎_elim}
use mathlib.Core.Bool.{Bool, true, false}
use mathlib.Core.List.{List, [], ◌∷◌}
use lib.ListN.{length}
use lib.Dec.{ltb}
use Rattle.field.specs.Test.{need}
use Rattle.field.proofs.Test.{pick-either}
use Rattle.tree.specs.Tree.{root_entries}
use Rattle.logs.specs.Record.{Begin, Image}
use Rattle.saving.specs.Save.{before, through, behind, Sheet, insert, in_order, Changed, cannot, sheets, put_first, split_leaf, put_into, put_sheets, right_lowered, empty_out, delete_from, delete_sheets}
use Rattle.saving.specs.Rest.{Rest, refuses, lacks, sheets_of, imaging, saving, resumed}

-- ---- the pages changed

length-insert : (x : Sheet) (xs : List Sheet) → length (insert x xs) ≡ suc (length xs)
unfolding insert
length-insert x [] = refl
length-insert x (y ∷ ys) =
    pick-either (λ (zs : List Sheet). length zs ≡ suc (suc (length ys))) (ltb x.at y.at) (x ∷ y ∷ ys) (y ∷ insert x ys) refl (ap suc (length-insert x ys))

length-in_order : (xs : List Sheet) → length (in_order xs) ≡ length xs
unfolding in_order
length-in_order [] = refl
length-in_order (x ∷ xs) = length-insert x (in_order xs) ∙ ap suc (length-in_order xs)

order-few : (xs : List Sheet) → length xs ≤ 4 → length (in_order xs) ≤ 4
order-few xs h = omega (arith, length-in_order xs, h)

length-right : (pre : List (List ℕ)) (e : List ℕ) (post ps : List (List ℕ)) → length (right_lowered pre e post ps) ≤ 1
unfolding right_lowered
length-right [] e [] ps = omega arith
length-right [] e (f ∷ post) ps = omega arith
length-right (x ∷ pre) e post ps = omega arith

abbrev pub Comes : Changed → Type 0
Comes (cannot reply) = (reply ≡ 18) ⊎ (reply ≡ 15)
Comes (sheets xs) = length xs ≤ 4

need-comes : (b : Bool) (reply : ℕ) (y : Changed) → (reply ≡ 18) ⊎ (reply ≡ 15) → Comes y → Comes (need b (cannot reply) y)
unfolding need
need-comes true reply y h s = s
need-comes false reply y h s = h

put-comes : (r : List ℕ) (ps : List (List ℕ)) → Comes (put_sheets r ps)
unfolding put_sheets put_first put_into split_leaf
put-comes r ps =
    pick-either Comes _ _ _
    (need-comes _ 18 _ (inl refl) (omega arith))
    (pick-either Comes _ _ _ (omega arith) (need-comes _ 18 _ (inl refl) (order-few _ (omega arith))))

emptied-comes : (key b p : ℕ) (ps : List (List ℕ)) → Comes (empty_out key b p ps)
unfolding empty_out
emptied-comes key b p ps =
    let top : List (List ℕ) = root_entries ps in
    pick-either Comes _ _ _ (order-few _ (omega arith)) (order-few _ (omega (arith, length-right (before key top) (through key top) (behind key top) ps)))

delete-comes : (key : ℕ) (ps : List (List ℕ)) → Comes (delete_sheets key ps)
unfolding delete_sheets delete_from
delete-comes key ps =
    need-comes _ 15 _ (inr refl) (need-comes _ 15 _ (inr refl) (pick-either Comes _ _ _ (omega arith) (emptied-comes key _ _ ps)))

pub sheets-come : (g : Begin) (ps : List (List ℕ)) → Comes (sheets_of g ps)
unfolding sheets_of
sheets-come g ps = pick-either Comes _ _ _ (put-comes _ ps) (delete-comes _ ps)

-- ---- the records lacked

abbrev Tells : Rest → Type 0
Tells (refuses reply) = reply ≡ 0 → ⊥
Tells (lacks rs) = Unit {0}

need-tells : (b : Bool) (reply : ℕ) (y : Rest) → (reply ≡ 0 → ⊥) → Tells y → Tells (need b (refuses reply) y)
unfolding need
need-tells true reply y h s = s
need-tells false reply y h s = h

saving-tells : (g : Begin) (n : ℕ) (is : List Image) (c : Changed) → Comes c → Tells (saving g n is c)
unfolding saving imaging
saving-tells g n is (cannot reply) s = λ e. ⊎_elim (λ (q : reply ≡ 18). omega (arith, e, q)) (λ (q : reply ≡ 15). omega (arith, e, q)) s
saving-tells g n is (sheets xs) s = need-tells _ 5 _ (λ e. omega (arith, e)) tt

tells : (g : Begin) (n : ℕ) (is : List Image) (w : List ℕ) → Tells (resumed g n is w)
unfolding resumed
tells g n is w =
    need-tells _ 3 _ (λ e. omega (arith, e)) (need-tells _ 8 _ (λ e. omega (arith, e)) (saving-tells g n is (sheets_of g _) (sheets-come g _)))

refusal : (x : Rest) (reply : ℕ) → Tells x → x ≡ refuses reply → reply ≡ 0 → ⊥
refusal (refuses q) reply t e z = t (let i : q ≡ reply = cc in i ∙ z)
refusal (lacks rs) reply t e z = let y : ◌≡◌ {A = ℕ} 0 1 = cc in omega arith

pub resumed-tells : (g : Begin) (n : ℕ) (is : List Image) (w : List ℕ) (reply : ℕ) → resumed g n is w ≡ refuses reply → reply ≡ 0 → ⊥
resumed-tells g n is w reply e z = refusal (resumed g n is w) reply (tells g n is w) e z
