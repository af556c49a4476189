-- "the key's leaf always": whatever pages a put or a delete changes, the leaf that the key belongs to is among them. Assumes nothing.
use Prim.Native.Nat.{ℕ}
use native.Mathlib.Omega.{arith}
use mathlib.Core.Path.{◌≡◌, refl, sym, ◌∙◌}
use mathlib.Core.Logic.{inl, inr}
use mathlib.Core.Bool.{Bool}
use mathlib.Core.List.{List, [], ◌∷◌}
use borrow.Author.Tests.{ne_eqb}
use lib.Dec.{eqb, ltb}
use lib.ListN.{length}
use Rattle.field.specs.Test.{pick, need}
use Rattle.field.proofs.Test.{pick-false, pick-either}
use Rattle.page.specs.Page.{key_of}
use Rattle.tree.specs.Tree.{root_entries}
use Rattle.saving.specs.Save.{Sheet, insert, in_order, Changed, cannot, sheets, split_leaf, put_into, base_for, leaf_for, put_first, put_sheets}
use Rattle.saving.specs.Save.{empty_out, delete_from, delete_sheets}
use Rattle.saved.specs.Saved.{Among, PutHolds, DeleteHolds}
use Rattle.saved.proofs.Saves.{given-one, given-past}

-- ---- in number order

among-head : (p : ℕ) (x : Sheet) (ys : List Sheet) → x.at ≡ p → Among p (insert x ys)
unfolding insert
among-head p x [] e = inl e
among-head p x (y ∷ ys) e =
    pick-either (λ (l : List Sheet). Among p l) (ltb x.at y.at) (x ∷ y ∷ ys) (y ∷ insert x ys) (inl e) (inr (among-head p x ys e))

among-tail : (p : ℕ) (x : Sheet) (ys : List Sheet) → Among p ys → Among p (insert x ys)
unfolding insert
among-tail p x [] a = absurd a
among-tail p x (y ∷ ys) (inl e) =
    pick-either (λ (l : List Sheet). Among p l) (ltb x.at y.at) (x ∷ y ∷ ys) (y ∷ insert x ys) (inr (inl e)) (inl e)
among-tail p x (y ∷ ys) (inr a) =
    pick-either (λ (l : List Sheet). Among p l) (ltb x.at y.at) (x ∷ y ∷ ys) (y ∷ insert x ys) (inr (inr a)) (inr (among-tail p x ys a))

among-order : (p : ℕ) (xs : List Sheet) → Among p xs → Among p (in_order xs)
unfolding in_order
among-order p [] a = absurd a
among-order p (x ∷ xs) (inl e) = among-head p x (in_order xs) e
among-order p (x ∷ xs) (inr a) = among-tail p x (in_order xs) (among-order p xs a)

-- ---- of what is given

-- whatever sheets are given, one of them is for page p
abbrev Has : ℕ → Changed → Type 0
Has p c = (xs : List Sheet) → c ≡ sheets xs → Among p xs

has-sheets : (p : ℕ) (ys : List Sheet) → Among p ys → Has p (sheets ys)
has-sheets p ys a xs e = rw (given-one ys xs e) at a

has-need : (p : ℕ) (t : Bool) (m : ℕ) (c : Changed) → Has p c → Has p (need t (cannot m) c)
has-need p t m c h xs e = h xs (given-past t m c xs e).1

has-pick : (p : ℕ) (t : Bool) (c d : Changed) → Has p c → Has p d → Has p (pick t c d)
has-pick p t c d h k = pick-either (λ (z : Changed). Has p z) t c d h k

pub put_holds : PutHolds
unfolding put_sheets put_into split_leaf
put_holds r ps xs h c =
    has-pick (leaf_for (key_of r) ps) _ _ _ (has-sheets _ _ (inl refl)) (has-need _ _ 18 _ (has-sheets _ _ (among-order _ _ (inr (inl refl))))) xs
    (sym (pick-false (eqb (length (root_entries ps)) 0) (put_first r ps) (put_into r (base_for (key_of r) ps) (leaf_for (key_of r) ps) ps)
    (ne_eqb (length (root_entries ps)) 0 (λ e. omega arith)))
    ∙ c)

pub delete-holds : DeleteHolds
unfolding delete_sheets delete_from empty_out
delete-holds key ps xs c =
    has-need (leaf_for key ps) _ 15 _
    (has-need _ _ 15 _
    (has-pick _ _ _ _ (has-sheets _ _ (inl refl))
    (has-pick _ _ _ _ (has-sheets _ _ (among-order _ _ (inr (inl refl)))) (has-sheets _ _ (among-order _ _ (inr (inr (inl refl))))))))
    xs c
