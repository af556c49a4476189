-- Laws of rows taken in groups: joined, the groups are the rows again; none is empty and none has more than k rows; and what
-- holds of the rows, each by itself or in their order, holds in every group. Assumes nothing.
use Prim.Native.Nat.{ℕ, zero, suc, ◌+◌, ◌≤◌, ◌<◌}
use native.Mathlib.Nat.{not-suc-le-zero}
use native.Mathlib.Omega.{arith}
use mathlib.Core.Path.{◌≡◌, refl, ap, ◌∙◌}
use mathlib.Core.Bool.{true}
use mathlib.Core.List.{List, [], ◌∷◌, ◌++◌}
use lib.ListN.{length, take, drop, get_or, take-append-drop, length-take, length-drop}
use Rattle.field.proofs.Test.{both-1, both-2, both-intro}
use Rattle.page.specs.Page.{Kind, key_of, ascend, pointing}
use Rattle.page.specs.Each.{Each, nil, cons, Long}
use Rattle.page.proofs.Order.{First, ascend-facts, ascend-lower, ascend-append}
use Rattle.page.proofs.Made.{Fill}
use Rattle.tree.specs.Layout.{groups}

-- the rows of groups, one group after the other
abbrev pub flat : List (List (List ℕ)) → List (List ℕ)
flat [] = []
flat (g ∷ gs) = g ++ flat gs

-- every group has a row, and at most k of them
pub data Sized (k : ℕ) : List (List (List ℕ)) → Type 0 where
  done : Sized k []
  more : {g : List (List ℕ)} {gs : List (List (List ℕ))} → 1 ≤ length g → length g ≤ k → Sized k gs → Sized k (g ∷ gs)

-- the groups' rows are the rows that were grouped
pub flat-groups : (n k : ℕ) (rs : List (List ℕ)) → 1 ≤ k → length rs ≤ n → flat (groups n k rs) ≡ rs
unfolding groups
flat-groups zero k [] h m = refl
flat-groups zero k (r ∷ rs) h m = absurd (not-suc-le-zero m)
flat-groups (suc n) k [] h m = refl
flat-groups (suc n) k (r ∷ rs) h m =
    let l : length (drop k (r ∷ rs)) ≤ n = rw (length-drop k (r ∷ rs)) (omega arith) in
    ap (λ (x : List (List ℕ)). take k (r ∷ rs) ++ x) (flat-groups n k (drop k (r ∷ rs)) h l) ∙ take-append-drop k (r ∷ rs)

-- each group has a row, and at most k
pub sized-groups : (n k : ℕ) (rs : List (List ℕ)) → 1 ≤ k → Sized k (groups n k rs)
unfolding groups
sized-groups zero k rs h = done
sized-groups (suc n) k [] h = done
sized-groups (suc n) k (r ∷ rs) h =
    let l = length-take k (r ∷ rs) in
    let some-rows : 1 ≤ length (take k (r ∷ rs)) = omega arith in
    let few : length (take k (r ∷ rs)) ≤ k = omega arith in
    more some-rows few (sized-groups n k (drop k (r ∷ rs)) h)

-- how many rows group i has
pub sized-at : {k : ℕ} {gs : List (List (List ℕ))} (i : ℕ) → Sized k gs → i < length gs
    → (1 ≤ length (get_or gs i [])) × (length (get_or gs i []) ≤ k)
sized-at i done h = absurd (not-suc-le-zero h)
sized-at zero (more a b s) h = (a, b)
sized-at (suc i) (more a b s) h = sized-at i s (omega arith)

module _ {P : List ℕ → Type 0} where
  -- what holds of each row holds of the rows in front
  pub each-front : (a b : List (List ℕ)) → Each P (a ++ b) → Each P a
  each-front [] b p = nil
  each-front (x ∷ xs) b (cons h p) = cons h (each-front xs b p)

  -- and of those behind
  pub each_back : (a b : List (List ℕ)) → Each P (a ++ b) → Each P b
  each_back [] b p = p
  each_back (x ∷ xs) b (cons h p) = each_back xs b p

  -- and of the rows of group i
  pub each-group : (i : ℕ) (gs : List (List (List ℕ))) → Each P (flat gs) → i < length gs → Each P (get_or gs i [])
  each-group i [] p h = absurd (not-suc-le-zero h)
  each-group zero (g ∷ gs) p h = each-front g (flat gs) p
  each-group (suc i) (g ∷ gs) p h = each-group i gs (each_back g (flat gs) p) (omega arith)

module _ (a b : ℕ) where
  -- rows in order are in order without their front
  pub ascend-back : (lo : ℕ) (xs ys : List (List ℕ)) → ascend a b lo (xs ++ ys) ≡ true → ascend a b lo ys ≡ true
  ascend-back lo [] ys e = e
  ascend-back lo (r ∷ rs) ys e =
      let f : First a b lo r (rs ++ ys) = ascend-facts a b lo r (rs ++ ys) e in
      ascend-lower a b (key_of r + 1) lo ys (omega (arith, f.low)) (ascend-back (key_of r + 1) rs ys f.after)

  -- and group i is
  pub ascend-group : (lo i : ℕ) (gs : List (List (List ℕ))) → ascend a b lo (flat gs) ≡ true → i < length gs
      → ascend a b lo (get_or gs i []) ≡ true
  ascend-group lo i [] e h = absurd (not-suc-le-zero h)
  ascend-group lo zero (g ∷ gs) e h = both-1 _ _ (rw (ascend-append a b lo g (flat gs)) at e)
  ascend-group lo (suc i) (g ∷ gs) e h = ascend-group lo i gs (ascend-back lo g (flat gs) e) (omega arith)

-- entries that point into a range: those in front do
pointing-front : (from to : ℕ) (xs ys : List (List ℕ)) → pointing from to (xs ++ ys) ≡ true → pointing from to xs ≡ true
unfolding pointing
pointing-front from to [] ys e = refl
pointing-front from to (r ∷ rs) ys e =
    both-intro _ _ (both-1 _ _ e) (both-intro _ _ (both-1 _ _ (both-2 _ _ e)) (pointing-front from to rs ys (both-2 _ _ (both-2 _ _ e))))

-- and those behind
pointing-back : (from to : ℕ) (xs ys : List (List ℕ)) → pointing from to (xs ++ ys) ≡ true → pointing from to ys ≡ true
unfolding pointing
pointing-back from to [] ys e = e
pointing-back from to (r ∷ rs) ys e = pointing-back from to rs ys (both-2 _ _ (both-2 _ _ e))

-- and those of group i
pub pointing-group : (from to i : ℕ) (gs : List (List (List ℕ))) → pointing from to (flat gs) ≡ true → i < length gs
    → pointing from to (get_or gs i []) ≡ true
pointing-group from to i [] e h = absurd (not-suc-le-zero h)
pointing-group from to zero (g ∷ gs) e h = pointing-front from to g (flat gs) e
pointing-group from to (suc i) (g ∷ gs) e h = pointing-group from to i gs (pointing-back from to g (flat gs) e) (omega arith)

-- a group of rows in order fills a page of its kind
pub group-fill : (k : Kind) (m i : ℕ) (gs : List (List (List ℕ))) → k.least ≤ 1 → m ≤ k.most → Sized m gs
    → Each (Long k.size) (flat gs) → ascend k.first k.second 0 (flat gs) ≡ true → i < length gs
    → Fill k (get_or gs i [])
group-fill k m i gs low high s p e h =
    let t = sized-at i s h in
    record {
      long = each-group i gs p h;
      order = ascend-group k.first k.second 0 i gs e h;
      enough = omega (arith, t.0);
      room = omega (arith, t.1);
    }
