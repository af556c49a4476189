-- Keys that rise: those of a page, and those of all rows below entries, where each row's key is at least its entry's and less than the next
-- one's. The rows below earlier entries are lower than a later entry's key. Assumes nothing.
use Prim.Native.Nat.{ℕ, suc, ◌+◌, ◌≤◌, ◌<◌}
use native.Mathlib.Nat.{not-suc-le-zero}
use native.Mathlib.Omega.{arith}
use mathlib.Core.Path.{◌≡◌}
use mathlib.Core.Bool.{true}
use mathlib.Core.List.{List, [], ◌∷◌, ◌++◌}
use lib.ListN.{length, drop, length-append}
use borrow.Author.Tests.{leb-true, ltb-true}
use Rattle.field.proofs.Test.{both-1, both-2}
use Rattle.field.proofs.Part.{split}
use Rattle.page.specs.Page.{key_of, ascend, rows}
use Rattle.page.specs.Each.{Each, nil, cons}
use Rattle.page.proofs.Rows.{each_append}
use Rattle.page.proofs.Order.{ascend-facts}
use Rattle.tree.specs.Tree.{under, below, lower, keys_between, keys_kept}
use Rattle.tree.specs.Walk.{bound}
use Rattle.tree.proofs.Sound.{each_map}
use Rattle.ranging.specs.Reading.{rows_below}
use Rattle.ranging.proofs.Passed.{below-cons, below-stop}

-- keys ascend strictly, the first being at least lo
abbrev pub Rising : (lo : ℕ) → List (List ℕ) → Type 0
Rising lo [] = Unit {0}
Rising lo (r ∷ rs) = (lo ≤ key_of r) × Rising (suc (key_of r)) rs

-- the first key, if there is one, is at least lo
abbrev pub From : (lo : ℕ) → List (List ℕ) → Type 0
From lo [] = Unit {0}
From lo (e ∷ es) = lo ≤ key_of e

pub ascend-rising : (a b lo : ℕ) (rs : List (List ℕ)) → ascend a b lo rs ≡ true → Rising lo rs
ascend-rising a b lo [] t = tt
ascend-rising a b lo (r ∷ rs) t =
    let f = ascend-facts a b lo r rs t in
    let n : key_of r + 1 ≡ suc (key_of r) = omega arith in
    (f.low, rw n at (ascend-rising a b (key_of r + 1) rs f.after))

pub rising-least : (k lo : ℕ) (rs : List (List ℕ)) → k ≤ lo → Rising lo rs → Each (λ r. k ≤ key_of r) rs
rising-least k lo [] h a = nil
rising-least k lo (r ∷ rs) h a =
    let l : k ≤ key_of r = omega (arith, a.0) in
    cons l (rising-least k (suc (key_of r)) rs (omega arith) a.1)

-- the rows that are not passed
pub rising-rest : (k lo : ℕ) (rs : List (List ℕ)) → Rising lo rs → Each (λ r. k ≤ key_of r) (drop (rows_below k rs) rs)
rising-rest k lo [] a = unfold rows_below in nil
rising-rest k lo (r ∷ rs) a =
    split (key_of r) k
    (λ h. rw (below-cons k r rs h) (rising-rest k (suc (key_of r)) rs a.1))
    (λ h. rw (below-stop k r rs h) (cons h (rising-least k (suc (key_of r)) rs (omega arith) a.1)))

-- ---- rows below entries

module _ (ps : List (List ℕ)) where
  -- the page below an entry has rows, and their keys rise
  pub record Filled (e : List ℕ) : Type 0 where
    pub some : 0 < length (rows 16 (under ps e))
    pub rise : Rising 0 (rows 16 (under ps e))

  pub kept_back : (xs ys : List (List ℕ)) → keys_kept 16 ps (xs ++ ys) ≡ true → keys_kept 16 ps ys ≡ true
  unfolding keys_kept
  kept_back [] ys t = t
  kept_back (x ∷ xs) ys t = kept_back xs ys (both-2 _ _ t)

from-lower : (m : ℕ) (es : List (List ℕ)) → lower m es ≡ true → From (suc m) es
unfolding lower
from-lower m [] t = tt
from-lower m (e ∷ es) t = ltb-true m (key_of e) t

join : (k lo : ℕ) (r : List ℕ) (rs es ys : List (List ℕ)) → Rising lo (r ∷ rs) → keys_between k es (r ∷ rs) ≡ true → ((m : ℕ) → From m es → Rising m ys) → Rising lo (r ∷ (rs ++ ys))
unfolding keys_between
join k lo r [] es ys a t f = (a.0, f (suc (key_of r)) (from-lower (key_of r) es (both-1 _ _ (both-2 _ _ t))))
join k lo r (x ∷ xs) es ys a t f = (a.0, join k (suc (key_of r)) x xs es ys a.1 (both-2 _ _ (both-2 _ _ t)) f)

join-some : (k lo : ℕ) (rs es ys : List (List ℕ)) → 0 < length rs → Rising 0 rs → lo ≤ k → keys_between k es rs ≡ true → ((m : ℕ) → From m es → Rising m ys) → Rising lo (rs ++ ys)
unfolding keys_between
join-some k lo [] es ys h a l t f = absurd (not-suc-le-zero h)
join-some k lo (r ∷ rs) es ys h a l t f = join k lo r rs es ys (omega (arith, leb-true k (key_of r) (both-1 _ _ t)), a.1) t f

pub below-rising : (ps es : List (List ℕ)) → keys_kept 16 ps es ≡ true → Each (Filled ps) es → (lo : ℕ) → From lo es → Rising lo (below 16 ps es)
unfolding keys_kept below
below-rising ps [] t nil lo h = tt
below-rising ps (e ∷ es) t (cons f p) lo h =
    join-some (key_of e) lo (rows 16 (under ps e)) es (below 16 ps es) f.some f.rise h (both-1 _ _ t) (λ m g. below-rising ps es (both-2 _ _ t) p m g)

-- ---- rows below earlier entries

lower-first : (m : ℕ) (es : List (List ℕ)) → 0 < length es → lower m es ≡ true → m < bound 0 es
unfolding lower bound
lower-first m [] h t = absurd (not-suc-le-zero h)
lower-first m (e ∷ es) h t = ltb-true m (key_of e) t

between_lower : (k : ℕ) (es rs : List (List ℕ)) → 0 < length es → keys_between k es rs ≡ true → Each (λ r. key_of r < bound 0 es) rs
unfolding keys_between
between_lower k es [] h t = nil
between_lower k es (r ∷ rs) h t = cons (lower-first (key_of r) es h (both-1 _ _ (both-2 _ _ t))) (between_lower k es rs h (both-2 _ _ (both-2 _ _ t)))

between-some : (k : ℕ) (es rs : List (List ℕ)) → 0 < length es → 0 < length rs → keys_between k es rs ≡ true → k < bound 0 es
unfolding keys_between
between-some k es [] h g t = absurd (not-suc-le-zero g)
between-some k es (r ∷ rs) h g t = omega (arith, leb-true k (key_of r) (both-1 _ _ t), lower-first (key_of r) es h (both-1 _ _ (both-2 _ _ t)))

pub below-before : (ps : List (List ℕ)) (e : List ℕ) (ys xs : List (List ℕ)) → keys_kept 16 ps (xs ++ (e ∷ ys)) ≡ true → Each (Filled ps) xs
    → Each (λ r. key_of r < key_of e) (below 16 ps xs) × (bound 0 (xs ++ (e ∷ ys)) ≤ key_of e)
unfolding keys_kept below bound
below-before ps e ys [] t nil = (nil, omega arith)
below-before ps e ys (x ∷ xs) t (cons f p) =
    let rest = below-before ps e ys xs (both-2 _ _ t) p in
    let some : 0 < length (xs ++ (e ∷ ys)) = rw (length-append xs (e ∷ ys)) (omega arith) in
    let rs : List (List ℕ) = rows 16 (under ps x) in
    let low : Each (λ r. key_of r < bound 0 (xs ++ (e ∷ ys))) rs = between_lower (key_of x) (xs ++ (e ∷ ys)) rs some (both-1 _ _ t) in
    let first : key_of x < bound 0 (xs ++ (e ∷ ys)) = between-some (key_of x) (xs ++ (e ∷ ys)) rs some f.some (both-1 _ _ t) in
    (each_append (each_map (λ r h. omega (arith, h, rest.1)) low) rest.0, omega (arith, first, rest.1))
