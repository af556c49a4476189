-- Runs of numbered records as a relation, which proofs can take apart. Assumes nothing.
use Prim.Native.Nat.{ℕ, ◌+◌}
use mathlib.Core.Path.{◌≡◌, refl}
use mathlib.Core.List.{List, [], ◌∷◌, ◌++◌}
use native.Mathlib.Omega.{arith}
use lib.ListN.{length}

-- the records, the first of them numbered n, lead from x to y; D is what one record does
pub data Runs {R X : Type 0} (D : ℕ → R → X → X → Type 0) : (n : ℕ) → List R → X → X → Type 0 where
  done : {n : ℕ} {x : X} → Runs D n [] x x
  then : {n : ℕ} {r : R} {rs : List R} {x z y : X} → D n r x z → Runs D (n + 1) rs z y → Runs D n (r ∷ rs) x y

module _ {R X : Type 0} {D : ℕ → R → X → X → Type 0} where
  -- the empty run
  pub run-nil : {n : ℕ} {x y : X} → Runs D n [] x y → x ≡ y
  run-nil done = refl

  -- the first record of a run
  pub run-cons : {n : ℕ} {r : R} {rs : List R} {x y : X} → Runs D n (r ∷ rs) x y → (z : X) × D n r x z × Runs D (n + 1) rs z y
  run-cons (then {z = z} d h) = (z, d, h)

  -- one record after a run
  pub run-snoc : {n m : ℕ} {rs : List R} {r : R} {x z y : X} → m ≡ n + length rs → Runs D n rs x z → D m r z y → Runs D n (rs ++ (r ∷ [])) x y
  run-snoc {n} {m} e done d = let i : m ≡ n = omega arith in then (rw i at d) done
  run-snoc e (then a h) d = then a (run-snoc (omega arith) h d)
