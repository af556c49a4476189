-- Something of every record and its number: lists put together and taken apart. Assumes nothing.
use Prim.Native.Nat.{ℕ, ◌+◌, ◌≤◌}
use mathlib.Core.Path.{◌≡◌}
use mathlib.Core.List.{List, [], ◌∷◌, ◌++◌}
use native.Mathlib.Omega.{arith}
use lib.ListN.{length}
use Rattle.replay.specs.Laws.{Each, none, also}

module _ {R : Type 0} {A : ℕ → R → Type 0} where
  -- of each, something else
  pub each_map : {B : ℕ → R → Type 0} {n : ℕ} {rs : List R} → ((m : ℕ) (r : R) → n ≤ m → A m r → B m r) → Each A n rs → Each B n rs
  each_map f none = none
  each_map f (also {n = n} {r = r} a h) = also (f n r (omega arith) a) (each_map (λ m q k b. f m q (omega arith) b) h)

  -- the last of them
  pub each-drop : {n : ℕ} (rs ts : List R) → Each A n (rs ++ ts) → Each A (n + length rs) ts
  each-drop {n} [] ts h = let e : n + 0 ≡ n = omega arith in rw e h
  each-drop {n} (r ∷ rs) ts (also a h) = let e : n + 1 + length rs ≡ n + length (r ∷ rs) = omega arith in rw e at (each-drop {n = n + 1} rs ts h)

  -- one more
  pub each_snoc : {n m : ℕ} {rs : List R} (r : R) → m ≡ n + length rs → Each A n rs → A m r → Each A n (rs ++ (r ∷ []))
  each_snoc {n} {m} r e none b = let i : m ≡ n = omega arith in also (rw i at b) none
  each_snoc r e (also a h) b = also a (each_snoc r (omega arith) h b)
