-- The answers of force, each as a law over what the code has there; and a refusal of the calls that return their reply alone.
-- Assumes nothing.
use Prim.Native.Nat.{ℕ}
use mathlib.Core.Path.{◌≡◌, sym}
use mathlib.Core.Bool.{true, false}
use mathlib.Core.List.{List, []}
use lib.ListN.{length}
use Rattle.field.specs.Bytes.{zeroes}
use Rattle.logs.specs.Scan.{scanned}
use Rattle.logs.specs.declared.scan.Scan.{Scan}
use Rattle.store.specs.Calls.{Lent, lent, Left, left, refused, force}
use Rattle.store.specs.Knows.{knows}
use Rattle.store.proofs.Chain.{force-unsized, force-unknown, force-forces}
use Rattle.store.proofs.Passed.{Knows, knows-yes, knows-no}

-- the reply r beside all that was lent; v, u and f are what the code returns
pub refused_as : (d : Lent) (r v u f : ℕ) (y : Left) → y ≡ refused 0 r d → (v ≡ r) × (u ≡ d.used) × (f ≡ d.forced)
    → left v [] (lent u f d.work d.store d.log d.bytes) ≡ y
unfolding refused zeroes
refused_as d r v u f y e s = rw (s.0, s.1, s.2) (sym e)

module _ (used forced : ℕ) (log : List ℕ) where
  abbrev d : Lent
  d = lent used forced [] [] log []

  module _ (v u f : ℕ) where
    pub force-long : (v ≡ 1) × (u ≡ used) × (f ≡ forced) → (length log ≡ 8192 → ⊥) → left v [] (lent u f [] [] log []) ≡ force d
    force-long s a = refused_as d 1 v u f (force d) (force-unsized d a) s

    pub force-form : (v ≡ 2) × (u ≡ used) × (f ≡ forced) → length log ≡ 8192 → (t : Scan) → t ≡ scanned forced log → knows t used ≡ false
        → left v [] (lent u f [] [] log []) ≡ force d
    force-form s a t e k = refused_as d 2 v u f (force d) (force-unknown d a (knows-no d t e k)) s

  pub force-all : length log ≡ 8192 → (t : Scan) → t ≡ scanned forced log → knows t used ≡ true → left 0 [] (lent used used [] [] log []) ≡ force d
  force-all a t e k = let g : Knows d t = knows-yes d t e k in sym (force-forces d a g.log g.is)
