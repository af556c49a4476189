-- Units that can be finished: what that gives. Assumes nothing.
use Prim.Native.Nat.{ℕ, suc, ◌+◌}
use mathlib.Core.Path.{◌≡◌, sym, ◌∙◌}
use mathlib.Core.List.{List, [], ◌∷◌, ◌++◌}
use mathlib.Core.Option.{some, some-injective}
use native.Mathlib.Omega.{arith}
use Rattle.replay.specs.Store.{Format, last, Meaning}
use Rattle.replay.specs.Laws.{Able, closed, more}

module _ (F : Format) (M : Meaning F) where
  open F use {Pages, Rec, Check, apply, left, next}
  open M use {Shape, Fine}

  -- the log is in form
  pub able-shape : {o : Pages} {c : Check} {w : Pages} {l : List Rec} → Able F M o c w l → Shape c l
  able-shape (closed s z f) = s
  able-shape (more s k j n a t) = s

  -- with no unit open the tree is fine
  pub able-fine : {o : Pages} {c : Check} {w : Pages} {l : List Rec} → Able F M o c w l → left c w l ≡ 0 → Fine o l w
  able-fine (closed s z f) e = f
  able-fine (more s k j n a t) e = absurd (omega arith)

  -- with a unit open there is a next record, and it applies
  pub able-next : {o : Pages} {c : Check} {w : Pages} {l : List Rec} {k : ℕ} → Able F M o c w l → left c w l ≡ suc k
      → (r : Rec) × (w' : Pages) × (next c w l ≡ some r) × (apply (last F c l + 1) r w ≡ some w') × (left c w' (l ++ (r ∷ [])) ≡ k)
      × Able F M o c w' (l ++ (r ∷ []))
  able-next (closed s z f) e = absurd (omega arith)
  able-next (more {w' = w'} {r = r} s k j n a t) e = (r, w', n, a, omega arith, t)

  -- .. after which it can still be finished
  pub able-step : {o : Pages} {c : Check} {w w' : Pages} {l : List Rec} {r : Rec} {k : ℕ} → Able F M o c w l → left c w l ≡ suc k
      → next c w l ≡ some r → apply (last F c l + 1) r w ≡ some w' → Able F M o c w' (l ++ (r ∷ []))
  able-step {w' = w'} {r = r} a k n e =
      let (q, v, m, d, j, t) = able-next a k in
      let x : q ≡ r = some-injective q r (sym m ∙ n) in
      let y : v ≡ w' = some-injective v w' (sym d ∙ rw x e) in
      rw (← x, ← y) t
