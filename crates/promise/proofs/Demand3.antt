-- Demand 3, with nothing left to hand in: the generic half (`replay`) with the store's page laws, the units that are carried out (`tidy`), and
-- build's layout (`laid`). Assumes nothing.
use Prim.Native.Nat.{ℕ, ◌+◌, ◌≤◌}
use mathlib.Core.Path.{subst}
use mathlib.Core.Logic.{inl, inr}
use mathlib.Core.Bool.{true}
use mathlib.Core.List.{List}
use lib.ListN.{length}
use Rattle.field.specs.Bytes.{most4}
use Rattle.logs.specs.Record.{Begin}
use Rattle.logs.specs.Plan.{plan}
use Rattle.logs.specs.Log.{State}
use Rattle.tidy.specs.Tidy.{Tidy, Keeps}
use Rattle.tidy.proofs.Theorem.{compact-keeps, order-keeps}
use Rattle.store.specs.Calls.{Lent}
use Rattle.store.specs.Calls as Calls
use Rattle.replay.specs.Laws.{UnitLaws}
use Rattle.promise.specs.Parts.{store, asked, Chooses}
use Rattle.promise.specs.Promise.{History, Demand3, Spared, Steps}
use Rattle.promise.proofs.Live.{Ran, ran-of}
use Rattle.promise.proofs.OnUnits.{chosen-unit, unit-laws}
use Rattle.promise.proofs.Starts.{built-live}
use Rattle.promise.proofs.Histories.{kept_in, live_in}
use Rattle.promise.proofs.Replies.{begin-compact-spared, begin-order-spared, begin-put-spared, begin-delete-spared, steps}

-- a unit that a begin call chooses is carried out
chosen-keeps : (n : ℕ) (s : State) (g : Begin) (w : List ℕ) → Tidy w → Chooses s w g → g.unit ≤ most4 → n + length (plan g) ≤ 4294967296 → Keeps n g w
chosen-keeps n s g w t (inl (fill, h, e)) u k =
    compact-keeps w t n (s.unit + 1) fill s.lk g (subst (λ (x : ℕ). x ≤ most4) (chosen-unit s w g (inl (fill, h, e))) u) h e k
chosen-keeps n s g w t (inr e) u k = order-keeps w t n (s.unit + 1) g (subst (λ (x : ℕ). x ≤ most4) (chosen-unit s w g (inr e)) u) e k

pub units : UnitLaws store asked
units = unit-laws chosen-keeps

-- DEMAND 3
pub demand-3 : Demand3
demand-3 rs o d forced on h sized = kept_in units built-live rs o d forced on h sized

-- inside a history a begin refuses neither log, page, page change nor tree, and a step is accepted wherever a unit is open
module _ (rs : List (List ℕ)) (o : List ℕ) (d : Lent) (forced : ℕ) (h : History rs o d forced true) where
  abbrev here : Ran o d
  here = ran-of units (live_in units built-live rs o d forced h)

  pub begin-compact-in : (fill : ℕ) → Spared (Calls.begin_compact fill d)
  begin-compact-in fill = begin-compact-spared units d here fill

  pub begin-order-in : Spared (Calls.begin_order d)
  begin-order-in = begin-order-spared units d here

  pub begin-put-in : Spared (Calls.begin_put d)
  begin-put-in = begin-put-spared units d here

  pub begin-delete-in : (key : ℕ) → Spared (Calls.begin_delete key d)
  begin-delete-in key = begin-delete-spared units d here key

  pub step_in : Steps d
  step_in = steps units d here
