-- What the numbers of one pass say of the log's end. Assumes nothing.
use Prim.Native.Nat.{ℕ}
use mathlib.Core.Path.{◌≡◌, refl, ap, ◌∙◌}
use mathlib.Core.Bool.{Bool, true, false}
use mathlib.Core.Option.{Option, some, none}
use Rattle.field.specs.Test.{pick, given, when, there}
use Rattle.logs.specs.Log.{State, at_end}
use Rattle.logs.specs.Scan.{shown}
use Rattle.logs.specs.Write.{lk_of}
use Rattle.logs.specs.declared.scan.Scan.{Scan}
use Rattle.logs.specs.declared.scan.Walk.{Walk}
use Rattle.store.specs.Calls.{Lent}
use Rattle.store.proofs.Passed.{Knows}

-- an LK as the code holds it
lk-when : (o : Option ℕ) → when (there o) (given o 0 (λ k. k)) ≡ o
unfolding when there given
lk-when none = refl
lk-when (some k) = refl

-- the same, cleared if told
lk-cleared : (clear : Bool) (o : Option ℕ) → lk_of (pick clear false (there o)) (given o 0 (λ k. k)) ≡ pick clear none o
unfolding lk_of pick there given
lk-cleared true o = refl
lk-cleared false none = refl
lk-cleared false (some k) = refl

-- s shows the numbers w
module _ (w : Walk) (s : State) (e : w ≡ shown s) where
  pub shown-at : w.at ≡ s.at
  unfolding shown
  shown-at = ap (λ (w : Walk). w.at) e

  pub shown-number : w.number.0 ≡ s.number
  unfolding shown
  shown-number = ap (λ (w : Walk). w.number.0) e

  pub shown-unit : w.unit.0 ≡ s.unit
  unfolding shown
  shown-unit = ap (λ (w : Walk). w.unit.0) e

  shown-opened : w.opened ≡ there s.opened
  unfolding shown
  shown-opened = ap (λ (w : Walk). w.opened) e

  shown-lk : when w.known w.lk ≡ s.lk
  unfolding shown
  shown-lk = ap (λ (w : Walk). when w.known w.lk) e ∙ lk-when s.lk

  shown-cleared : (clear : Bool) → lk_of (pick clear false w.known) w.lk ≡ pick clear none s.lk
  unfolding shown
  shown-cleared clear = ap (λ (w : Walk). lk_of (pick clear false w.known) w.lk) e ∙ lk-cleared clear s.lk

module _ (d : Lent) (t : Scan) (k : Knows d t) where
  pub end-at : t.walk.at ≡ (at_end k.log).at
  end-at = shown-at t.walk (at_end k.log) k.walk

  pub end-number : t.walk.number.0 ≡ (at_end k.log).number
  end-number = shown-number t.walk (at_end k.log) k.walk

  pub end-unit : t.walk.unit.0 ≡ (at_end k.log).unit
  end-unit = shown-unit t.walk (at_end k.log) k.walk

  pub end-opened : t.walk.opened ≡ there (at_end k.log).opened
  end-opened = shown-opened t.walk (at_end k.log) k.walk

  pub end-lk : when t.walk.known t.walk.lk ≡ (at_end k.log).lk
  end-lk = shown-lk t.walk (at_end k.log) k.walk

  pub end-cleared : (clear : Bool) → lk_of (pick clear false t.walk.known) t.walk.lk ≡ pick clear none (at_end k.log).lk
  end-cleared clear = shown-cleared t.walk (at_end k.log) k.walk clear
