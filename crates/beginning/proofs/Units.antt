-- A chosen unit is in form: what a begin chooses on tidy pages can be written down. Assumes nothing.
use Prim.Native.Nat.{ℕ, suc, ◌+◌, ◌*◌, ◌≤◌}
use native.Mathlib.Omega.{arith}
use mathlib.Core.Path.{◌≡◌, refl, sym, ap, ◌∙◌}
use mathlib.Core.Bool.{true, false}
use mathlib.Core.List.{List, [], ◌∷◌}
use mathlib.Core.Option.{Option, some, none}
use lib.ListN.{length, take, get_or, length-append, length-take}
use lib.Dec.{eqb}
use Rattle.field.specs.Bytes.{most4}
use Rattle.field.proofs.Test.{pick-either, when_true, when_false}
use Rattle.page.specs.Pages.{pages}
use Rattle.logs.specs.Record.{Begin, saves}
use Rattle.logs.specs.Plan.{Step, take_out, bring_in, point, close, gather, removals, others, replacing, compact_plan, move_plan, swap_plan, plan}
use Rattle.logs.specs.Write.{begin_of}
use Rattle.unit.specs.Choice.{compact_unit, order_unit}
use Rattle.unit.specs.Chosen.{chosen, Picks}
use Rattle.unit.specs.declared.choice.Choice.{Choice}
use Rattle.tidy.specs.Tidy.{Tidy}
use Rattle.tidy.proofs.Theorem.{compact-keeps, order-keeps}
use Rattle.starting.specs.Begins.{record_of, Writable}
use Rattle.starting.proofs.Units.{steps, steps-end}

gather-few : (dest : ℕ) (ps : List ℕ) → length (gather dest ps) ≤ 2 * length ps
unfolding gather
gather-few dest [] = omega arith
gather-few dest (p ∷ ps) =
    pick-either (λ (x : List Step). length x ≤ 2 * length (p ∷ ps)) (eqb p dest) (gather dest ps) (take_out p dest ∷ bring_in p dest 1 ∷ gather dest ps)
    (omega (arith, gather-few dest ps)) (omega (arith, gather-few dest ps))

removals-long : (base : ℕ) (ps : List ℕ) → length (removals base ps) ≡ length ps
unfolding removals
removals-long base [] = refl
removals-long base (p ∷ ps) = ap suc (removals-long base ps)

others-few : (ps : List ℕ) → length (others ps) ≤ length ps
unfolding others
others-few [] = omega arith
others-few (p ∷ ps) = omega arith

compact-few : (base dest : ℕ) (ls : List ℕ) → length (compact_plan base dest ls) ≤ 3 * length ls + 1
unfolding compact_plan replacing
compact-few base dest ls =
    let r : length (replacing base (get_or ls 0 0) dest) ≤ 1 =
    pick-either (λ (x : List Step). length x ≤ 1) (eqb (get_or ls 0 0) dest) [] (point base (get_or ls 0 0) dest false ∷ []) (omega arith) (omega arith) in
    simp length-append (omega (arith, gather-few dest ls, removals-long base (others ls), others-few ls))

-- a plan over a list of leaves is short
plan-short : (g : Begin) → length (plan g) ≤ 3 * length g.leaves + 8
unfolding plan swap_plan move_plan
plan-short g =
    let few : length (steps g) ≤ 3 * length g.leaves + 7 =
    unfold steps in
    pick-either (λ (x : List Step). length x ≤ 3 * length g.leaves + 7) (eqb g.type 1) _ _ (omega (arith, compact-few (get_or g.bases 0 0) g.dest g.leaves))
    (pick-either (λ (x : List Step). length x ≤ 3 * length g.leaves + 7) (eqb g.type 2) _ _ (omega arith)
    (pick-either (λ (x : List Step). length x ≤ 3 * length g.leaves + 7) (saves g) _ _ (omega arith) (omega arith))) in
    omega (arith, ap length (steps-end g) ∙ length-append (steps g) (close g.unit ∷ []))

-- the unit found is the one that f gives
pub picked : (c : Choice) (f : ℕ → Option Begin) → Picks c f → c.found ≡ true → (u : ℕ) → f u ≡ some (record_of c u)
unfolding chosen record_of begin_of
picked c f p e u = sym (p.unit u) ∙ when_true c.found _ e

pub none-picked : (c : Choice) (f : ℕ → Option Begin) → Picks c f → c.found ≡ false → (u : ℕ) → f u ≡ none
unfolding chosen
none-picked c f p e u = sym (p.unit u) ∙ when_false c.found _ e

-- what a begin chooses on tidy pages can be written down
module _ (w : List ℕ) (tidy : Tidy w) (c : Choice) (found : c.found ≡ true) where
  short : c.leaf_count ≤ 8 → 0 + length (plan (record_of c 0)) ≤ most4 + 1
  unfolding record_of begin_of
  short h =
      let k : length (take c.leaf_count c.leaves) ≤ c.leaf_count = rw (length-take c.leaf_count c.leaves) (omega arith) in
      omega (arith, plan-short (record_of c 0))

  pub compact-writable : (fill : ℕ) (lk : Option ℕ) → fill ≤ 15 → Picks c (λ u. compact_unit u fill lk (pages w)) → Writable c
  compact-writable fill lk h p =
      let k = compact-keeps w tidy 0 0 fill lk (record_of c 0) (omega arith) h (picked c _ p found 0) (short p.some-leaves) in
      record { bases = p.some-bases; leaves = p.some-leaves; ok = k.ok; plain = k.plain }

  pub order-writable : Picks c (λ u. order_unit u (pages w)) → Writable c
  order-writable p =
      let k = order-keeps w tidy 0 0 (record_of c 0) (omega arith) (picked c _ p found 0) (short p.some-leaves) in
      record { bases = p.some-bases; leaves = p.some-leaves; ok = k.ok; plain = k.plain }
