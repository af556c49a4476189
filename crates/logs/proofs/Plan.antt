-- What holds of the steps that a begin record gives: the last and no other ends the unit, and each LI brings in what an LO of the same
-- pages took out before it. Assumes nothing.
use Prim.Native.Nat.{ℕ, ◌-◌, ◌≤◌}
use native.Mathlib.Omega.{arith}
use mathlib.Core.Path.{◌≡◌, refl, ap, ◌∙◌}
use mathlib.Core.Bool.{Bool, true, false}
use mathlib.Core.List.{List, [], ◌∷◌, ◌++◌, append_assoc}
use lib.ListN.{get_or}
use lib.Dec.{eqb}
use borrow.Author.Tests.{ne_eqb, leb-true}
use Rattle.field.specs.Test.{pick}
use Rattle.field.proofs.Test.{pick_true, pick-false}
use Rattle.logs.specs.Record.{Begin, saves}
use Rattle.logs.specs.Plan.{Step, take_out, bring_in, point, close, gather, removals, others, replacing, compact_plan, move_plan, swap_plan, plan}

-- ---- the steps of a unit: any but LE, then LE

-- a step but LE
pub data Works : Step → Type 0 where
  works_out : {org dest : ℕ} → Works (take_out org dest)
  works-in : {org dest back : ℕ} → Works (bring_in org dest back)
  works-point : {base old new : ℕ} {other : Bool} → Works (point base old new other)

-- steps but LE, then the unit's LE
pub data Ending (u : ℕ) : List Step → Type 0 where
  last : Ending u (close u ∷ [])
  more : {x : Step} {xs : List Step} → Works x → Ending u xs → Ending u (x ∷ xs)

-- after a step but LE, an end to the unit still comes
pub ending-rest : {u : ℕ} {x : Step} {xs : List Step} → Works x → Ending u (x ∷ xs) → Ending u xs
ending-rest works_out (more w e) = e
ending-rest works-in (more w e) = e
ending-rest works-point (more w e) = e

-- where an LI comes, the step as many back as it says took out the same page for the same destination; past has the steps done, the latest first
abbrev pub Fed : (past xs : List Step) → Type 0
Fed past [] = Unit {0}
Fed past (take_out org dest ∷ xs) = Fed (take_out org dest ∷ past) xs
Fed past (bring_in org dest back ∷ xs) = (get_or past (back - 1) (close 0) ≡ take_out org dest) × Fed (bring_in org dest back ∷ past) xs
Fed past (point base old new other ∷ xs) = Fed (point base old new other ∷ past) xs
Fed past (close unit ∷ xs) = Fed (close unit ∷ past) xs

-- after a step the LIs still to come have their LOs
pub fed-rest : {x : Step} (past xs : List Step) → Works x → Fed past (x ∷ xs) → Fed (x ∷ past) xs
fed-rest past xs works_out f = f
fed-rest past xs works-in f = f.1
fed-rest past xs works-point f = f

-- the steps end the unit u, and whatever was done before them, their LIs have their LOs
record Whole (u : ℕ) (xs : List Step) : Type 0 where
  ending : Ending u xs
  fed : (past : List Step) → Fed past xs

module _ {u : ℕ} where
  -- the LE alone
  close-whole : Whole u (close u ∷ [])
  close-whole = record { ending = last; fed = λ past. tt }

  -- an LM in front
  point-on : (base old new : ℕ) (other : Bool) (xs : List Step) → Whole u xs → Whole u (point base old new other ∷ xs)
  point-on base old new other xs w = record { ending = more works-point w.ending; fed = λ past. w.fed (point base old new other ∷ past) }

  -- an LO and its LI
  pair-on : (org dest : ℕ) (xs : List Step) → Whole u xs → Whole u (take_out org dest ∷ bring_in org dest 1 ∷ xs)
  pair-on org dest xs w =
      record {
        ending = more works_out (more works-in w.ending);
        fed = λ past. (refl, w.fed (bring_in org dest 1 ∷ take_out org dest ∷ past));
      }

  -- one list of steps or the other in front
  pick-on : (t : Bool) (a b xs : List Step) → Whole u (a ++ xs) → Whole u (b ++ xs) → Whole u (pick t a b ++ xs)
  unfolding pick
  pick-on true a b xs p q = p
  pick-on false a b xs p q = q

  -- LO and LI of each leaf in front
  gather-on : (dest : ℕ) (ps : List ℕ) (xs : List Step) → Whole u xs → Whole u (gather dest ps ++ xs)
  unfolding gather
  gather-on dest [] xs w = w
  gather-on dest (p ∷ ps) xs w =
      let rest = gather-on dest ps xs w in
      pick-on (eqb p dest) (gather dest ps) (take_out p dest ∷ bring_in p dest 1 ∷ gather dest ps) xs rest (pair-on p dest (gather dest ps ++ xs) rest)

  -- LMs that remove in front
  removals-on : (base : ℕ) (ps : List ℕ) (xs : List Step) → Whole u xs → Whole u (removals base ps ++ xs)
  unfolding removals
  removals-on base [] xs w = w
  removals-on base (p ∷ ps) xs w = point-on base p 0 false (removals base ps ++ xs) (removals-on base ps xs w)

  -- a compact's steps in front
  compact-on : (base dest : ℕ) (leaves : List ℕ) (xs : List Step) → Whole u xs → Whole u (compact_plan base dest leaves ++ xs)
  unfolding compact_plan replacing
  compact-on base dest leaves xs w =
      let c : ℕ = get_or leaves 0 0 in
      let a : List Step = gather dest leaves in
      let b : List Step = pick (eqb c dest) [] (point base c dest false ∷ []) in
      let d : List Step = removals base (others leaves) in
      let r : Whole u (d ++ xs) = removals-on base (others leaves) xs w in
      rw (append_assoc a (b ++ d) xs, append_assoc b d xs)
      (gather-on dest leaves (b ++ (d ++ xs)) (pick-on (eqb c dest) [] (point base c dest false ∷ []) (d ++ xs) r (point-on base c dest false (d ++ xs) r)))

  -- a move's steps in front
  move-on : (base org dest : ℕ) (xs : List Step) → Whole u xs → Whole u (move_plan base org dest ++ xs)
  unfolding move_plan
  move-on base org dest xs w = pair-on org dest (point base org dest false ∷ xs) (point-on base org dest false xs w)

  -- a swap's steps in front
  swap-on : (p q a b : ℕ) (xs : List Step) → Whole u xs → Whole u (swap_plan p q a b ++ xs)
  unfolding swap_plan
  swap-on p q a b xs w =
      let r = point-on q b a false (point p a b (eqb p q) ∷ xs) (point-on p a b (eqb p q) xs w) in
      record {
        ending = more works_out (more works_out (more works-in (more works-in r.ending)));
        fed = λ past. (refl, (refl, r.fed (bring_in a b 3 ∷ bring_in b a 1 ∷ take_out b a ∷ take_out a b ∷ past)));
      }

-- a plan is such a list
plan-whole : (g : Begin) → Whole g.unit (plan g)
unfolding plan
plan-whole g =
    let p : ℕ = get_or g.bases 0 0 in
    let q : ℕ = get_or g.bases 1 p in
    let a : ℕ = get_or g.leaves 0 0 in
    let b : ℕ = get_or g.leaves 1 0 in
    let xs : List Step = close g.unit ∷ [] in
    pick-on (eqb g.type 1) (compact_plan p g.dest g.leaves) (pick (eqb g.type 2) (swap_plan p q a b) (pick (saves g) [] (move_plan p a g.dest))) xs
    (compact-on p g.dest g.leaves xs close-whole)
    (pick-on (eqb g.type 2) (swap_plan p q a b) (pick (saves g) [] (move_plan p a g.dest)) xs (swap-on p q a b xs close-whole)
    (pick-on (saves g) [] (move_plan p a g.dest) xs close-whole (move-on p a g.dest xs close-whole)))

-- a plan ends its unit, at its end
pub plan-ending : (g : Begin) → Ending g.unit (plan g)
plan-ending g = (plan-whole g).ending

-- its LIs have their LOs
pub plan-fed : (g : Begin) → Fed [] (plan g)
plan-fed g = (plan-whole g).fed []

-- a put or delete has no step by itself but its end
pub plan-saves : (g : Begin) → saves g ≡ true → plan g ≡ close g.unit ∷ []
unfolding plan saves
plan-saves g h =
    let k : 4 ≤ g.type = leb-true 4 g.type h in
    let a : eqb g.type 1 ≡ false = ne_eqb g.type 1 (λ e. omega arith) in
    let b : eqb g.type 2 ≡ false = ne_eqb g.type 2 (λ e. omega arith) in
    ap (λ (x : List Step). x ++ (close g.unit ∷ [])) (pick-false _ _ _ a ∙ pick-false _ _ _ b ∙ pick_true _ _ _ h)

-- and is no compact
pub saves-type : (g : Begin) → saves g ≡ true → eqb g.type 1 ≡ false
unfolding saves
saves-type g h = let k : 4 ≤ g.type = leb-true 4 g.type h in ne_eqb g.type 1 (λ e. omega arith)
