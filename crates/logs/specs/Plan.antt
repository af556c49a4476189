-- Document 01, "Steps": the steps that a begin record gives, in order. A step is a record but for what only the pages know: an LO's
-- records and an LM's key. A log's form, the room of a unit and what recovery must still append are all read off this list. A put or a
-- delete has no step in it but its end: its LGs are worked out from the pages (`saving/specs/Rest.antt`).
-- Assumes nothing.
use Rattle.std.specs.Prelude.{ℕ, Bool, false, List, [], ◌∷◌, ◌++◌, get_or, eqb}
use Rattle.field.specs.Test.{pick}
use Rattle.logs.specs.Record.{Begin, saves}

-- LO, LI (its LO stands `back` records before), LM, LE. An LM's `other` says: not the entry that the LM before changed
pub data Step : Type 0 where
  take_out : (org dest : ℕ) → Step
  bring_in : (org dest back : ℕ) → Step
  point : (base old new : ℕ) (other : Bool) → Step
  close : (unit : ℕ) → Step

-- for each listed leaf but the destination, LO then LI
unfoldable pub gather : (dest : ℕ) → List ℕ → List Step
gather dest [] = []
gather dest (p ∷ ps) = let rest = gather dest ps in pick (eqb p dest) rest (take_out p dest ∷ bring_in p dest 1 ∷ rest)

-- an LM removing each leaf's entry
unfoldable pub removals : (base : ℕ) → List ℕ → List Step
removals base [] = []
removals base (p ∷ ps) = point base p 0 false ∷ removals base ps

-- the leaves but the first
unfoldable pub others : List ℕ → List ℕ
others [] = []
others (p ∷ ps) = ps

-- if new-place, LM pointing C's entry to the destination
unfoldable pub replacing : (base c dest : ℕ) → List Step
replacing base c dest = pick (eqb c dest) [] (point base c dest false ∷ [])

unfoldable pub compact_plan : (base dest : ℕ) → (leaves : List ℕ) → List Step
compact_plan base dest leaves = gather dest leaves ++ (replacing base (get_or leaves 0 0) dest ++ removals base (others leaves))

unfoldable pub move_plan : (base org dest : ℕ) → List Step
move_plan base org dest = take_out org dest ∷ bring_in org dest 1 ∷ point base org dest false ∷ []

-- LO A, LO B, LI into A, LI into B, LM of B's entry, LM of A's entry; p is A's base page and q B's
unfoldable pub swap_plan : (p q a b : ℕ) → List Step
swap_plan p q a b =
    take_out a b ∷ take_out b a ∷ bring_in b a 1 ∷ bring_in a b 3 ∷ point q b a false ∷ point p a b (eqb p q) ∷ []

-- the steps after LB that it gives by itself
unfoldable pub plan : Begin → List Step
plan g =
    let p : ℕ = get_or g.bases 0 0 in
    let q : ℕ = get_or g.bases 1 p in
    let a : ℕ = get_or g.leaves 0 0 in
    let b : ℕ = get_or g.leaves 1 0 in
    pick (eqb g.type 1) (compact_plan p g.dest g.leaves) (pick (eqb g.type 2) (swap_plan p q a b) (pick (saves g) [] (move_plan p a g.dest)))
    ++ (close g.unit ∷ [])
