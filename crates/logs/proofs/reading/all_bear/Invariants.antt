-- `logs::reading::all_bear` meets its contract. The invariant: all bear the number where those that are left do. Assumes nothing.
use Prim.Native.Nat.{◌+◌, ◌*◌, ◌≤◌}
use mathlib.Core.Path.{◌≡◌}
use lib.ListN.{length, drop}
use Rattle.logs.specs.Log.{all_bear}
use Rattle.logs.specs.Scan.{images_in}
use Rattle.logs.proofs.reading.all_bear.Given as goal

abbrev pub invariant-loop-left : goal.invariant-loop-left
invariant-loop-left l = (l.left ≤ l.k) × (l.at + 272 * l.left ≤ length l.m) × (all_bear l.n.0 (images_in l.k l.m) ≡ all_bear l.n.0 (images_in l.left (drop l.at l.m)))

abbrev pub decreases-loop-left : goal.decreases-loop-left
decreases-loop-left l = l.left
