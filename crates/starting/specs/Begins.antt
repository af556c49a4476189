-- The begins' tests and record, by the numbers that the code has. Assumes nothing.
use Rattle.std.specs.Prelude.{ℕ, ◌≤◌, ◌≡◌, Bool, true, false, not, List, [], take}
use Rattle.field.specs.Test.{need}
use Rattle.page.specs.Pages.{pages, all_formed}
use Rattle.logs.specs.Record.{Begin, saves}
use Rattle.logs.specs.Log.{begin_ok}
use Rattle.logs.specs.Write.{begin_of}
use Rattle.tree.specs.Tree.{well_formed}
use Rattle.unit.specs.declared.choice.Choice.{Choice}

-- tests 9, 3 and 8: the reply, 0 where all are passed
unfoldable pub unready : (opened : Bool) → (w : List ℕ) → ℕ
unready opened w = need (not opened) 9 (need (all_formed 0 (pages w)) 3 (need (well_formed (pages w)) 8 0))

-- the begin record of a chosen unit, by its number
unfoldable pub record_of : Choice → (unit : ℕ) → Begin
record_of c u = begin_of u c.kind c.fill (take c.base_count c.bases) (take c.leaf_count c.leaves) c.dest.0 []

-- the unit c can be written down: its lists are no longer than a record's, and what they say is in form; it is no put or delete
pub record Writable (c : Choice) : Type 0 where
  pub bases : c.base_count ≤ 2
  pub leaves : c.leaf_count ≤ 8
  pub ok : begin_ok (record_of c 0) ≡ true
  pub plain : saves (record_of c 0) ≡ false
