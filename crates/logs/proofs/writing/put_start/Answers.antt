-- `logs::writing::put_start` meets its contract. Assumes nothing.
use Rattle.logs.proofs.Puts.{start-written}
use Rattle.logs.proofs.writing.put_start.Goals as goal

pub returns : goal.returns
returns c =
    let zero = c in
    let dest = zero in
    let leaves = dest in
    let bases = leaves in
    let counts = bases in
    let unit = counts in
    let k = unit in
    let a = k.args in
    start-written a.s.now a.at a.rows a.n.0 a.unit.0 a.kind a.fill a.bases.now a.leaves.now a.dest.0 k.requires.3 _ _ _ _ _ _
    unit.put_unit.ensures counts.put_counts.ensures bases.put_fields.ensures leaves.put_fields-2.ensures dest.put2.ensures zero.put2-2.ensures
