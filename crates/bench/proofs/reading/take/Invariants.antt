use Rattle.std.proofs.Common.{◌≤◌}
use Rattle.bench.proofs.reading.take.Given as goal

-- each turn took a record
abbrev pub invariant-loop-record : goal.invariant-loop-record
invariant-loop-record l = l.count ≤ l.record-index
