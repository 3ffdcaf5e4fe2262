use Rattle.std.proofs.Common.{◌≡◌}
use Rattle.nova_rowwise_cases.proofs.tables.delta.Given as goal

abbrev pub invariant-loop-line : goal.invariant-loop-line
invariant-loop-line l = l.delta.schema ≡ l.schema
