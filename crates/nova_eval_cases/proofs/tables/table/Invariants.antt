use Rattle.std.proofs.Common.{◌≡◌}
use Rattle.nova_eval_cases.proofs.tables.table.Given as goal

abbrev pub invariant-loop-line : goal.invariant-loop-line
invariant-loop-line l = l.delta.schema ≡ l.schema
