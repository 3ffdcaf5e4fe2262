use Rattle.std.proofs.Common.{◌≡◌, take}
use Rattle.nova_pig_plan.proofs.statements.columns_again.Given as goal

abbrev pub invariant-loop-column : goal.invariant-loop-column
invariant-loop-column l = l.all ≡ take l.column-index l.columns
