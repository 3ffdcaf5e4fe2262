use Rattle.std.proofs.Common.{◌≡◌, ◌++◌, take}
use Rattle.nova_pig_plan.specs.Plans as spec
use Rattle.nova_pig_plan.proofs.joins.add_from.Given as goal

abbrev pub invariant-loop-column : goal.invariant-loop-column
invariant-loop-column l = l.all ≡ l.fn.all ++ spec.from_alias l.alias (take l.column-index l.columns)
