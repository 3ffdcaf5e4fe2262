use Rattle.std.proofs.Common.{◌≡◌, take}
use Rattle.nova_pig_plan.specs.Plans as spec
use Rattle.nova_pig_plan.proofs.joins.channel_columns.Given as goal

abbrev pub invariant-loop-column : goal.invariant-loop-column
invariant-loop-column l = l.all ≡ spec.channel_columns (take l.column-index l.columns)
