use Rattle.std.proofs.Common.{◌≡◌, drop}
use Rattle.nova_pig_plan.specs.Plans as spec
use Rattle.nova_pig_plan.proofs.joins.all_alike.Given as goal

abbrev pub invariant-loop-arm : goal.invariant-loop-arm
invariant-loop-arm l = spec.all_alike l.done l.columns l.arms ≡ spec.all_alike l.done l.columns (drop l.arm-index l.arms)
