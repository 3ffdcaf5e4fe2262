use Rattle.std.proofs.Common.{◌≡◌, drop}
use Rattle.nova_pig_plan.specs.Plans as spec
use Rattle.nova_pig_plan.proofs.joins.none_grouped.Given as goal

abbrev pub invariant-loop-arm : goal.invariant-loop-arm
invariant-loop-arm l = spec.none_grouped l.done l.arms ≡ spec.none_grouped l.done (drop l.arm-index l.arms)
