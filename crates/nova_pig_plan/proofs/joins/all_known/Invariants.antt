use Rattle.std.proofs.Common.{◌≡◌, drop, []}
use Rattle.nova_pig_plan.specs.Plans as spec
use Rattle.nova_pig_plan.proofs.joins.all_known.Given as goal

abbrev pub invariant-loop-arm : goal.invariant-loop-arm
invariant-loop-arm l = spec.all_known l.done [] l.arms ≡ spec.all_known l.done l.places (drop l.arm-index l.arms)
