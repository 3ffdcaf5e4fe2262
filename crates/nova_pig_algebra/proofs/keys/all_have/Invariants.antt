use Rattle.std.proofs.Common.{◌≡◌, drop}
use Rattle.nova_pig_algebra.specs.Keys as spec
use Rattle.nova_pig_algebra.specs.Steps as step
use Rattle.nova_pig_algebra.proofs.keys.all_have.Given as goal

abbrev pub invariant-loop-arm : goal.invariant-loop-arm
invariant-loop-arm l = spec.all_have l.key (step.facts_at l.done l.arms) ≡ spec.all_have l.key (step.facts_at l.done (drop l.arm-index l.arms))
