use Rattle.std.proofs.Common.{◌≡◌, drop}
use Rattle.nova_pig_algebra.specs.Keys as spec
use Rattle.nova_pig_algebra.specs.Steps as step
use Rattle.nova_pig_algebra.proofs.keys.each_other.Given as goal

abbrev pub invariant-loop-arm : goal.invariant-loop-arm
invariant-loop-arm l = step.each_other l.value (spec.in_arms l.column (step.facts_at l.done l.arms)) ≡ step.each_other l.value (spec.in_arms l.column (step.facts_at l.done (drop l.arm-index l.arms)))
