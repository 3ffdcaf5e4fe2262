use Rattle.std.proofs.Common.{◌≡◌, take, true}
use Rattle.nova_pig_algebra.specs.Keys as spec
use Rattle.nova_pig_algebra.specs.Steps as step
use Rattle.nova_pig_algebra.proofs.keys.are_apart.Given as goal

abbrev pub invariant-loop-at : goal.invariant-loop-at
invariant-loop-at l = spec.are_apart (spec.in_arms l.column (step.facts_at l.done (take l.at l.arms))) ≡ true
