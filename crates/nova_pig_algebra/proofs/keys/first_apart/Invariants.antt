use Rattle.std.proofs.Common.{◌≡◌, ◌-◌}
use Rattle.nova_pig_algebra.specs.Keys as spec
use Rattle.nova_pig_algebra.specs.Steps as step
use Rattle.nova_pig_algebra.proofs.keys.first_apart.Given as goal

abbrev pub invariant-loop-column : goal.invariant-loop-column
invariant-loop-column l = spec.first_apart (step.facts_at l.done l.arms) 0 l.width ≡ spec.first_apart (step.facts_at l.done l.arms) l.column (l.width - l.column)
