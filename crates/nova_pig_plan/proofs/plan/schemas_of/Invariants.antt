use Rattle.std.proofs.Common.{◌≡◌, take}
use Rattle.nova_pig_plan.specs.Resolve as spec
use Rattle.nova_pig_plan.proofs.plan.schemas_of.Given as goal

abbrev pub invariant-loop-channel : goal.invariant-loop-channel
invariant-loop-channel l = l.all ≡ spec.schemas (take l.channel-index l.channels)
