use Rattle.std.proofs.Common.{◌≡◌, ◌++◌, drop, map}
use Rattle.nova_admit.specs.Flows as spec
use Rattle.nova_admit.proofs.flows.inputs_of.Given as goal

abbrev pub invariant-loop-input : goal.invariant-loop-input
invariant-loop-input l = map (spec.input_of l.flow) l.inputs ≡ l.all.items ++ map (spec.input_of l.flow) (drop l.input-index l.inputs)
