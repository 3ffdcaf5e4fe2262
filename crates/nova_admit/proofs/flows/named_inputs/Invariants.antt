use Rattle.std.proofs.Common.{◌≡◌, ◌++◌, drop}
use Rattle.nova_admit.specs.Flows as spec
use Rattle.nova_admit.proofs.flows.named_inputs.Given as goal

abbrev pub invariant-loop-input : goal.invariant-loop-input
invariant-loop-input l = record {
  left : spec.named_inputs l.flow l.inputs ≡ l.all ++ spec.named_inputs l.flow (drop l.input-index l.inputs);
  within : spec.AreWithin l.flow (drop l.input-index l.inputs);
}
