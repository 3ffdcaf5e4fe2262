use Rattle.std.proofs.Common.{◌≡◌, map, take}
use Rattle.nova_runner.specs.Workflow.{edge_of}
use Rattle.nova_runner.proofs.wiring.edges.Given as goal

abbrev pub invariant-loop-input : goal.invariant-loop-input
invariant-loop-input l = record {
  inputs : l.inputs ≡ l.fn.inputs;
  edges : l.edges.items ≡ map edge_of (take l.input-index l.fn.inputs);
}
