use Rattle.std.proofs.Common.{◌≡◌, ◌+◌, drop, length}
use Rattle.nova_pig_plan.specs.Plans as spec
use Rattle.nova_pig_plan.proofs.script.resolve_nodes.Given as goal

abbrev pub invariant-loop-at : goal.invariant-loop-at
invariant-loop-at l = (length l.done ≡ l.at) × (spec.graph_of l.script l.channels ≡ spec.graph_after l.channels (l.at + 1) l.done l.nodes (drop l.at l.script))
