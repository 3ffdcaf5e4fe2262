use Rattle.nova_pig_algebra.specs.Steps.{AreKnown}
use Rattle.nova_pig_algebra.proofs.known.facts_of_read.Given as goal

abbrev pub invariant-loop-at : goal.invariant-loop-at
invariant-loop-at l = AreKnown l.inputs l.nodes l.last l.at l.done
