use Rattle.nova_pig_algebra.proofs.Marks.{Closing}
use Rattle.nova_pig_algebra.proofs.readers.last_readers.Given as goal

abbrev pub invariant-loop-at : goal.invariant-loop-at
invariant-loop-at l = Closing l.nodes l.stored l.at l.last.items

abbrev pub decreases-loop-at : goal.decreases-loop-at
decreases-loop-at l = l.at
