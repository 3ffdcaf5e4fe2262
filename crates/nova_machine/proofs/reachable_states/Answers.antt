use Rattle.nova_machine.proofs.Reached as reached
use Rattle.nova_machine.proofs.Counted as counted
use Rattle.nova_machine.proofs.Ended as ends
use Rattle.nova_machine.proofs.Ordered as ordered
use Rattle.nova_machine.proofs.reachable_states.Goals as goal

pub returns-clause-grows : goal.returns-clause-grows
returns-clause-grows c = reached.reachable_more

pub returns-clause-ended : goal.returns-clause-ended
returns-clause-ended c = ends.ended_reachable

pub returns-clause-sound : goal.returns-clause-sound
returns-clause-sound c = reached.sound

pub returns-clause-kept : goal.returns-clause-kept
returns-clause-kept c = counted.channels_are_kept

pub returns-clause-order : goal.returns-clause-order
returns-clause-order c = ordered.shelves_are_in_order
