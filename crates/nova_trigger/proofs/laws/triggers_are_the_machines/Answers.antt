use Rattle.nova_trigger.proofs.Machine.{captures_are_the_machines, due_is_the_machines, first_due_is_the_machines}
use Rattle.nova_trigger.proofs.laws.triggers_are_the_machines.Goals as goal

pub returns : goal.returns
returns c = record { due = due_is_the_machines; first = first_due_is_the_machines; captures = captures_are_the_machines }
