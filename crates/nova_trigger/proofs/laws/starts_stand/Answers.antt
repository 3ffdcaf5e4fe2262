use Rattle.nova_trigger.proofs.Machine as machine
use Rattle.nova_trigger.proofs.laws.starts_stand.Goals as goal

pub returns : goal.returns
returns c = machine.starts_stand
