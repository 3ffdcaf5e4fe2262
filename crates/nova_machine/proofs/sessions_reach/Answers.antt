use Rattle.nova_machine.proofs.Commanded as commanded
use Rattle.nova_machine.proofs.sessions_reach.Goals as goal

pub returns-clause-made : goal.returns-clause-made
returns-clause-made c = commanded.commands_make_steps

pub returns-clause-reach : goal.returns-clause-reach
returns-clause-reach c = commanded.sessions_reach
