use Rattle.nova_building.proofs.Making as making
use Rattle.nova_building.proofs.sessions_reach.Goals as goal

pub returns-clause-made : goal.returns-clause-made
returns-clause-made c = making.commands_make_steps

pub returns-clause-reach : goal.returns-clause-reach
returns-clause-reach c = making.sessions_reach
