use Rattle.nova_building.proofs.Examples as examples
use Rattle.nova_building.proofs.sessions_reply.Goals as goal

pub returns-clause-built_alone : goal.returns-clause-built_alone
returns-clause-built_alone c = examples.built_alone

pub returns-clause-built_shown : goal.returns-clause-built_shown
returns-clause-built_shown c = examples.built_shown
