use Rattle.nova_channel.proofs.Routes as routes
use Rattle.nova_channel.proofs.laws.reads_are_blocks.Goals as goal

pub returns-clause-gives : goal.returns-clause-gives
returns-clause-gives c = routes.holders_give

pub returns-clause-block : goal.returns-clause-block
returns-clause-block c = routes.reads_are_blocks

pub returns-clause-table : goal.returns-clause-table
returns-clause-table c = routes.tables_are_versions

pub returns-clause-sound : goal.returns-clause-sound
returns-clause-sound c = routes.blocks_are_not_bad
