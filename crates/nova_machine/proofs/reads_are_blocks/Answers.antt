use Rattle.nova_machine.proofs.Keeping as keeping
use Rattle.nova_machine.proofs.reads_are_blocks.Goals as goal

pub returns-clause-keeps : goal.returns-clause-keeps
returns-clause-keeps c = keeping.reachable_keeps

pub returns-clause-reads : goal.returns-clause-reads
returns-clause-reads c = keeping.reads_are_blocks

pub returns-clause-bases : goal.returns-clause-bases
returns-clause-bases c = keeping.bases_keep

pub returns-clause-channels : goal.returns-clause-channels
returns-clause-channels c = keeping.channels_alone_keep
