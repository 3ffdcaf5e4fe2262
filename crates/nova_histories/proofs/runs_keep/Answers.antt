use Rattle.nova_histories.proofs.Writes as writes
use Rattle.nova_histories.proofs.runs_keep.Goals as goal

pub returns-clause-runs : goal.returns-clause-runs
returns-clause-runs c = writes.planned_runs_keep

pub returns-clause-channels : goal.returns-clause-channels
returns-clause-channels c = writes.channels_keep

pub returns-clause-reads : goal.returns-clause-reads
returns-clause-reads c = writes.reads_are_blocks
