use Rattle.nova_histories.proofs.Writes as writes
use Rattle.nova_histories.proofs.runs_write_their_delta.Goals as goal

pub returns-clause-rows : goal.returns-clause-rows
returns-clause-rows c = writes.row_runs

pub returns-clause-groups : goal.returns-clause-groups
returns-clause-groups c = writes.group_runs
