use Rattle.nova_histories.proofs.WorkDone as work
use Rattle.nova_histories.proofs.work_leaves_nothing_due.Goals as goal

pub returns : goal.returns
returns c = work.work_leaves_nothing_due
