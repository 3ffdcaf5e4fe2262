use Rattle.nova_rowwise.proofs.Examples.{copy_is_row_task, join_is_row_task}
use Rattle.nova_rowwise.proofs.laws.tasks_are_row_tasks.Goals as goal

pub returns-clause-copy : goal.returns-clause-copy
returns-clause-copy c = copy_is_row_task

pub returns-clause-join : goal.returns-clause-join
returns-clause-join c = join_is_row_task
