use Rattle.nova_execution.proofs.Executions as executions
use Rattle.nova_execution.proofs.laws.executions_are_runs.Goals as goal

pub returns : goal.returns
returns c = executions.executions_are_runs
