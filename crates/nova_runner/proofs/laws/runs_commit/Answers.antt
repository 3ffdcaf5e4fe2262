use Rattle.nova_runner.proofs.Running as running
use Rattle.nova_runner.proofs.laws.runs_commit.Goals as goal

pub returns : goal.returns
returns c = running.runs_lead
