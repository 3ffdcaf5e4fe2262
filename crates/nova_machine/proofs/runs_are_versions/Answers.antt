use Rattle.nova_machine.proofs.Runs as runs
use Rattle.nova_machine.proofs.runs_are_versions.Goals as goal

pub returns : goal.returns
returns c = runs.runs_are_versions_law
