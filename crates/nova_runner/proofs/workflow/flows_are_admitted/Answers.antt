use Rattle.nova_runner.proofs.Flows.{flows_are_admitted}
use Rattle.nova_runner.proofs.workflow.flows_are_admitted.Goals as goal

pub returns : goal.returns
returns c = flows_are_admitted
