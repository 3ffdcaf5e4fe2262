use Rattle.nova_histories.proofs.Admitted as admitted
use Rattle.nova_histories.proofs.Examples as examples
use Rattle.nova_histories.proofs.admitted_are_planned.Goals as goal

pub returns-clause-admitted : goal.returns-clause-admitted
returns-clause-admitted c = admitted.admitted_are_planned

pub returns-clause-worked : goal.returns-clause-worked
returns-clause-worked c = examples.worked_is_planned
