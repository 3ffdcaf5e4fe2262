use Rattle.nova_pig_forms.proofs.Settled.{plans_are_forms, faults_are_rows}
use Rattle.nova_pig_forms.proofs.plans_are_forms.Goals as goal

pub returns-clause-plans : goal.returns-clause-plans
returns-clause-plans c = plans_are_forms

pub returns-clause-faults : goal.returns-clause-faults
returns-clause-faults c = faults_are_rows
