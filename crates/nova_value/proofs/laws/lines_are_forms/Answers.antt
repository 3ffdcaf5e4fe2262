use Rattle.nova_value.proofs.Forms.{lines_are_forms}
use Rattle.nova_value.proofs.Faults.{faults_are_forms}
use Rattle.nova_value.proofs.laws.lines_are_forms.Goals as goal

pub returns-clause-spelled : goal.returns-clause-spelled
returns-clause-spelled c = lines_are_forms

pub returns-clause-refused : goal.returns-clause-refused
returns-clause-refused c = faults_are_forms
