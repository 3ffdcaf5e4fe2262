-- The code of admitted workflows, by which a proof tells them apart.
use Rattle.std.specs.Prelude.{List, refl}
use Rattle.std.specs.Coded.{Coded, code_by, coded×, coded_list}
use Rattle.nova_workflow.specs.declared.flow.Flow.{Flow}
use Rattle.nova_workflow.specs.contracts.flow.Flow as flow
use Rattle.nova_admit.specs.declared.plans.Pattern.{Pattern}
use Rattle.nova_admit.specs.contracts.plans.Pattern as pattern
use Rattle.nova_admit.specs.Flows.{Admission}

abbrev pub admission_code : Coded Admission
admission_code =
    code_by (Flow × List Pattern) (coded× flow.the_row.coded (coded_list pattern.the_row.coded)) (λ a. (a.flow, a.patterns)) (λ c. record { flow = c.0; patterns = c.1 }) (λ _. refl)
