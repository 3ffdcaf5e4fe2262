-- That what is answered of a task is one thing, want of memory aside.
use Rattle.std.specs.Prelude.{◌≡◌, ◌≢◌, ◌⊎◌}
use Rattle.nova_workflow.specs.declared.flow.Task.{Task}
use Rattle.nova_workflow.specs.declared.flow.Flow.{Flow}
use Rattle.nova_admit.specs.declared.plans.Pattern.{Pattern}
use Rattle.nova_admit.specs.declared.fault.AdmitFault.{AdmitFault}
use Rattle.nova_admit.specs.declared.fault.AdmitFault.TheVariants.{NoMemory}
use Rattle.nova_admit.specs.TaskPlans.{plan_of, kind_of}
use Rattle.nova_admit.specs.Flows.{HasPattern, HasFault}

-- a task has one pattern with one plan, or one first fault, and not both
pub record IsSettled (f : Flow) (t : Task) : Type 0 where
  pub some : ((q : Pattern) × HasPattern f t q) ⊎ ((e : AdmitFault) × (e ≢ NoMemory) × HasFault f t e)
  pub one_pattern : (q r : Pattern) → HasPattern f t q → HasPattern f t r → (kind_of q ≡ kind_of r) × (plan_of q ≡ plan_of r)
  pub one_fault : (d e : AdmitFault) → d ≢ NoMemory → e ≢ NoMemory → HasFault f t d → HasFault f t e → d ≡ e
  pub never_both : (q : Pattern) (e : AdmitFault) → e ≢ NoMemory → HasPattern f t q → HasFault f t e → ⊥

abbrev pub TasksAreSettled : Type 0
TasksAreSettled = (f : Flow) (t : Task) → IsSettled f t
