-- What a workflow's text says: a workflow, or a first fault.
use Rattle.std.specs.Prelude.{◌≡◌, ◌≢◌, List, ℕ, map, Result, Ok, Err}
use Rattle.std.specs.List.{AllByRecursion}
use Rattle.nova_workflow.specs.declared.flow.Flow.{Flow}
use Rattle.nova_flow.specs.Flows.{flow_of}
use Rattle.nova_flow.specs.declared.fault.FlowFault.TheVariants as flow_fault
use Rattle.nova_pig_algebra.specs.Plan.{IsPlan}
use Rattle.nova_admit.specs.Flows.{Admission, HavePatterns, HasFirstFault}
use Rattle.nova_admit.specs.TaskPlans.{plan_of}
use Rattle.nova_admit.specs.declared.plans.Pattern.{Pattern}
use Rattle.nova_admit.specs.declared.fault.AdmitFault.TheVariants as admit_fault
use Rattle.nova_machine.specs.Workflow.{Workflow}
pub use Rattle.nova_histories.specs.Planned.{task_plan}
use Rattle.nova_runner.specs.declared.text.TextFault.{TextFault}
use Rattle.nova_runner.specs.declared.text.TextFault.TheVariants as fault

-- the machine's workflow: the text, the channels and tasks that it states, and a plan for each task
abbrev pub workflow_of : List ℕ → Flow → List Pattern → Workflow
workflow_of text f patterns = record { text = text; channels = f.channels; tasks = f.tasks; plans = map task_plan patterns }

-- each plan is one: its kinds are right, and its literals are values
abbrev pub ArePlans : List Pattern → Type 0
ArePlans patterns = AllByRecursion (λ q. IsPlan (plan_of q)) patterns

-- the text says the workflow: it reads as one, and each task is admitted with its pattern
pub record HasFlow (text : List ℕ) (w : Workflow) : Type 0 where
  pub flow : Flow
  pub read : flow_of text ≡ Ok flow
  pub patterns : List Pattern
  pub admitted : HavePatterns flow flow.tasks patterns
  pub plans : ArePlans patterns
  pub is : workflow_of text flow patterns ≡ w

-- the text's first fault: it reads as no workflow, or a task of the one that it reads as isn't admitted
abbrev pub HasFault : List ℕ → TextFault → Type 0
HasFault text (fault.Flow why) = (why ≢ flow_fault.NoMemory) × (flow_of text ≡ Err why)
HasFault text (fault.Admit why) = (why ≢ admit_fault.NoMemory) × (f : Flow) × (flow_of text ≡ Ok f) × HasFirstFault f f.tasks why

-- what a call answers of a text: the admitted workflow that it reads as, or its first fault
abbrev pub Admits : List ℕ → Result Admission TextFault → Type 0
Admits text (Ok a) = (flow_of text ≡ Ok a.flow) × HavePatterns a.flow a.flow.tasks a.patterns
Admits text (Err why) = HasFault text why

-- and the workflow that it says
abbrev pub Says : List ℕ → Result Workflow TextFault → Type 0
Says text (Ok w) = HasFlow text w
Says text (Err why) = HasFault text why

-- a text says at most one workflow and has at most one first fault, and not both
pub record IsSettled (text : List ℕ) : Type 0 where
  pub one_flow : (v w : Workflow) → HasFlow text v → HasFlow text w → v ≡ w
  pub one_fault : (d e : TextFault) → HasFault text d → HasFault text e → d ≡ e
  pub never_both : (w : Workflow) (e : TextFault) → HasFlow text w → HasFault text e → ⊥

abbrev pub TextsAreSettled : Type 0
TextsAreSettled = (text : List ℕ) → IsSettled text
