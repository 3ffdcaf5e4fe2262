-- What admission gives of a workflow.
use Rattle.std.specs.Prelude.{◌≡◌, ℕ, ◌<◌, List, length, map, Ok}
use Rattle.std.specs.List.{AllByRecursion}
use Rattle.nova_workflow.specs.declared.flow.Flow.{Flow}
use Rattle.nova_workflow.specs.Whole.{IsFlow}
use Rattle.nova_pig_algebra.specs.Plan.{IsPlan}
use Rattle.nova_pig_pattern.specs.OutputKey.{HasOutputKey}
use Rattle.nova_admit.specs.Flows.{HasSchemas, HavePatterns, inputs_of}
use Rattle.nova_admit.specs.TaskPlans.{admitted, kind_of, plan_of}
use Rattle.nova_admit.specs.declared.plans.Pattern.{Pattern}
use Rattle.nova_machine.specs.Workflow.{TaskPlan, Workflow, task_in, plan_in}

-- its channels and tasks, as a workflow's text states them
abbrev pub flow_in : Workflow → Flow
flow_in w = record { channels = w.channels; tasks = w.tasks }

-- a task has a plan over the schemas of its channels, with the output's key, and the pattern that admission answers of it
pub record IsPlannedTask (w : Workflow) (t : ℕ) : Type 0 where
  pub plan : IsPlan (plan_in w t).plan
  pub schemas : HasSchemas (flow_in w) (task_in w t) (plan_in w t).plan
  pub key : HasOutputKey (plan_in w t).plan
  pub pattern : admitted (plan_in w t).plan (inputs_of (flow_in w) (task_in w t)) (task_in w t).based ≡ Ok (plan_in w t).pattern

-- a workflow keeps what that of a text keeps, and each task is admitted
pub record IsPlannedFlow (w : Workflow) : Type 0 where
  pub flow : IsFlow (flow_in w)
  pub tasks : (t : ℕ) → t < length w.tasks → IsPlannedTask w t

-- the plan of a task with its pattern
abbrev pub task_plan : Pattern → TaskPlan
task_plan q = record { plan = plan_of q; pattern = kind_of q }

-- a workflow of a text whose tasks are admitted with these patterns
pub record IsAdmittedWith (w : Workflow) (qs : List Pattern) : Type 0 where
  pub flow : IsFlow (flow_in w)
  pub patterns : HavePatterns (flow_in w) w.tasks qs
  pub plans : AllByRecursion (λ q. IsPlan (plan_of q)) qs
  pub is : w.plans ≡ map task_plan qs

-- is planned
abbrev pub AdmittedArePlanned : Type 0
AdmittedArePlanned = (w : Workflow) (qs : List Pattern) → IsAdmittedWith w qs → IsPlannedFlow w
