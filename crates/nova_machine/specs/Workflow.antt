-- An admitted workflow: channels of keyed rows, and tasks that write some of them.
use Rattle.std.specs.Prelude.{ℕ, suc, Bool, true, false, List, [], ◌∷◌, None, is_none, if◌then◌else◌, slice_index_or}
use Rattle.nova_value.specs.Rows.{Shape}
use Rattle.nova_pig_algebra.specs.Plan.{Plan}
use Rattle.nova_pig_pattern.specs.declared.task.PatternKind.{PatternKind}
use Rattle.nova_pig_pattern.specs.declared.task.PatternKind.TheVariants.{NonIncremental}
use Rattle.nova_workflow.specs.declared.flow.Channel.{Channel}
use Rattle.nova_workflow.specs.declared.flow.Input.{Input}
use Rattle.nova_workflow.specs.declared.flow.Mode.{Mode}
use Rattle.nova_workflow.specs.declared.flow.Mode.TheVariants as mode
use Rattle.nova_workflow.specs.declared.flow.Task.{Task}
use Rattle.nova_workflow.specs.declared.flow.Trigger.TheVariants.{OnData}

-- what a task's script resolves to, and the pattern by which it runs
pub record TaskPlan : Type 0 where
  pub plan : Plan
  pub pattern : PatternKind

-- the text that it was read from; its channels and tasks in the order of that text, numbered from 0; a plan for each task
pub record Workflow : Type 0 where
  pub text : List ℕ
  pub channels : List Channel
  pub tasks : List Task
  pub plans : List TaskPlan

abbrev pub no_schema : Shape
no_schema = record { columns = []; key = [] }

abbrev pub no_channel : Channel
no_channel = record { name = []; schema = no_schema; writer = None; based = false }

abbrev pub no_task : Task
no_task = record { name = []; script = []; inputs = []; output = 0; based = false; trigger = OnData }

abbrev pub no_input : Input
no_input = record { channel = 0; mode = mode.All }

abbrev pub no_plan : TaskPlan
no_plan = record { plan = record { nodes = []; stored = 0; inputs = []; output = no_schema }; pattern = NonIncremental }

abbrev pub channel_in : Workflow → ℕ → Channel
channel_in w c = slice_index_or w.channels c no_channel

abbrev pub schema_in : Workflow → ℕ → Shape
schema_in w c = (channel_in w c).schema

abbrev pub task_in : Workflow → ℕ → Task
task_in w t = slice_index_or w.tasks t no_task

abbrev pub plan_in : Workflow → ℕ → TaskPlan
plan_in w t = slice_index_or w.plans t no_plan

-- the k-th input of a task
abbrev pub input_in : Workflow → ℕ → ℕ → Input
input_in w t k = slice_index_or (task_in w t).inputs k no_input

-- the channel that a task writes
abbrev pub output_in : Workflow → ℕ → ℕ
output_in w t = (task_in w t).output

-- loads write the channel: no task does
abbrev pub is_input : Workflow → ℕ → Bool
is_input w c = is_none (channel_in w c).writer

-- a task writes the channel anew at each run
abbrev pub is_based : Workflow → ℕ → Bool
is_based w c = (channel_in w c).based

-- what is new is read, and not all
abbrev pub is_new : Mode → Bool
is_new mode.New = true
is_new mode.All = false

-- the place of the first NEW input, the main one: only a task without any has none
abbrev pub main_place : List Input → ℕ
main_place [] = 0
main_place (i ∷ is) = if is_new i.mode then 0 else suc (main_place is)
