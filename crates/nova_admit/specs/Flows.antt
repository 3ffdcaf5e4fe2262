-- What is answered of a workflow: the patterns of its tasks, or the fault of the first task that isn't admitted.
use Rattle.std.specs.Prelude.{◌≡◌, ◌≢◌, ◌<◌, ◌⊎◌, ℕ, Bool, true, false, List, [], ◌∷◌, map, length, slice_index_or, None, Result, Ok, Err}
use Rattle.std.specs.List.{AllByRecursion}
use Rattle.nova_value.specs.Rows.{Shape}
use Rattle.nova_pig_algebra.specs.Plan.{Plan}
use Rattle.nova_pig_pattern.specs.declared.task.Input as pattern
use Rattle.nova_pig_pattern.specs.declared.task.PatternKind.{PatternKind}
use Rattle.nova_pig_pattern.specs.declared.task.TaskFault.{TaskFault}
use Rattle.nova_pig_pattern.specs.declared.task.TaskFault.TheVariants as task
use Rattle.nova_pig_pattern.specs.OutputKey.{HasOutputKey}
use Rattle.nova_pig_parse.specs.declared.text.ParseFault.TheVariants as parse
use Rattle.nova_pig_plan.specs.declared.scope.Channels.{Channels}
use Rattle.nova_pig_plan.specs.declared.fault.PlanFault.TheVariants as plan
use Rattle.nova_admit.specs.declared.script.ScriptFault.{ScriptFault}
use Rattle.nova_admit.specs.declared.script.ScriptFault.TheVariants as script
use Rattle.nova_admit.specs.Texts.{GivesPlan}
use Rattle.nova_workflow.specs.declared.flow.Channel.{Channel}
use Rattle.nova_workflow.specs.declared.flow.Input.{Input}
use Rattle.nova_workflow.specs.declared.flow.Mode.{Mode}
use Rattle.nova_workflow.specs.declared.flow.Mode.TheVariants as mode
use Rattle.nova_workflow.specs.declared.flow.Task.{Task}
use Rattle.nova_workflow.specs.declared.flow.Flow.{Flow}
use Rattle.nova_admit.specs.declared.plans.Pattern.{Pattern}
use Rattle.nova_admit.specs.declared.fault.AdmitFault.{AdmitFault}
use Rattle.nova_admit.specs.declared.fault.AdmitFault.TheVariants.{Script, NoKey, KeyDiffers, BaseReadAsNew, NotAPattern, NoMemory}
use Rattle.nova_admit.specs.TaskPlans.{plan_of, kind_of, admitted}

-- ---- what a task is to its script and to its pattern
-- what stands for a channel past the last
abbrev pub no_such_channel : Channel
no_such_channel = record { name = []; schema = record { columns = []; key = [] }; writer = None; based = false }

-- the channel of a number
abbrev pub channel_at : Flow → ℕ → Channel
channel_at f n = slice_index_or f.channels n no_such_channel

-- a channel as a script sees it
abbrev pub named : Channel → List ℕ × Shape
named c = (c.name, c.schema)

abbrev pub named_inputs : Flow → List Input → List (List ℕ × Shape)
named_inputs f inputs = map (λ (i : Input). named (channel_at f i.channel)) inputs

-- the channels of a task as its script sees them
abbrev pub channels_of : Flow → Task → Channels
channels_of f t = record { inputs = named_inputs f t.inputs; output = named (channel_at f t.output) }

abbrev pub is_new : Mode → Bool
is_new mode.New = true
is_new mode.All = false

-- an input as a pattern sees it
abbrev pub input_of : Flow → Input → pattern.Input
input_of f i = record { channel = i.channel; is_new = is_new i.mode; based = (channel_at f i.channel).based }

-- the inputs of a task as its pattern sees them
abbrev pub inputs_of : Flow → Task → List pattern.Input
inputs_of f t = map (input_of f) t.inputs

-- a task's inputs and output are channels of the workflow
abbrev pub AreWithin : Flow → List Input → Type 0
AreWithin f inputs = AllByRecursion (λ (i : Input). i.channel < length f.channels) inputs

abbrev pub IsWithin : Flow → Task → Type 0
IsWithin f t = AreWithin f t.inputs × (t.output < length f.channels)

-- ---- what is answered of a task
-- the fault of a task with this name
abbrev pub fault_of : Flow → List ℕ → TaskFault → AdmitFault
fault_of f name task.NoKey = NoKey name
fault_of f name task.KeyDiffers = KeyDiffers name
fault_of f name (task.BaseReadAsNew channel) = BaseReadAsNew name (channel_at f channel).name
fault_of f name task.NotAPattern = NotAPattern name

-- the pattern of a task by its admission, or the task's fault
abbrev pub told : Flow → List ℕ → Result PatternKind TaskFault → Result PatternKind AdmitFault
told f name (Ok kind) = Ok kind
told f name (Err fault) = Err (fault_of f name fault)

-- a fault of the script of a task with this name
abbrev pub script_fault : List ℕ → ScriptFault → AdmitFault
script_fault name (script.Parse parse.NoMemory) = NoMemory
script_fault name (script.Plan plan.NoMemory) = NoMemory
script_fault name fault = Script name fault

-- the pattern of a task by what its script gives, or the task's first fault
abbrev pub pattern_of : Flow → Task → Result Plan ScriptFault → Result PatternKind AdmitFault
pattern_of f t (Ok p) = told f t.name (admitted p (inputs_of f t) t.based)
pattern_of f t (Err fault) = Err (script_fault t.name fault)

-- the task has this pattern: its script has this plan, with the output's key
pub record HasPattern (f : Flow) (t : Task) (q : Pattern) : Type 0 where
  pub plan : GivesPlan t.script (channels_of f t) (Ok (plan_of q))
  pub kind : pattern_of f t (Ok (plan_of q)) ≡ Ok (kind_of q)
  pub key : HasOutputKey (plan_of q)

-- the task has this fault: it is the first of what its script gives
pub record HasFault (f : Flow) (t : Task) (e : AdmitFault) : Type 0 where
  pub given : Result Plan ScriptFault
  pub gives : GivesPlan t.script (channels_of f t) given
  pub fault : pattern_of f t given ≡ Err e

-- what a call answers of a task with this plan; want of memory says nothing of it
abbrev pub GivesWithPlan : Flow → Task → Plan → Result Pattern AdmitFault → Type 0
GivesWithPlan f t p (Ok q) = (plan_of q ≡ p) × (pattern_of f t (Ok p) ≡ Ok (kind_of q)) × HasOutputKey p
GivesWithPlan f t p (Err e) = e ≢ NoMemory → pattern_of f t (Ok p) ≡ Err e

-- what a call answers of a task; want of memory says nothing of it
abbrev pub GivesPattern : Flow → Task → Result Pattern AdmitFault → Type 0
GivesPattern f t (Ok q) = HasPattern f t q
GivesPattern f t (Err e) = e ≢ NoMemory → HasFault f t e

-- the plan is over the schemas of the task's channels
pub record HasSchemas (f : Flow) (t : Task) (p : Plan) : Type 0 where
  pub inputs : p.inputs ≡ map (λ (i : Input). (channel_at f i.channel).schema) t.inputs
  pub output : p.output ≡ (channel_at f t.output).schema

-- ---- what is answered of a workflow
-- each task has its pattern
abbrev pub HavePatterns : Flow → List Task → List Pattern → Type 0
HavePatterns f [] [] = Unit {0}
HavePatterns f [] (q ∷ qs) = ⊥
HavePatterns f (t ∷ ts) [] = ⊥
HavePatterns f (t ∷ ts) (q ∷ qs) = HasPattern f t q × HavePatterns f ts qs

-- the first task without a pattern has this fault
abbrev pub HasFirstFault : Flow → List Task → AdmitFault → Type 0
HasFirstFault f [] e = ⊥
HasFirstFault f (t ∷ ts) e = HasFault f t e ⊎ ((q : Pattern) × HasPattern f t q × HasFirstFault f ts e)

-- what a call answers of these tasks of a workflow; want of memory says nothing of them
abbrev pub IsAdmission : Flow → List Task → Result (List Pattern) AdmitFault → Type 0
IsAdmission f ts (Ok qs) = HavePatterns f ts qs
IsAdmission f ts (Err e) = e ≢ NoMemory → HasFirstFault f ts e

-- an admitted workflow, with the pattern of each task
pub record Admission : Type 0 where
  pub flow : Flow
  pub patterns : List Pattern

-- the workflow with the patterns of its tasks, or the fault of the first task that isn't admitted
abbrev pub Admits : Flow → Result Admission AdmitFault → Type 0
Admits f (Ok a) = (a.flow ≡ f) × HavePatterns f f.tasks a.patterns
Admits f (Err e) = e ≢ NoMemory → HasFirstFault f f.tasks e
