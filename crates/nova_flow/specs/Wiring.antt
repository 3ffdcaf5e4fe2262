-- How the tasks of a workflow hang together: each rule in its order.
use Rattle.std.specs.Prelude.{ℕ, suc, Bool, not, ◌&&◌, nat_eq, nat_le, if◌then◌else◌, List, [], ◌∷◌, ◌++◌, position, slice_get, Option, Some, None, Ok, Err, codes}
use Rattle.std.specs.List.{list_any}
use Rattle.nova_value.specs.Line.{is_numeral, number_after}
use Rattle.nova_workflow.specs.declared.flow.Channel.{Channel}
use Rattle.nova_workflow.specs.declared.flow.Input.{Input}
use Rattle.nova_workflow.specs.declared.flow.Task.{Task}
use Rattle.nova_workflow.specs.declared.flow.Trigger.{Trigger}
use Rattle.nova_workflow.specs.declared.flow.Trigger.TheVariants.{OnData, Every, After}
use Rattle.nova_flow.specs.declared.fault.FlowFault.TheVariants as fault
use Rattle.nova_flow.specs.declared.fault.Stop.{Stop}
use Rattle.nova_flow.specs.declared.fault.Stop.TheVariants.{Fault}
use Rattle.nova_workflow.specs.Writers.{writes, writer_of, is_based}
use Rattle.nova_flow.specs.Answers.{Answer, ◌>>=◌, require}
use Rattle.nova_name.specs.Keywords.{same_text}
use Rattle.nova_flow.specs.Words.{two_words}
use Rattle.nova_flow.specs.Tasks.{Stated, has_task}

-- whether one of the tasks writes a channel
abbrev pub is_written : ℕ → List Task → Bool
is_written channel tasks = list_any (writes channel) tasks

abbrev pub is_output : ℕ → List Stated → Bool
is_output channel tasks = list_any (λ t. nat_eq t.output channel) tasks

abbrev pub name_or : Option Channel → List ℕ
name_or (Some c) = c.name
name_or None = codes "?"

-- the name of a channel; the number of an output is in range
abbrev pub channel_name : List Channel → ℕ → List ℕ
channel_name channels channel = name_or (slice_get channels channel)

-- TwoWriters: an earlier task has the same output
abbrev pub one_writer : List Channel → List Task → ℕ → Answer (Unit {0})
one_writer channels done output =
    require (fault.TwoWriters (channel_name channels output)) (not (is_written output done))

-- whether one of these tasks writes one of the inputs
abbrev pub write_input : List Stated → List Input → Bool
write_input tasks inputs = list_any (λ i. is_output i.channel tasks) inputs

-- NamedLater: an input is written by the task itself or by a later one
abbrev pub written_before : List ℕ → List Stated → List Input → Answer (Unit {0})
written_before task rest inputs = require (fault.NamedLater task) (not (write_input rest inputs))

-- from 1 to 1,000,000,000
abbrev pub as_period : ℕ → Option ℕ
as_period n = if nat_le 1 n && nat_le n 1000000000 then Some n else None

-- digits alone
abbrev pub period_of : List ℕ → Option ℕ
period_of digits = if is_numeral digits then as_period (number_after 0 digits) else None

abbrev pub task_place : List ℕ → List Task → Option ℕ
task_place name tasks = position (λ t. same_text t.name name) tasks

-- BadTrigger: there is no task of this name. NamedLater: it is the task itself or a later one
abbrev pub known_after : List ℕ → List Stated → List ℕ → Option ℕ → Answer Trigger
known_after task rest name (Some place) = Ok (After place)
known_after task rest name None =
    if has_task name rest then Err (fault.NamedLater task) else Err (fault.BadTrigger task)

-- the fault as an answer of a call
abbrev pub bad_trigger : List ℕ → Stop
bad_trigger task = Fault (fault.BadTrigger task)

abbrev pub every : List ℕ → Option ℕ → Answer Trigger
every task (Some period) = Ok (Every period)
every task None = Err (fault.BadTrigger task)

-- `every P` or `after T`, as two words
abbrev pub trigger_by : List ℕ → List Task → List Stated → Option (List ℕ × List ℕ) → Answer Trigger
trigger_by task done rest None = Err (fault.BadTrigger task)
trigger_by task done rest (Some w) =
    if same_text w.0 (codes "every") then every task (period_of w.1) else
    (if same_text w.0 (codes "after") then known_after task rest w.1 (task_place w.1 done)
    else Err (fault.BadTrigger task))

-- a task's trigger behind the tasks that are done, where rest is the task and those behind it.
-- BadTrigger: it has none of the three forms
abbrev pub trigger_of : List ℕ → List Task → List Stated → Option (List ℕ) → Answer Trigger
trigger_of task done rest None = Ok OnData
trigger_of task done rest (Some text) =
    if same_text text (codes "data") then Ok OnData else trigger_by task done rest (two_words text)

abbrev pub with_trigger : Stated → Trigger → Task
with_trigger t trigger = record {
  name = t.name;
  script = t.script;
  inputs = t.inputs;
  output = t.output;
  based = t.based;
  trigger = trigger;
}

-- a task behind those that are done, where rest is the task and those behind it
abbrev pub settled : List Channel → List Task → List Stated → Stated → Answer Task
settled channels done rest t =
    one_writer channels done t.output >>= λ _.
    written_before t.name rest t.inputs >>= λ _.
    trigger_of t.name done rest t.trigger >>= λ trigger.
    Ok (with_trigger t trigger)

abbrev pub settled_after : List Channel → List Task → List Stated → Answer (List Task)
settled_after channels done [] = Ok done
settled_after channels done (t ∷ ts) =
    settled channels done (t ∷ ts) t >>= λ task.
    settled_after channels (done ++ task ∷ []) ts

abbrev pub all_settled : List Channel → List Stated → Answer (List Task)
all_settled channels tasks = settled_after channels [] tasks

abbrev pub wired : List Task → ℕ → Channel → Channel
wired tasks channel c = record {
  name = c.name;
  schema = c.schema;
  writer = writer_of tasks channel;
  based = is_based tasks channel;
}

-- the channels, numbered from n, with their writers
abbrev pub all_wired : List Task → ℕ → List Channel → List Channel
all_wired tasks n [] = []
all_wired tasks n (c ∷ cs) = wired tasks n c ∷ all_wired tasks (suc n) cs
