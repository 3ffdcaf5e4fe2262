-- The workflow of the worked sessions: pick filters raw, tag joins that with pages, count groups, and sum is written anew each minute.
-- No session looks into a table, so the plans are left out.
use Rattle.std.specs.Prelude.{ℕ, true, false, List, [], ◌∷◌, Some, None, codes}
use Rattle.nova_value.specs.Rows.{Shape}
use Rattle.nova_value.specs.declared.schema.Column.{Column}
use Rattle.nova_value.specs.declared.value.Kind.TheVariants.{Long, Text}
use Rattle.nova_pig_pattern.specs.declared.task.PatternKind.{PatternKind}
use Rattle.nova_pig_pattern.specs.declared.task.PatternKind.TheVariants.{NonIncremental, Stateless, Lookup, Stateful}
use Rattle.nova_workflow.specs.declared.flow.Input.{Input}
use Rattle.nova_workflow.specs.declared.flow.Mode.TheVariants as mode
use Rattle.nova_workflow.specs.declared.flow.Trigger.{Trigger}
use Rattle.nova_workflow.specs.declared.flow.Trigger.TheVariants.{OnData}
use Rattle.nova_machine.specs.Workflow.{Workflow, TaskPlan, no_plan}

abbrev long : List ℕ → Column
long name = record { name = name; kind = Long }

abbrev chararray : List ℕ → Column
chararray name = record { name = name; kind = Text }

abbrev first_key : List Column → Shape
first_key columns = record { columns = columns; key = 0 ∷ [] }

abbrev pub requests : Shape
requests = first_key (long (codes "id") ∷ chararray (codes "url") ∷ long (codes "ms") ∷ [])

abbrev tags : Shape
tags = first_key (chararray (codes "url") ∷ chararray (codes "tag") ∷ [])

abbrev tagged : Shape
tagged = first_key (long (codes "id") ∷ chararray (codes "tag") ∷ long (codes "ms") ∷ [])

abbrev stats : Shape
stats = first_key (chararray (codes "tag") ∷ long (codes "n") ∷ long (codes "total") ∷ long (codes "worst") ∷ [])

abbrev report : Shape
report = first_key (long (codes "n") ∷ long (codes "tags") ∷ [])

abbrev pub new : ℕ → Input
new c = record { channel = c; mode = mode.New }

abbrev pub all : ℕ → Input
all c = record { channel = c; mode = mode.All }

abbrev by_pattern : PatternKind → TaskPlan
by_pattern p = record no_plan { pattern = p }

-- one channel that loads write, and no task
abbrev pub one_channel : Workflow
one_channel = record { text = []; channels = record { name = codes "raw"; schema = requests; writer = None; based = false } ∷ []; tasks = []; plans = [] }

-- one channel of numbers, whose rows compute
abbrev pub numbers : Workflow
numbers = record { text = []; channels = record { name = codes "numbers"; schema = first_key (long (codes "id") ∷ long (codes "n") ∷ []); writer = None; based = false } ∷ []; tasks = []; plans = [] }

-- with this trigger of sum
abbrev pub flow_a : Trigger → Workflow
flow_a trigger = record {
  text = [];
  channels = (
      record { name = codes "raw"; schema = requests; writer = None; based = false }
      ∷ record { name = codes "pages"; schema = tags; writer = None; based = false }
      ∷ record { name = codes "slow"; schema = requests; writer = Some 0; based = false }
      ∷ record { name = codes "tagged"; schema = tagged; writer = Some 1; based = false }
      ∷ record { name = codes "stats"; schema = stats; writer = Some 2; based = false }
      ∷ record { name = codes "report"; schema = report; writer = Some 3; based = true } ∷ []
      );
  tasks = (
      record { name = codes "pick"; script = []; inputs = new 0 ∷ []; output = 2; based = false; trigger = OnData }
      ∷ record { name = codes "tag"; script = []; inputs = new 2 ∷ all 1 ∷ []; output = 3; based = false; trigger = OnData }
      ∷ record { name = codes "count"; script = []; inputs = new 3 ∷ []; output = 4; based = false; trigger = OnData }
      ∷ record { name = codes "sum"; script = []; inputs = all 4 ∷ []; output = 5; based = true; trigger = trigger } ∷ []
      );
  plans = by_pattern Stateless ∷ by_pattern Lookup ∷ by_pattern Stateful ∷ by_pattern NonIncremental ∷ [];
}
