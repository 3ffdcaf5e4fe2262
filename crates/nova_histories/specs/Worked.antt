-- A worked workflow: one task copies requests, and one joins the copies with pages.
use Rattle.std.specs.Prelude.{ℕ, false, List, [], ◌∷◌, ◌++◌, Some, None, codes}
use Rattle.nova_value.specs.Rows.{Shape}
use Rattle.nova_value.specs.declared.schema.Column.{Column}
use Rattle.nova_value.specs.declared.value.Kind.TheVariants.{Long, Text}
use Rattle.nova_pig_algebra.specs.declared.node.Node.TheVariants.{Join, Load}
use Rattle.nova_pig_algebra.specs.Plan.{Plan}
use Rattle.nova_pig_pattern.specs.declared.task.PatternKind.TheVariants.{Stateless, Lookup}
use Rattle.nova_workflow.specs.declared.flow.Trigger.TheVariants.{OnData}
use Rattle.nova_machine.specs.FlowA.{all, new}
use Rattle.nova_machine.specs.Workflow.{Workflow}
use Rattle.nova_histories.specs.Planned.{IsPlannedFlow}

abbrev long : List ℕ → Column
long name = record { name = name; kind = Long }

abbrev chararray : List ℕ → Column
chararray name = record { name = name; kind = Text }

abbrev pub requests : Shape
requests = record { columns = long (codes "id") ∷ chararray (codes "url") ∷ long (codes "ms") ∷ []; key = 0 ∷ [] }

abbrev pub pages : Shape
pages = record { columns = chararray (codes "page") ∷ chararray (codes "tag") ∷ []; key = 0 ∷ [] }

abbrev pub joined : Shape
joined = record { columns = requests.columns ++ pages.columns; key = 0 ∷ [] }

-- STORE of LOAD
abbrev pub copy : Plan
copy = record { nodes = Load 0 ∷ []; stored = 0; inputs = requests ∷ []; output = requests }

-- JOIN r BY url, p BY page
abbrev pub join : Plan
join = record { nodes = Load 0 ∷ Load 1 ∷ Join 0 (1 ∷ []) 1 (0 ∷ []) ∷ []; stored = 2; inputs = requests ∷ pages ∷ []; output = joined }

abbrev pub worked : Workflow
worked = record {
  text = [];
  channels = (
      record { name = codes "requests"; schema = requests; writer = None; based = false }
      ∷ record { name = codes "pages"; schema = pages; writer = None; based = false }
      ∷ record { name = codes "copied"; schema = requests; writer = Some 0; based = false }
      ∷ record { name = codes "joined"; schema = joined; writer = Some 1; based = false } ∷ []
      );
  tasks = (
      record { name = codes "copy"; script = []; inputs = new 0 ∷ []; output = 2; based = false; trigger = OnData }
      ∷ record { name = codes "join"; script = []; inputs = new 2 ∷ all 1 ∷ []; output = 3; based = false; trigger = OnData } ∷ []
      );
  plans = record { plan = copy; pattern = Stateless } ∷ record { plan = join; pattern = Lookup } ∷ [];
}

-- the laws of this crate speak of it
abbrev pub WorkedIsPlanned : Type 0
WorkedIsPlanned = IsPlannedFlow worked
