-- Worked tasks: one copies a channel, and one joins it with another.
use Rattle.std.specs.Prelude.{false, [], ◌∷◌, ◌++◌, Some, None}
use Rattle.nova_value.specs.Rows.{Shape}
use Rattle.nova_pig_algebra.specs.declared.node.Node.TheVariants as node
use Rattle.nova_pig_algebra.specs.Plan.{Plan, tree_of_plan}
use Rattle.nova_pig_pattern.specs.declared.task.PatternKind.TheVariants.{Stateless, Lookup}
use Rattle.nova_pig_pattern.specs.Shapes.{IsStateless}
use Rattle.nova_workflow.specs.declared.flow.Trigger.TheVariants.{OnData}
use Rattle.nova_machine.specs.Workflow.{Workflow, schema_in}
use Rattle.nova_machine.specs.FlowA.{flow_a, new, all}
use Rattle.nova_rowwise.specs.Runs.{IsRowTask}

abbrev requests : Shape
requests = schema_in (flow_a OnData) 0

abbrev pages : Shape
pages = schema_in (flow_a OnData) 1

-- the columns of both
abbrev joined : Shape
joined = record { columns = requests.columns ++ pages.columns; key = 0 ∷ [] }

-- STORE of LOAD
abbrev pub copy : Plan
copy = record { nodes = node.Load 0 ∷ []; stored = 0; inputs = requests ∷ []; output = requests }

-- JOIN r BY url, p BY url
abbrev pub join : Plan
join = record { nodes = node.Load 0 ∷ node.Load 1 ∷ node.Join 0 (1 ∷ []) 1 (0 ∷ []) ∷ []; stored = 2; inputs = requests ∷ pages ∷ []; output = joined }

abbrev pub copy_and_join : Workflow
copy_and_join = record {
  text = [];
  channels = (
      record { name = []; schema = requests; writer = None; based = false } ∷ record { name = []; schema = pages; writer = None; based = false }
      ∷ record { name = []; schema = requests; writer = Some 0; based = false } ∷ record { name = []; schema = joined; writer = Some 1; based = false } ∷ []
      );
  tasks = (
      record { name = []; script = []; inputs = new 0 ∷ []; output = 2; based = false; trigger = OnData }
      ∷ record { name = []; script = []; inputs = new 0 ∷ all 1 ∷ []; output = 3; based = false; trigger = OnData } ∷ []
      );
  plans = record { plan = copy; pattern = Stateless } ∷ record { plan = join; pattern = Lookup } ∷ [];
}

-- the laws on runs speak of such tasks
abbrev pub CopyIsARowTask : Type 0
CopyIsARowTask = IsRowTask copy_and_join 0 × IsStateless 0 (tree_of_plan copy)

abbrev pub JoinIsARowTask : Type 0
JoinIsARowTask = IsRowTask copy_and_join 1
