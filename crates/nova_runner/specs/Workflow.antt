-- What a catalog knows of a workflow, and what each workflow that a text says keeps.
use Rattle.std.specs.Prelude.{◌≡◌, List, [], ◌∷◌, ℕ, ◌<◌, ◌≤◌, length, map, Option, Some, None}
use Rattle.nova_value.specs.Rows.{IsShape}
use Rattle.nova_workflow.specs.declared.flow.Channel.{Channel}
use Rattle.nova_workflow.specs.declared.flow.Task.{Task}
use Rattle.nova_workflow.specs.declared.flow.Trigger.{Trigger}
use Rattle.nova_workflow.specs.declared.flow.Trigger.TheVariants.{OnData, Every, After}
use Rattle.nova_meta.specs.declared.wiring.Wire.{Wire}
use Rattle.nova_meta.specs.declared.wiring.Wiring.{Wiring}
use Rattle.nova_meta.specs.Wired as catalog
use Rattle.nova_meta.specs.Wired.{IsWiring}
use Rattle.nova_machine.specs.Workflow.{Workflow, TaskPlan, is_based, schema_in}
use Rattle.nova_machine.specs.Sound.{IsWired}
use Rattle.nova_machine.specs.Keeping.{RunsKeep}
use Rattle.nova_machine.specs.RunLaws.{IsOwned}
pub use Rattle.nova_execution.specs.Groups.{keeps_state}
pub use Rattle.nova_execution.specs.Reads.{edge_of}
use Rattle.nova_histories.specs.Planned.{IsPlannedFlow}
use Rattle.nova_runner.specs.Texts.{HasFlow}

-- ---- what a catalog knows

-- the task that a cascade names
abbrev pub named_by : Trigger → Option ℕ
named_by OnData = None
named_by (Every period) = None
named_by (After task) = Some task

abbrev pub wire_of : Task → TaskPlan → Wire
wire_of t p = record { inputs = map edge_of t.inputs; output = t.output; based = t.based; after = named_by t.trigger; stateful = keeps_state p.pattern }

abbrev pub wires_of : List Task → List TaskPlan → List Wire
wires_of [] ps = []
wires_of (t ∷ ts) [] = []
wires_of (t ∷ ts) (p ∷ ps) = wire_of t p ∷ wires_of ts ps

-- who writes each channel, and the channels of each task
unfoldable pub wiring_of : Workflow → Wiring
wiring_of w = record { writers = map (λ (c : Channel). c.writer) w.channels; tasks = wires_of w.tasks w.plans }

-- ---- what is kept

-- What each workflow that a text says keeps. This is all that the store rests on: whichever texts are admitted, they give it.
pub record IsAdmitted (text : List ℕ) (w : Workflow) : Type 0 where
  pub kept : w.text ≡ text
  pub short : length text ≤ 1048576
  pub counted : length w.plans ≡ length w.tasks
  pub shaped : (c : ℕ) → c < length w.channels → IsShape (schema_in w c)
  pub based : (c : ℕ) → catalog.is_based (wiring_of w) c ≡ is_based w c
  pub wiring : IsWiring (wiring_of w)
  pub news : IsWired w
  pub owned : IsOwned w
  pub planned : IsPlannedFlow w
  pub runs : RunsKeep w

abbrev pub FlowsAreAdmitted : Type 0
FlowsAreAdmitted = (text : List ℕ) (w : Workflow) → HasFlow text w → IsAdmitted text w
