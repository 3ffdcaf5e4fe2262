-- The runs that begin or are in flight, what they read, and the deltas that they make.
use Rattle.std.specs.Prelude.{◌≡◌, ◌⊎◌, ℕ, List, [], ◌∷◌, Some}
use Rattle.nova_delta.specs.Merge.{DeltaValue, TableValue}
use Rattle.nova_workflow.specs.declared.flow.Input.{Input}
use Rattle.nova_machine.specs.Workflow.{task_in, plan_in, main_place}
use Rattle.nova_machine.specs.Versions.{rows_in, block}
use Rattle.nova_machine.specs.State.{State, Capture, kept_at, done_at, table_at}
use Rattle.nova_machine.specs.Due.{capture_of, last_of, seen_at}
use Rattle.nova_rowwise.specs.Runs.{main_channel, without}
use Rattle.nova_state.specs.Advance.{delta_of}

-- a run that begins now, or that is in flight
abbrev pub IsCurrent : State → ℕ → Capture → Type 0
IsCurrent s t run = (run ≡ capture_of s t) ⊎ ((done_at s t).flight ≡ Some run)

-- the tables of these inputs at these versions
abbrev pub tables_at : State → List Input → List ℕ → List TableValue
tables_at s [] versions = []
tables_at s (i ∷ is) [] = []
tables_at s (i ∷ is) (v ∷ vs) = table_at s i.channel v ∷ tables_at s is vs

-- those that a run captured of the inputs beside the main one
abbrev pub lookup_tables : State → ℕ → Capture → List TableValue
lookup_tables s t run = without (main_place (task_in s.flow t).inputs) (tables_at s (task_in s.flow t).inputs run.versions)

-- the delta that a run of a grouping task makes: of its input's block, from the table where the run before it stood
abbrev pub group_delta : State → ℕ → List Capture → Capture → DeltaValue
group_delta s t before run =
    let k = main_place (task_in s.flow t).inputs in
    let main = (kept_at s (main_channel s t)).versions in
    let i = seen_at (last_of before) k in
    delta_of (plan_in s.flow t).plan (rows_in main i) (block main i (seen_at run k))
