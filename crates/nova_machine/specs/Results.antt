-- The table that a run makes, from scratch: its task's script over whole tables, at the versions that were captured.
use Rattle.std.specs.Prelude.{ℕ, zero, suc, nat_le, List, [], ◌∷◌, ◌++◌, Option, Some, None, if◌then◌else◌, slice_set}
use Rattle.std.specs.List.{flat_map}
use Rattle.std.specs.FinMap as fin
use Rattle.nova_value.specs.declared.value.Value.{Value}
use Rattle.nova_delta.specs.Merge.{TableValue}
use Rattle.nova_delta.specs.Seen.{table_of}
use Rattle.nova_pig_algebra.specs.Meaning.{Row}
use Rattle.nova_pig_algebra.specs.Plan.{rows_of}
use Rattle.nova_pig_pattern.specs.declared.task.PatternKind.{PatternKind}
use Rattle.nova_pig_pattern.specs.declared.task.PatternKind.TheVariants.{NonIncremental, Stateless, Lookup, Stateful}
use Rattle.nova_workflow.specs.declared.flow.Input.{Input}
use Rattle.nova_machine.specs.Workflow.{task_in, plan_in, input_in, output_in, schema_in, main_place}
use Rattle.nova_machine.specs.Versions.{Version, version_in, rows_in, has}
use Rattle.nova_machine.specs.State.{State, Capture, kept_at}
use Rattle.nova_machine.specs.Due.{seen_at}

-- the rows of these inputs at these versions, each table's in the order of its keys
abbrev pub inputs_at : State → List Input → List ℕ → List (List Row)
inputs_at s [] versions = []
inputs_at s (i ∷ is) [] = []
inputs_at s (i ∷ is) (v ∷ vs) = fin.values (rows_in (kept_at s i.channel).versions v) ∷ inputs_at s is vs

-- the rows of a task's inputs as a run captured them
abbrev pub captured_rows : State → ℕ → Capture → List (List Row)
captured_rows s t run = inputs_at s (task_in s.flow t).inputs run.versions

-- ---- lookup tasks: a row keeps the lookup tables of the run that took it up

-- the greatest version up to v that wrote the key, 0 where none did
abbrev pub last_write : List Version → ℕ → List Value → ℕ
last_write vs zero key = 0
last_write vs (suc v) key = if has (version_in vs (suc v)).wrote key then suc v else last_write vs v key

-- the first of these runs that captured version w of the k-th input or a later one
abbrev pub taken_up : ℕ → ℕ → List Capture → Option Capture
taken_up k w [] = None
taken_up k w (run ∷ runs) = if nat_le w (seen_at run k) then Some run else taken_up k w runs

-- the script over the one row of the main input, which is the k-th, with the other inputs as that run captured them
abbrev pub rows_by : State → ℕ → ℕ → Row → Option Capture → List Row
rows_by s t k row None = []
rows_by s t k row (Some run) = rows_of (plan_in s.flow t).plan (slice_set (captured_rows s t run) k (row ∷ []))

-- the rows for each key and row of the main input at version v, by the run of these that took up its last write
abbrev pub looked_up : State → ℕ → List Capture → ℕ → ℕ → List Version → List Row
looked_up s t runs k v main =
    flat_map (λ e. rows_by s t k e.1 (taken_up k (last_write main v e.0) runs)) (fin.entries (rows_in main v))

-- ---- all patterns

-- the rows that a run makes behind those before it
abbrev pub result_rows : PatternKind → State → ℕ → List Capture → Capture → List Row
result_rows NonIncremental s t before run = rows_of (plan_in s.flow t).plan (captured_rows s t run)
result_rows Stateless s t before run = rows_of (plan_in s.flow t).plan (captured_rows s t run)
result_rows Stateful s t before run = rows_of (plan_in s.flow t).plan (captured_rows s t run)
result_rows Lookup s t before run =
    let k = main_place (task_in s.flow t).inputs in
    looked_up s t (before ++ run ∷ []) k (seen_at run k) (kept_at s (input_in s.flow t k).channel).versions

-- the result of a run of a task behind the runs before it
abbrev pub result_of : State → ℕ → List Capture → Capture → TableValue
result_of s t before run = table_of (schema_in s.flow (output_in s.flow t)) (result_rows (plan_in s.flow t).pattern s t before run)
