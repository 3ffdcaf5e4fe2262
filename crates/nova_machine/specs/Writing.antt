-- The keys that a run wrote, and the version that it makes.
use Rattle.std.specs.Prelude.{ℕ, List, [], ◌∷◌, ◌++◌, Option, Some, None}
use Rattle.std.specs.List.{flat_map}
use Rattle.std.specs.FinMap as fin
use Rattle.nova_value.specs.declared.value.Value.{Value}
use Rattle.nova_delta.specs.Merge.{RowMap}
use Rattle.nova_pig_algebra.specs.Meaning.{Row}
use Rattle.nova_pig_algebra.specs.Plan.{Plan}
use Rattle.nova_pig_pattern.specs.declared.task.PatternKind.{PatternKind}
use Rattle.nova_pig_pattern.specs.declared.task.PatternKind.TheVariants.{NonIncremental, Stateless, Lookup, Stateful}
use Rattle.nova_machine.specs.Workflow.{task_in, plan_in, input_in, main_place}
use Rattle.nova_machine.specs.Versions.{Version, rows_in, written}
use Rattle.nova_machine.specs.State.{State, Capture, kept_at, done_at}
use Rattle.nova_machine.specs.Due.{seen_at, cursor}
use Rattle.nova_pig_pattern.specs.OutputKeys.{output_keys, group_keys}
use Rattle.nova_machine.specs.Results.{result_of}

abbrev pub row_list : Option Row → List Row
row_list None = []
row_list (Some row) = row ∷ []

-- the output keys of the groups of a key's row, where it has one
abbrev pub groups_at : Plan → RowMap → List Value → List (List Value)
groups_at p rows key = group_keys p (row_list (fin.get rows key))

-- by a run that makes these rows, where its main input, which is the k-th, has these versions: from its cursor i to the captured version j
abbrev pub written_keys : PatternKind → Plan → ℕ → List Version → ℕ → ℕ → RowMap → List (List Value)
written_keys NonIncremental p k main i j made = fin.keys made
written_keys Stateless p k main i j made = flat_map (output_keys p k) (written main i j)
written_keys Lookup p k main i j made = flat_map (output_keys p k) (written main i j)
written_keys Stateful p k main i j made = flat_map (λ key. groups_at p (rows_in main i) key ++ groups_at p (rows_in main j) key) (written main i j)

-- the version that a run of a task makes now, where this is what it captured
unfoldable pub made_version : State → ℕ → Capture → Version
made_version s t run =
    let k = main_place (task_in s.flow t).inputs in
    let main = (kept_at s (input_in s.flow t k).channel).versions in
    let made = (result_of s t (done_at s t).runs run).rows in
    record { rows = made; wrote = written_keys (plan_in s.flow t).pattern (plan_in s.flow t).plan k main (cursor s t k) (seen_at run k) made }
