-- What a run makes and writes, said again case by case.
use Rattle.std.specs.Prelude.{◌≡◌, ◌⊎◌, ◌↔◌, ℕ, zero, suc, ◌<◌, ◌≤◌, true, false, List, [], ◌∷◌, ◌++◌, length, Some, take, slice_index_or}
use Rattle.std.specs.FinMap as fin
use Rattle.nova_value.specs.declared.value.Value.{Value}
use Rattle.nova_delta.specs.Merge.{RowMap}
use Rattle.nova_path.specs.Lists.{IsOneOf}
use Rattle.nova_pig_algebra.specs.Meaning.{Row}
use Rattle.nova_pig_algebra.specs.Plan.{Plan, rows_of}
use Rattle.nova_pig_pattern.specs.declared.task.PatternKind.{PatternKind}
use Rattle.nova_pig_pattern.specs.declared.task.PatternKind.TheVariants.{NonIncremental, Stateless, Lookup, Stateful}
use Rattle.nova_pig_pattern.specs.OutputKeys.{output_keys, group_keys}
use Rattle.nova_machine.specs.Workflow.{Workflow, channel_in, task_in, input_in, output_in, plan_in, main_place}
use Rattle.nova_machine.specs.Versions.{Version, has, rows_in, version_in, written}
use Rattle.nova_machine.specs.State.{State, Capture, kept_at, done_at, newest, run_count}
use Rattle.nova_machine.specs.Due.{no_capture, seen_at, cursor}
use Rattle.nova_machine.specs.Results.{captured_rows, last_write, result_of, result_rows, rows_by, taken_up}
use Rattle.nova_machine.specs.Writing.{made_version, row_list}
use Rattle.nova_machine.specs.Reachable.{IsReachable}

-- ---- what a run reads

-- the k-th of a run's tables is that of the k-th input at the version that the run captured of it
abbrev pub TablesAreCaptured : Type 0
TablesAreCaptured = (s : State) (t : ℕ) (run : Capture) → length run.versions ≡ length (task_in s.flow t).inputs → (k : ℕ) → k < length (task_in s.flow t).inputs →
    slice_index_or (captured_rows s t run) k [] ≡ fin.values (rows_in (kept_at s (input_in s.flow t k).channel).versions (seen_at run k))

-- ---- lookup tasks

-- version w is the last one up to v that wrote the key, or 0 where none did
pub record IsLastWrite (vs : List Version) (v : ℕ) (key : List Value) (w : ℕ) : Type 0 where
  pub low : w ≤ v
  pub wrote : 0 < w → has (version_in vs w).wrote key ≡ true
  pub last : (u : ℕ) → w < u → u ≤ v → has (version_in vs u).wrote key ≡ false

abbrev pub LastWrites : Type 0
LastWrites = (vs : List Version) (v : ℕ) (key : List Value) → IsLastWrite vs v key (last_write vs v key)

-- what the n-th of these runs captured of the k-th input, counted from 1; 0 before the first
abbrev pub captured_by : ℕ → List Capture → ℕ → ℕ
captured_by k runs zero = 0
captured_by k runs (suc n) = seen_at (slice_index_or runs n no_capture) k

-- the n-th run took up version w: it is above what the run before captured, and not above what this one did
pub record TookUp (k w : ℕ) (runs : List Capture) (n : ℕ) : Type 0 where
  pub in_range : n < length runs
  pub above : captured_by k runs n < w
  pub below : w ≤ captured_by k runs (suc n)

-- captured versions of the input never fall
abbrev pub Rise : ℕ → List Capture → Type 0
Rise k runs = (i j : ℕ) → i ≤ j → j ≤ length runs → captured_by k runs i ≤ captured_by k runs j

-- a version that was written is taken up by the one run of which this is so, or by none yet
abbrev pub RunsTakeUp : Type 0
RunsTakeUp = (k w : ℕ) (runs : List Capture) → 0 < w →
    (Rise k runs → (n : ℕ) → TookUp k w runs n → taken_up k w runs ≡ Some (slice_index_or runs n no_capture))
    × ((run : Capture) → taken_up k w runs ≡ Some run → (n : ℕ) × TookUp k w runs n × (run ≡ slice_index_or runs n no_capture))

-- the rows that a run of a lookup task makes are those that each row of the main table gives by the run, of those before this one and this one, that took up its last write
abbrev pub LookupsByLastWrite : Type 0
LookupsByLastWrite = (s : State) (t : ℕ) (before : List Capture) (run : Capture) (y : Row) →
    let k = main_place (task_in s.flow t).inputs in
    let main = (kept_at s (input_in s.flow t k).channel).versions in
    let v = seen_at run k in
    IsOneOf (result_rows Lookup s t before run) y
    ↔ ((e : List Value × Row) × IsOneOf (fin.entries (rows_in main v)) e × IsOneOf (rows_by s t k e.1 (taken_up k (last_write main v e.0) (before ++ run ∷ []))) y)

-- ---- all others

-- a run of another pattern makes what its script gives of the whole tables that it captured
abbrev pub OthersByWholeTables : Type 0
OthersByWholeTables = (pattern : PatternKind) → (pattern ≡ Lookup → ⊥) → (s : State) (t : ℕ) (before : List Capture) (run : Capture) →
    result_rows pattern s t before run ≡ rows_of (plan_in s.flow t).plan (captured_rows s t run)

-- ---- what a run writes

-- the output key of a group of the key's row, where it has one
abbrev pub IsOfGroup : Plan → RowMap → List Value → List Value → Type 0
IsOfGroup p rows key q = IsOneOf (group_keys p (row_list (fin.get rows key))) q

-- the keys that a run writes: by its pattern and plan, the place and the versions of its main input, where that stood, what was captured of it, and the rows that the run makes
abbrev pub Writes : PatternKind → Plan → ℕ → List Version → ℕ → ℕ → RowMap → List Value → Type 0
Writes NonIncremental p k main i j made q = IsOneOf (fin.keys made) q
Writes Stateless p k main i j made q = (key : List Value) × IsOneOf (written main i j) key × IsOneOf (output_keys p k key) q
Writes Lookup p k main i j made q = (key : List Value) × IsOneOf (written main i j) key × IsOneOf (output_keys p k key) q
Writes Stateful p k main i j made q = (key : List Value) × IsOneOf (written main i j) key × (IsOfGroup p (rows_in main i) key q ⊎ IsOfGroup p (rows_in main j) key q)

-- a run makes its result, and writes these keys and no others
abbrev pub RunsWrite : Type 0
RunsWrite = (s : State) (t : ℕ) (run : Capture) (q : List Value) →
    let k = main_place (task_in s.flow t).inputs in
    let main = (kept_at s (input_in s.flow t k).channel).versions in
    let made = made_version s t run in
    (made.rows ≡ (result_of s t (done_at s t).runs run).rows)
    × (IsOneOf made.wrote q ↔ Writes (plan_in s.flow t).pattern (plan_in s.flow t).plan k main (cursor s t k) (seen_at run k) made.rows q)

-- ---- what a run made stays

-- each task is the writer of its output
abbrev pub IsOwned : Workflow → Type 0
IsOwned w = (t : ℕ) → t < length w.tasks → (output_in w t < length w.channels) × ((channel_in w (output_in w t)).writer ≡ Some t)

-- version m of a task's output is the result of its run m: from scratch, at the versions that its recorded runs name
abbrev pub RunsAreVersions : Type 0
RunsAreVersions = (s : State) → IsOwned s.flow → IsReachable s → (t : ℕ) → t < length s.flow.tasks →
    let runs = (done_at s t).runs in
    let made = (kept_at s (output_in s.flow t)).versions in
    (run_count s t ≡ newest s (output_in s.flow t))
    × ((m : ℕ) → m < length runs → rows_in made (suc m) ≡ (result_of s t (take m runs) (slice_index_or runs m no_capture)).rows)
