-- Runs of stateless and lookup tasks on the plain machine.
use Rattle.std.specs.Prelude.{◌≡◌, ◌⊎◌, ℕ, zero, suc, ◌+◌, ◌==◌, ◌<◌, ◌≤◌, List, [], ◌∷◌, ◌++◌, length, map, is_some, if◌then◌else◌}
use Rattle.std.specs.List.{AllByRecursion}
use Rattle.std.specs.FinMap as fin
use Rattle.nova_value.specs.declared.value.Value.{Value}
use Rattle.nova_value.specs.Rows.{IsShape}
use Rattle.nova_delta.specs.Merge.{DeltaValue, IsTable, IsDelta, merge_of, puts}
use Rattle.nova_pig_algebra.specs.Plan.{IsPlan, tree_of_plan}
use Rattle.nova_pig_pattern.specs.declared.task.PatternKind.TheVariants.{Stateless, Lookup}
use Rattle.nova_pig_pattern.specs.Shapes.{IsStateless}
use Rattle.nova_workflow.specs.declared.flow.Input.{Input}
use Rattle.nova_admit.specs.Shaped.{IsRowPlan}
use Rattle.nova_machine.specs.Workflow.{Workflow, task_in, plan_in, input_in, output_in, schema_in, main_place}
use Rattle.nova_machine.specs.Versions.{Keeps, block, has}
use Rattle.nova_machine.specs.State.{State, Capture, kept_at, done_at, newest, table_at, block_at}
use Rattle.nova_machine.specs.Due.{last_of, seen_at, cursor}
use Rattle.nova_machine.specs.Results.{captured_rows, result_of}
use Rattle.nova_machine.specs.Writing.{made_version}
use Rattle.nova_machine.specs.RunLaws.{IsOwned, Rise}
use Rattle.nova_machine.specs.Steps.{add_run}
use Rattle.nova_machine.specs.Reachable.{IsReachable}
use Rattle.nova_rowwise.specs.Derived.{main_of, derived}

-- a list without what stands at a place
abbrev pub without : {A : Type 0} → ℕ → List A → List A
without k [] = []
without zero (x ∷ xs) = xs
without (suc k) (x ∷ xs) = x ∷ without k xs

-- what admission gives of a stateless or of a lookup task: its plan, over the schemas of its channels, with the NEW input as the main one
pub record IsRowTask (w : Workflow) (t : ℕ) : Type 0 where
  pub plan : IsPlan (plan_in w t).plan
  pub row : IsRowPlan (plan_in w t).plan
  pub main : main_of (tree_of_plan (plan_in w t).plan) ≡ main_place (task_in w t).inputs
  pub place : main_place (task_in w t).inputs < length (task_in w t).inputs
  pub inputs : (plan_in w t).plan.inputs ≡ map (λ (i : Input). schema_in w i.channel) (task_in w t).inputs
  pub output : (plan_in w t).plan.output ≡ schema_in w (output_in w t)
  pub shape : IsShape (schema_in w (input_in w t (main_place (task_in w t).inputs)).channel)

-- the rows of each version of each channel fit its schema and stand at their keys
abbrev pub HasTables : State → Type 0
HasTables s = (c v : ℕ) → IsTable (table_at s c v)

-- the channel of a task's main input
abbrev pub main_channel : State → ℕ → ℕ
main_channel s t = (input_in s.flow t (main_place (task_in s.flow t).inputs)).channel

-- a run behind others: each captured a version of each input, those of the main one never fall and are there, and its block is a delta
pub record IsNextRun (s : State) (t : ℕ) (before : List Capture) (run : Capture) : Type 0 where
  pub whole : AllByRecursion (λ (r : Capture). length r.versions ≡ length (task_in s.flow t).inputs) (before ++ run ∷ [])
  pub rise : Rise (main_place (task_in s.flow t).inputs) (before ++ run ∷ [])
  pub there : seen_at run (main_place (task_in s.flow t).inputs) ≤ newest s (main_channel s t)
  pub block : IsDelta (block_at s (main_channel s t) (seen_at (last_of before) (main_place (task_in s.flow t).inputs)) (seen_at run (main_place (task_in s.flow t).inputs)))

-- the delta that a run makes: of its main input's block, from where the run before it stood, and of the tables of the other inputs as it captured them
abbrev pub run_delta : State → ℕ → List Capture → Capture → DeltaValue
run_delta s t before run =
    let k = main_place (task_in s.flow t).inputs in
    derived (plan_in s.flow t).plan (without k (captured_rows s t run)) (block_at s (main_channel s t) (seen_at (last_of before) k) (seen_at run k))

-- the result of each run is that of the run before it, or the empty table, with this delta
pub record RunsMergeFor (s : State) (t : ℕ) : Type 0 where
  pub first : (run : Capture) → IsNextRun s t [] run → merge_of (record { schema = schema_in s.flow (output_in s.flow t); rows = fin.empty }) (run_delta s t [] run) ≡ result_of s t [] run
  pub next : (before : List Capture) (last run : Capture) → IsNextRun s t (before ++ last ∷ []) run
      → merge_of (result_of s t before last) (run_delta s t (before ++ last ∷ []) run) ≡ result_of s t (before ++ last ∷ []) run

-- so it is with a stateless task
abbrev pub StatelessRunsMerge : Type 0
StatelessRunsMerge = (s : State) (t : ℕ) → (plan_in s.flow t).pattern ≡ Stateless → IsRowTask s.flow t → IsStateless 0 (tree_of_plan (plan_in s.flow t).plan) → length (task_in s.flow t).inputs ≡ 1
    → HasTables s → Keeps (kept_at s (main_channel s t)).versions → RunsMergeFor s t

-- and with a lookup task, of which each row stays as the run made it that took up the last write of its key
abbrev pub LookupMerges : Type 0
LookupMerges = (s : State) (t : ℕ) → (plan_in s.flow t).pattern ≡ Lookup → IsRowTask s.flow t → HasTables s → Keeps (kept_at s (main_channel s t)).versions → RunsMergeFor s t

-- a run of a stateless or of a lookup task writes the keys of its delta, and no others
abbrev pub DeltasAreWritten : Type 0
DeltasAreWritten = (s : State) (t : ℕ) → ((plan_in s.flow t).pattern ≡ Stateless) ⊎ ((plan_in s.flow t).pattern ≡ Lookup) → IsRowTask s.flow t → (run : Capture) →
    let k = main_place (task_in s.flow t).inputs in
    IsDelta (block_at s (main_channel s t) (cursor s t k) (seen_at run k)) → (q : List Value) → has (made_version s t run).wrote q ≡ is_some (fin.get (run_delta s t (done_at s t).runs run).entries q)

-- The block that such a run makes is its delta, for the first version without its removals.
abbrev pub RunsCommitTheirDelta : Type 0
RunsCommitTheirDelta = (s : State) (t : ℕ) → IsReachable s → IsOwned s.flow → t < length s.flow.tasks → ((plan_in s.flow t).pattern ≡ Stateless) ⊎ ((plan_in s.flow t).pattern ≡ Lookup) → IsRowTask s.flow t
    → RunsMergeFor s t → (run : Capture) → IsNextRun s t (done_at s t).runs run →
    let c = output_in s.flow t in
    let n = newest s c in
    let d = (run_delta s t (done_at s t).runs run).entries in
    block (kept_at (add_run s t run) c).versions n (n + 1) ≡ (if n == 0 then puts d else d)
