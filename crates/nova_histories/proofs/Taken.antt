-- The tables that the rule of a row plan takes beside its main input's block.
use Rattle.std.proofs.Common.{◌≡◌, ℕ, zero, suc, ◌<◌, List, [], ◌∷◌, length, map, refl, ap, sym, ◌∙◌, arith}
use Rattle.std.specs.Prelude.{slice_index_or}
use Rattle.std.specs.FinMap as fin
use Rattle.nova_value.specs.Rows.{Shape}
use Rattle.nova_delta.specs.Listed.{rows_of}
use Rattle.nova_delta.specs.Merge.{TableValue}
use Rattle.nova_pig_algebra.specs.Meaning.{Row}
use Rattle.nova_workflow.specs.declared.flow.Input.{Input}
use Rattle.nova_machine.specs.Workflow.{main_place, no_input, schema_in, task_in}
use Rattle.nova_machine.specs.Versions.{rows_in}
use Rattle.nova_machine.specs.State.{State, kept_at}
use Rattle.nova_machine.specs.Results.{inputs_at}
use Rattle.nova_rowwise.specs.Derived.{with_main_schema}
use Rattle.nova_rowwise.specs.Runs.{main_channel, without}
use Rattle.nova_histories.specs.Made.{tables_at}
use Rattle.nova_histories.specs.Statements.{RowRunsTakeTables}
use Rattle.nova_histories.proofs.Captures.{current_risen}
use Rattle.nova_histories.proofs.Planned.{owned}
use Rattle.nova_histories.proofs.RowRuns.{row_task}
use Rattle.nova_histories.proofs.Writes.{channels_keep}

map_without : {A B : Type 0} (f : A → B) (k : ℕ) (xs : List A) → map f (without k xs) ≡ without k (map f xs)
map_without f k [] = refl
map_without f zero (x ∷ xs) = refl
map_without {B = B} f (suc k) (x ∷ xs) = ap (λ (ys : List B). f x ∷ ys) (map_without f k xs)

their_rows : (s : State) (is : List Input) (vs : List ℕ) → map rows_of (tables_at s is vs) ≡ inputs_at s is vs
their_rows s [] vs = refl
their_rows s (i ∷ is) [] = refl
their_rows s (i ∷ is) (v ∷ vs) = ap (λ (rs : List (List Row)). fin.values (rows_in (kept_at s i.channel).versions v) ∷ rs) (their_rows s is vs)

their_schemas : (s : State) (is : List Input) (vs : List ℕ) → length vs ≡ length is → map (λ (t : TableValue). t.schema) (tables_at s is vs) ≡ map (λ (i : Input). schema_in s.flow i.channel) is
their_schemas s [] vs long = refl
their_schemas s (i ∷ is) [] long = absurd (omega (arith, long))
their_schemas s (i ∷ is) (v ∷ vs) long = ap (λ (ss : List Shape). schema_in s.flow i.channel ∷ ss) (their_schemas s is vs (omega (arith, long)))

-- the main input's schema at its place among the others
put_there : (s : State) (is : List Input) (k : ℕ) → k < length is
    → with_main_schema k (without k (map (λ (i : Input). schema_in s.flow i.channel) is)) (schema_in s.flow (slice_index_or is k no_input).channel) ≡ map (λ (i : Input). schema_in s.flow i.channel) is
put_there s [] k lt = absurd (omega (arith, lt))
put_there s (i ∷ is) zero lt = refl
put_there s (i ∷ is) (suc k) lt = ap (λ (ss : List Shape). schema_in s.flow i.channel ∷ ss) (put_there s is k (omega (arith, lt)))

pub row_runs_take_tables : RowRunsTakeTables
row_runs_take_tables s planned at t lt pattern run current =
    let is = row_task s planned at (channels_keep s planned at) t lt pattern in
    let inputs = (task_in s.flow t).inputs in
    let k = main_place inputs in
    let whole = (current_risen s (owned s.flow planned) at t lt run current).0 in
    let schemas = map_without (λ (x : TableValue). x.schema) k (tables_at s inputs run.versions) ∙ ap (without k) (their_schemas s inputs run.versions whole) in (
      is,
      record {
        schemas = (λ z. with_main_schema (is.main z) (schemas z) (schema_in s.flow (main_channel s t))) ∙ put_there s inputs k is.place ∙ sym is.inputs;
        rows = map_without rows_of k (tables_at s inputs run.versions) ∙ ap (without k) (their_rows s inputs run.versions);
      },
    )
