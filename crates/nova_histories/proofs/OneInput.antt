-- A task of one input.
use Rattle.std.proofs.Common.{◌≡◌, ℕ, zero, suc, ◌<◌, List, [], ◌∷◌, ◌++◌, length, map, refl, ap, sym, ◌∙◌, arith}
use Rattle.std.specs.Prelude.{slice_index_or}
use Rattle.std.specs.List.{AllByRecursion}
use Rattle.std.specs.FinMap as fin
use Rattle.nova_workflow.specs.declared.flow.Input.{Input}
use Rattle.nova_machine.specs.Workflow.{main_place, no_input, schema_in, task_in}
use Rattle.nova_machine.specs.Versions.{rows_in}
use Rattle.nova_machine.specs.State.{Capture, State, kept_at}
use Rattle.nova_machine.specs.Due.{seen_at}
use Rattle.nova_machine.specs.Results.{captured_rows, inputs_at}
use Rattle.nova_rowwise.specs.Runs.{main_channel}
use Rattle.nova_histories.specs.Statements.{IsWhole}

one_input : (s : State) (inputs : List Input) (versions : List ℕ) → length inputs ≡ 1 → length versions ≡ length inputs
    → inputs_at s inputs versions ≡ fin.values (rows_in (kept_at s (slice_index_or inputs 0 no_input).channel).versions (slice_index_or versions 0 0)) ∷ []
one_input s [] versions one same = absurd cc
one_input s (i ∷ j ∷ inputs) versions one same = absurd (omega (arith, one))
one_input s (i ∷ []) [] one same = absurd cc
one_input s (i ∷ []) (v ∷ []) one same = refl
one_input s (i ∷ []) (v ∷ w ∷ versions) one same = absurd (omega (arith, same))

-- a run of it captured one table
pub captured_one : (s : State) (t : ℕ) (run : Capture) → length (task_in s.flow t).inputs ≡ 1 → main_place (task_in s.flow t).inputs ≡ 0 → IsWhole s t run
    → captured_rows s t run ≡ fin.values (rows_in (kept_at s (main_channel s t)).versions (seen_at run (main_place (task_in s.flow t).inputs))) ∷ []
captured_one s t run one first whole =
    one_input s (task_in s.flow t).inputs run.versions one whole
    ∙ ap (λ n. fin.values (rows_in (kept_at s (slice_index_or (task_in s.flow t).inputs n no_input).channel).versions (slice_index_or run.versions n 0)) ∷ []) (sym first)

pub front_whole : (s : State) (t : ℕ) (before : List Capture) (run : Capture) → AllByRecursion (IsWhole s t) (before ++ run ∷ []) → AllByRecursion (IsWhole s t) before × IsWhole s t run
front_whole s t [] run all = (tt, all.0)
front_whole s t (b ∷ before) run all = let rest = front_whole s t before run all.1 in ((all.0, rest.0), rest.1)

pub one_schema : (s : State) (inputs : List Input) (k : ℕ) → length inputs ≡ 1 → k < length inputs → map (λ (i : Input). schema_in s.flow i.channel) inputs ≡ schema_in s.flow (slice_index_or inputs k no_input).channel ∷ []
one_schema s [] k one lt = absurd cc
one_schema s (i ∷ []) zero one lt = refl
one_schema s (i ∷ []) (suc k) one lt = absurd (omega (arith, lt))
one_schema s (i ∷ j ∷ inputs) k one lt = absurd (omega (arith, one))
