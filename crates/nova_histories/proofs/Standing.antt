-- Where inputs and outputs stand.
use Rattle.std.proofs.Common.{◌≡◌, inl, inr, ℕ, suc, ◌<◌, List, [], ◌∷◌, ◌++◌, length, take, ap, sym, ◌∙◌, subst, arith}
use Rattle.std.specs.Prelude.{slice_index_or}
use Rattle.std.specs.List.{AllByRecursion}
use Rattle.nova_delta.specs.Merge.{RowMap, TableValue}
use Rattle.nova_pig_algebra.specs.Plan.{Plan}
use Rattle.nova_machine.specs.Workflow.{main_place, output_in, plan_in, schema_in, task_in}
use Rattle.nova_machine.specs.Versions.{Version, rows_in}
use Rattle.nova_machine.specs.State.{Capture, done_at, kept_at, newest_table}
use Rattle.nova_machine.specs.Due.{cursor, last_of, no_capture, seen_at}
use Rattle.nova_machine.specs.Results.{result_of}
use Rattle.nova_machine.proofs.Blocks.{merge_block}
use Rattle.nova_machine.proofs.Kept.{last_push}
use Rattle.nova_machine.proofs.Runs.{runs_are_versions_law}
use Rattle.nova_rowwise.specs.Runs.{main_channel}
use Rattle.nova_state.specs.Advance.{stored}
use Rattle.nova_histories.specs.Statements.{BlocksLead, GroupsAreKept, IsLastResult, IsWhole, OutputsAreResults}
use Rattle.nova_histories.proofs.Captures.{captured, current_risen}
use Rattle.nova_histories.proofs.Follow.{main_keeps, seen_there}
use Rattle.nova_histories.proofs.GroupRuns.{is_group, nothing_is, one, place, result_is}
use Rattle.nova_histories.proofs.Leading.{Ends, ends_of, newest_last, newest_none}
use Rattle.nova_histories.proofs.OneInput.{front_whole, one_schema}
use Rattle.nova_histories.proofs.Planned.{owned}
use Rattle.nova_histories.proofs.RowRuns.{row_task}
use Rattle.nova_histories.proofs.Tables.{versions_are_tables}
use Rattle.nova_histories.proofs.Writes.{channels_keep}

pub outputs_are_results : OutputsAreResults
outputs_are_results s planned at t lt =
    let c = output_in s.flow t in
    let out = schema_in s.flow c in
    let made = runs_are_versions_law s (owned s.flow planned) at t lt in
    let of_rows : RowMap → TableValue = λ m. record { schema = out; rows = m } in
    record {
      none = λ e. ap of_rows (newest_none s t (ap length (sym e) ∙ made.0) (λ m low. absurd (omega (arith, low))));
      last = λ before run e. ap of_rows (by before run (done_at s t).runs e made.0 made.1);
      stands = λ before run e k. ap (λ rs. seen_at (last_of rs) k) e ∙ ap (λ (r : Capture). seen_at r k) (last_push before run);
    }
  where
    by : (before : List Capture) (run : Capture) (runs : List Capture) → runs ≡ before ++ run ∷ [] → length runs ≡ length (kept_at s (output_in s.flow t)).versions
        → ((m : ℕ) → m < length runs → rows_in (kept_at s (output_in s.flow t)).versions (suc m) ≡ (result_of s t (take m runs) (slice_index_or runs m no_capture)).rows)
        → rows_in (kept_at s (output_in s.flow t)).versions (length (kept_at s (output_in s.flow t)).versions) ≡ (result_of s t before run).rows
    by before run runs e = subst (λ rs. length rs ≡ length (kept_at s (output_in s.flow t)).versions
        → ((m : ℕ) → m < length rs → rows_in (kept_at s (output_in s.flow t)).versions (suc m) ≡ (result_of s t (take m rs) (slice_index_or rs m no_capture)).rows)
        → rows_in (kept_at s (output_in s.flow t)).versions (length (kept_at s (output_in s.flow t)).versions) ≡ (result_of s t before run).rows) (sym e) (newest_last s t before run)

pub blocks_lead : BlocksLead
blocks_lead s planned at t lt pattern run current =
    let k = main_place (task_in s.flow t).inputs in
    let c = main_channel s t in
    let keeps = channels_keep s planned at in
    let risen = current_risen s (owned s.flow planned) at t lt run current in
    let there = elim pattern as (λ _. k < length (task_in s.flow t).inputs) [
      | inl row ↦ (row_task s planned at keeps t lt row).place
      | inr group ↦ place s planned at keeps t lt group
    ] in
    ap (λ (m : RowMap). record { schema = schema_in s.flow c; rows = m })
    (merge_block (kept_at s c).versions (cursor s t k) (seen_at run k) (inr (main_keeps s planned keeps t there)) (risen.1 k) (seen_there s t run risen.0 risen.2 k))

pub groups_are_kept : GroupsAreKept
groups_are_kept s planned at t lt pattern =
    let keeps = channels_keep s planned at in
    let k = main_place (task_in s.flow t).inputs in
    let p = (plan_in s.flow t).plan in
    let last = outputs_are_results s planned at t lt in
    let wholes = (captured s (owned s.flow planned) at t).whole in
    record {
      plan = is_group s planned at keeps t lt pattern;
      inputs = λ n. record {
        table = versions_are_tables s planned at (main_channel s t) n;
        schema = (planned.tasks t lt).schemas.inputs ∙ one_schema s (task_in s.flow t).inputs k (one s planned at keeps t lt pattern) (place s planned at keeps t lt pattern);
      };
      output = by last wholes (ends_of (done_at s t).runs);
    }
  where
    p : Plan
    p = (plan_in s.flow t).plan

    vs : List Version
    vs = (kept_at s (main_channel s t)).versions

    by : IsLastResult s t → AllByRecursion (IsWhole s t) (done_at s t).runs → Ends (done_at s t).runs
        → newest_table s (output_in s.flow t) ≡ stored p (rows_in vs (cursor s t (main_place (task_in s.flow t).inputs)))
    by last wholes (inl e) =
        last.none e ∙ sym (nothing_is s planned at (channels_keep s planned at) t lt pattern)
        ∙ ap (λ (rs : List Capture). stored p (rows_in vs (seen_at (last_of rs) (main_place (task_in s.flow t).inputs)))) (sym e)
    by last wholes (inr x) =
        let whole = (front_whole s t x.0 x.1 (subst (AllByRecursion (IsWhole s t)) x.2 wholes)).1 in
        last.last x.0 x.1 x.2 ∙ sym (result_is s planned at (channels_keep s planned at) t lt pattern x.0 x.1 whole)
        ∙ ap (λ n. stored p (rows_in vs n)) (sym (last.stands x.0 x.1 x.2 (main_place (task_in s.flow t).inputs)))
