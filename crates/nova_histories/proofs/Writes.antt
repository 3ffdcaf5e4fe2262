-- Runs keep what they don't write, and their block is their delta.
use Rattle.std.proofs.Common.{◌≡◌, inl, inr, ℕ, ◌<◌, true, false, List, [], ◌∷◌, length, flat_map, Some, is_some, refl, ap, sym, ◌∙◌, subst, arith}
use Rattle.std.specs.FinMap as fin
use Rattle.nova_value.specs.declared.value.Value.{Value}
use Rattle.nova_value.specs.declared.schema.Entry.{Entry}
use Rattle.nova_value.specs.declared.schema.Entry.TheVariants.{Put, Removal}
use Rattle.nova_value.specs.Entries.{FitsEntry, entry_key}
use Rattle.nova_value.specs.Rows.{Shape, FitsKey}
use Rattle.nova_delta.specs.ActionLaws.{get-merged}
use Rattle.nova_delta.specs.Listed.{entries_of}
use Rattle.nova_delta.specs.Merge.{DeltaValue, EntryMap, IsDelta, RowMap, after as left_by, no_change}
use Rattle.nova_delta.specs.Seen.{with_entry}
use Rattle.nova_pig_algebra.specs.Meaning.{Row}
use Rattle.nova_pig_algebra.specs.Plan.{Plan, tree_of_plan}
use Rattle.nova_pig_pattern.specs.declared.task.PatternKind.{PatternKind}
use Rattle.nova_pig_pattern.specs.declared.task.PatternKind.TheVariants.{NonIncremental, Stateless, Lookup, Stateful}
use Rattle.nova_machine.specs.Workflow.{Workflow, is_based, main_place, output_in, plan_in, schema_in, task_in}
use Rattle.nova_machine.specs.Versions.{block, rows_in}
use Rattle.nova_machine.specs.State.{Capture, State, block_at, done_at, kept_at, newest}
use Rattle.nova_machine.specs.Due.{cursor, seen_at}
use Rattle.nova_machine.specs.Keeping.{KeepsAll, RunKeeps, RunsKeep}
use Rattle.nova_machine.specs.Reachable.{IsReachable}
use Rattle.nova_machine.proofs.Counted.{channels_are_kept}
use Rattle.nova_machine.proofs.Keeping.{reachable_keeps}
use Rattle.nova_machine.proofs.Keeping as machine
use Rattle.nova_machine.proofs.Making.{runs_make_blocks}
use Rattle.nova_machine.specs.Results.{captured_rows}
use Rattle.nova_machine.specs.Writing.{made_version}
use Rattle.nova_rowwise.specs.Derived.{answers, derived, made_of, plan_keys, set_all}
use Rattle.nova_rowwise.specs.Runs.{main_channel, run_delta, without}
use Rattle.nova_state.specs.Advance.{delta_of}
use Rattle.nova_histories.specs.Made.{IsCurrent, group_delta}
use Rattle.nova_histories.specs.Planned.{IsPlannedFlow}
use Rattle.nova_histories.specs.Statements.{ChannelsKeep, GroupRunsWriteTheirDelta, IsMadeBy, IsRunDelta, PlannedReadsAreBlocks, PlannedRunsKeep, RowRunsWriteTheirDelta, WritesDelta}
use Rattle.nova_histories.proofs.Fitting.{FitsIn, IsDeltaOf}
use Rattle.nova_histories.proofs.GroupRuns.{groups_made}
use Rattle.nova_histories.proofs.Leading.{made_keeps}
use Rattle.nova_histories.proofs.Planned.{anew, owned, wired}
use Rattle.nova_histories.proofs.RowRuns.{rows_made}
use Rattle.nova_histories.proofs.Tables.{made_fits}

-- ---- what keeps

run_keeps : (s : State) → IsPlannedFlow s.flow → IsReachable s → KeepsAll s → (t : ℕ) → t < length s.flow.tasks → (run : Capture) → IsCurrent s t run → is_based s.flow (output_in s.flow t) ≡ false
    → (kind : PatternKind) → (plan_in s.flow t).pattern ≡ kind → RunKeeps s t run
run_keeps s planned at keeps t lt run current changes NonIncremental e = absurd (let clash : true ≡ false = sym (anew s.flow planned t lt e) ∙ changes in cc)
run_keeps s planned at keeps t lt run current changes Stateless e = made_keeps s t run (run_delta s t (done_at s t).runs run).entries (rows_made s planned at keeps t lt (inl e) run current)
run_keeps s planned at keeps t lt run current changes Lookup e = made_keeps s t run (run_delta s t (done_at s t).runs run).entries (rows_made s planned at keeps t lt (inr e) run current)
run_keeps s planned at keeps t lt run current changes Stateful e = made_keeps s t run (group_delta s t (done_at s t).runs run).entries (groups_made s planned at keeps t lt e run current)

runs_keep : (w : Workflow) → IsPlannedFlow w → RunsKeep w
runs_keep w planned s at keeps same t lt run current changes =
    run_keeps s (subst IsPlannedFlow (sym same) planned) at keeps t (subst (λ (v : Workflow). t < length v.tasks) (sym same) lt) run current
    (ap (λ (v : Workflow). is_based v (output_in v t)) same ∙ changes) (plan_in s.flow t).pattern refl

pub planned_runs_keep : PlannedRunsKeep
planned_runs_keep w planned = (wired w planned, runs_keep w planned)

pub channels_keep : ChannelsKeep
channels_keep s planned at = reachable_keeps s (runs_keep s.flow planned) at

pub reads_are_blocks : PlannedReadsAreBlocks
reads_are_blocks s planned at c i j path is short =
    let r = machine.reads_are_blocks s (wired s.flow planned) (runs_keep s.flow planned) at c i j path is short in
    (r.0, ap (λ (m : RowMap). record { schema = schema_in s.flow c; rows = m }) r.1)

-- ---- blocks

writes_delta : (s : State) → IsPlannedFlow s.flow → IsReachable s → (t : ℕ) → t < length s.flow.tasks → (run : Capture) (d : DeltaValue) → d.schema ≡ schema_in s.flow (output_in s.flow t) → IsMadeBy s t run d.entries → WritesDelta s t run d
writes_delta s planned at t lt run d schema made =
    let c = output_in s.flow t in
    let n = newest s c in
    let kept = channels_are_kept s at in
    let low = (owned s.flow planned t lt).0 in
    let es = runs_make_blocks s t run d.entries (omega (arith, kept, low)) made.rows made.keys made.removes in
    λ z. record { schema = sym schema z; entries = es z }

-- the schemas of the rules' deltas
set_schema : (d : DeltaValue) (es : List Entry) → (set_all d es).schema ≡ d.schema
set_schema d [] = refl
set_schema d (e ∷ es) = set_schema (with_entry d e) es

derived_schema : (p : Plan) (lookups : List (List Row)) (d : DeltaValue) → (derived p lookups d).schema ≡ p.output
derived_schema p lookups d = set_schema (no_change p.output) (flat_map (answers d.schema p.output (plan_keys p) (λ r. made_of (tree_of_plan p) lookups (r ∷ []))) (entries_of d))

group_schema : (p : Plan) (m : RowMap) (d : EntryMap) → (delta_of p m d).schema ≡ p.output
unfolding delta_of
group_schema p m d = refl

-- a delta by which a run is made is one of the output's schema
delta_made : (schema : Shape) (s : State) (t : ℕ) (run : Capture) (d : EntryMap) → FitsIn schema (made_version s t run) → IsMadeBy s t run d → IsDeltaOf schema d
delta_made schema s t run d fits made = record { each = each }
  where
    old : RowMap
    old = rows_in (kept_at s (output_in s.flow t)).versions (newest s (output_in s.flow t))

    each : (q : List Value) (e : Entry) → fin.get d q ≡ Some e → FitsEntry schema e × (entry_key schema e ≡ q)
    each q (Put row) got = fits.table.each q row (ap (λ (m : RowMap). fin.get m q) made.rows ∙ get-merged old d q ∙ ap (λ o. left_by o (fin.get old q)) got)
    each q (Removal k) got =
        let is = made.removes q k got in
        (subst (FitsKey schema) (sym is) (fits.keys q (made.keys q ∙ ap is_some got)), is)

module _ (s : State) (planned : IsPlannedFlow s.flow) (at : IsReachable s) (t : ℕ) (lt : t < length s.flow.tasks) where
  run_delta_is : (run : Capture) → IsCurrent s t run → (d : DeltaValue) → d.schema ≡ schema_in s.flow (output_in s.flow t) → IsMadeBy s t run d.entries → IsRunDelta s t run d
  run_delta_is run current d schema made =
      let out = schema_in s.flow (output_in s.flow t) in
      let delta = delta_made out s t run d.entries (made_fits s planned at t lt run current) made in
      record {
        delta = subst (λ (z : Shape). IsDelta (record { schema = z; entries = d.entries })) (sym schema) delta;
        schema = schema;
        made = made;
        writes = writes_delta s planned at t lt run d schema made;
      }

pub row_runs : RowRunsWriteTheirDelta
row_runs s planned at t lt pattern run current =
    let k = main_place (task_in s.flow t).inputs in
    run_delta_is s planned at t lt run current (run_delta s t (done_at s t).runs run)
    (derived_schema (plan_in s.flow t).plan (without k (captured_rows s t run)) (block_at s (main_channel s t) (cursor s t k) (seen_at run k)) ∙ (planned.tasks t lt).schemas.output)
    (rows_made s planned at (channels_keep s planned at) t lt pattern run current)

pub group_runs : GroupRunsWriteTheirDelta
group_runs s planned at t lt pattern run current =
    let k = main_place (task_in s.flow t).inputs in
    let main = (kept_at s (main_channel s t)).versions in
    run_delta_is s planned at t lt run current (group_delta s t (done_at s t).runs run)
    (group_schema (plan_in s.flow t).plan (rows_in main (cursor s t k)) (block main (cursor s t k) (seen_at run k)) ∙ (planned.tasks t lt).schemas.output)
    (groups_made s planned at (channels_keep s planned at) t lt pattern run current)
