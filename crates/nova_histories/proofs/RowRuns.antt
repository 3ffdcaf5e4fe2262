-- Runs of stateless and of lookup tasks make their delta.
use Rattle.std.proofs.Common.{◌≡◌, inl, inr, ℕ, ◌<◌, List, length, Option, Some, None, ap, sym, ◌∙◌, subst}
use Rattle.std.specs.FinMap.{get}
use Rattle.nova_value.specs.declared.schema.Entry.{Entry}
use Rattle.nova_value.specs.declared.schema.Entry.TheVariants.{Put, Removal}
use Rattle.nova_value.specs.Rows.{Shape}
use Rattle.nova_delta.specs.Merge.{DeltaValue, IsDelta}
use Rattle.nova_pig_algebra.specs.Meaning.{Row}
use Rattle.nova_machine.specs.Workflow.{plan_in}
use Rattle.nova_machine.specs.State.{Capture, State, done_at}
use Rattle.nova_machine.specs.Keeping.{KeepsAll}
use Rattle.nova_machine.specs.Reachable.{IsReachable}
use Rattle.nova_rowwise.specs.Derived.{answer, found, put_or_removal}
use Rattle.nova_rowwise.specs.Runs.{IsNextRun, IsRowTask, RunsMergeFor, run_delta}
use Rattle.nova_rowwise.specs.Sources.{Key}
use Rattle.nova_rowwise.specs.Statements.{main_shape, of_entries}
use Rattle.nova_rowwise.proofs.EachKey.{at_each_key}
use Rattle.nova_rowwise.proofs.LookupRuns.{lookup_merges}
use Rattle.nova_rowwise.proofs.StatelessRuns.{stateless_runs_merge}
use Rattle.nova_rowwise.proofs.WrittenKeys.{d, delta_is, deltas_are_written, lookups, schema_is, shape}
use Rattle.nova_histories.specs.Made.{IsCurrent}
use Rattle.nova_histories.specs.Planned.{IsPlannedFlow}
use Rattle.nova_histories.specs.Statements.{IsMadeBy, IsRowPattern}
use Rattle.nova_histories.proofs.Follow.{main_keeps, runs_follow}
use Rattle.nova_histories.proofs.Leading.{made_rows}
use Rattle.nova_histories.proofs.Planned.{lookup_task, stateless_task}
use Rattle.nova_histories.proofs.Tables.{versions_are_tables}

-- an answer that is a removal is of its key
removes : (o : Shape) (of : Row → List Row) (e : Entry) (q k : Key) → Removal k ≡ answer o of e q → k ≡ q
removes o of (Removal j) q k is = let same : k ≡ q = cc in same
removes o of (Put row) q k is = go (found o.key q (of row)) is
  where
    go : (f : Option Row) → Removal k ≡ put_or_removal q f → k ≡ q
    go None e = let same : k ≡ q = cc in same
    go (Some x) e = absurd cc

module _ (s : State) (planned : IsPlannedFlow s.flow) (at : IsReachable s) (keeps : KeepsAll s) (t : ℕ) (lt : t < length s.flow.tasks) where
  pub row_task : IsRowPattern (plan_in s.flow t).pattern → IsRowTask s.flow t
  row_task (inl e) = (stateless_task s.flow planned t lt e).0
  row_task (inr e) = lookup_task s.flow planned t lt e

  pub rows_merge : IsRowPattern (plan_in s.flow t).pattern → RunsMergeFor s t
  rows_merge (inl e) =
      let is = stateless_task s.flow planned t lt e in
      stateless_runs_merge s t e is.0 is.1 is.2 (versions_are_tables s planned at) (main_keeps s planned keeps t is.0.place)
  rows_merge (inr e) =
      let is = lookup_task s.flow planned t lt e in
      lookup_merges s t e is (versions_are_tables s planned at) (main_keeps s planned keeps t is.place)

  pub rows_made : IsRowPattern (plan_in s.flow t).pattern → (run : Capture) → IsCurrent s t run → IsMadeBy s t run (run_delta s t (done_at s t).runs run).entries
  rows_made pattern run current =
      let next = runs_follow s planned at t lt run current in
      let merge = rows_merge pattern in
      let is = row_task pattern in
      let delta : IsDelta (of_entries (main_shape (plan_in s.flow t).plan) (d s t is run)) = subst (λ (z : Shape). IsDelta (record { schema = z; entries = d s t is run })) (schema_is s t is run) next.block in
      record {
        rows = made_rows s t (λ before. run_delta s t before run) run
            (λ e. merge.first run (subst (λ rs. IsNextRun s t rs run) e next))
            (λ before last e. merge.next before last run (subst (λ rs. IsNextRun s t rs run) e next))
            planned at lt;
        keys = λ q. deltas_are_written s t pattern is run next.block q;
        removes = λ q k has_it.
            let a = (at_each_key (plan_in s.flow t).plan is.row (shape s t is run) (lookups s t is run) (d s t is run) delta q (Removal k)).0
            (ap (λ (x : DeltaValue). get x.entries q) (sym (delta_is s t is run)) ∙ has_it) in
            removes (plan_in s.flow t).plan.output _ a.entry q k a.is;
      }
