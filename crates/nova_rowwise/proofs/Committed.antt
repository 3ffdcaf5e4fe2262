-- The block that a run of a stateless or of a lookup task makes is its delta.
use Rattle.std.specs.Prelude.{◌≡◌, ◌⊎◌, ℕ, suc, ◌+◌, ◌<◌, List, [], ◌∷◌, ◌++◌, length, slice_index_or, Option, Some, None, refl}
use Rattle.std.proofs.Common.{ap, sym, ◌∙◌, inl, inr, subst, arith, length-append, take}
use Rattle.std.specs.FinMap.{get}
use Rattle.nova_value.specs.declared.schema.Entry.{Entry}
use Rattle.nova_value.specs.declared.schema.Entry.TheVariants.{Put, Removal}
use Rattle.nova_value.specs.Rows.{Shape}
use Rattle.nova_delta.specs.Merge.{TableValue, DeltaValue, IsDelta, RowMap, merged}
use Rattle.nova_pig_algebra.specs.Meaning.{Row}
use Rattle.nova_machine.specs.Workflow.{plan_in, output_in}
use Rattle.nova_machine.specs.Versions.{rows_in}
use Rattle.nova_machine.specs.State.{State, Capture, kept_at, done_at, newest}
use Rattle.nova_machine.specs.Due.{no_capture}
use Rattle.nova_machine.specs.Results.{result_of}
use Rattle.nova_machine.proofs.Counted.{channels_are_kept}
use Rattle.nova_machine.proofs.Making.{runs_make_blocks}
use Rattle.nova_machine.proofs.Running.{runs_write}
use Rattle.nova_machine.proofs.Runs.{runs_are_versions_law}
use Rattle.nova_rowwise.specs.Derived.{answer, put_or_removal, found}
use Rattle.nova_rowwise.specs.Runs.{IsNextRun, run_delta, RunsMergeFor, RunsCommitTheirDelta}
use Rattle.nova_rowwise.specs.Sources.{Key}
use Rattle.nova_rowwise.specs.Statements.{main_shape, of_entries}
use Rattle.nova_rowwise.proofs.EachKey.{at_each_key}
use Rattle.nova_rowwise.proofs.WrittenKeys.{deltas_are_written, schema_is, shape, delta_is, d, lookups}

-- no run, or a last one
abbrev Ends : List Capture → Type 0
Ends runs = (runs ≡ []) ⊎ ((before : List Capture) × (last : Capture) × (runs ≡ before ++ last ∷ []))

ends_of : (runs : List Capture) → Ends runs
ends_of [] = inl refl
ends_of (r ∷ runs) = go (ends_of runs)
  where
    go : Ends runs → Ends (r ∷ runs)
    go (inl e) = inr ([], r, ap (λ rs. r ∷ rs) e)
    go (inr x) = inr (r ∷ x.0, x.1, ap (λ rs. r ∷ rs) x.2)

take_front : (before : List Capture) (last : Capture) → take (length before) (before ++ last ∷ []) ≡ before
take_front [] last = refl
take_front (r ∷ before) last = ap (λ rs. r ∷ rs) (take_front before last)

last_there : (before : List Capture) (last : Capture) → slice_index_or (before ++ last ∷ []) (length before) no_capture ≡ last
last_there [] last = refl
last_there (r ∷ before) last = last_there before last

-- an answer that is a removal is of its key
removes : (o : Shape) (of : Row → List Row) (e : Entry) (q k : Key) → Removal k ≡ answer o of e q → k ≡ q
removes o of (Removal j) q k is = let same : k ≡ q = cc in same
removes o of (Put row) q k is = go (found o.key q (of row)) is
  where
    go : (f : Option Row) → Removal k ≡ put_or_removal q f → k ≡ q
    go None e = let same : k ≡ q = cc in same
    go (Some x) e = absurd cc

module _ (s : State) (t : ℕ) (merge : RunsMergeFor s t) (run : Capture) where
  abbrev c : ℕ
  c = output_in s.flow t

  abbrev Leads : List Capture → Type 0
  Leads runs = IsNextRun s t runs run → length runs ≡ newest s c
      → ((m : ℕ) → m < length runs → rows_in (kept_at s c).versions (suc m) ≡ (result_of s t (take m runs) (slice_index_or runs m no_capture)).rows)
      → (result_of s t runs run).rows ≡ merged (rows_in (kept_at s c).versions (newest s c)) (run_delta s t runs run).entries

  leads : (runs : List Capture) → Ends runs → Leads runs
  leads runs (inl e) = subst Leads (sym e) (λ next count made.
      ap (λ (x : TableValue). x.rows) (sym (merge.first run next)) ∙ ap (λ n. merged (rows_in (kept_at s c).versions n) (run_delta s t [] run).entries) count)
  leads runs (inr x) = subst Leads (sym x.2) (λ next count made.
      let before = x.0 in
      let last = x.1 in
      let m = length before in
      let long : length (before ++ last ∷ []) ≡ m + 1 = length-append before (last ∷ []) in
      let top : newest s c ≡ suc m = omega (arith, long, count) in
      let here : rows_in (kept_at s c).versions (suc m) ≡ (result_of s t before last).rows =
      made m (omega (arith, long)) ∙ (λ z. (result_of s t (take_front before last z) (last_there before last z)).rows) in
      ap (λ (x : TableValue). x.rows) (sym (merge.next before last run next))
      ∙ ap (λ (rows : RowMap). merged rows (run_delta s t (before ++ last ∷ []) run).entries) (sym here)
      ∙ ap (λ n. merged (rows_in (kept_at s c).versions n) (run_delta s t (before ++ last ∷ []) run).entries) (sym top))

pub runs_commit : RunsCommitTheirDelta
runs_commit s t at owned lt pattern is merge run next =
    let runs = (done_at s t).runs in
    let c = output_in s.flow t in
    let made = (runs_are_versions_law s owned at t lt) in
    let kept = channels_are_kept s at in
    let low = (owned t lt).0 in
    let entries = (run_delta s t runs run).entries in
    let delta : IsDelta (of_entries (main_shape (plan_in s.flow t).plan) (d s t is run)) = subst (λ (z : Shape). IsDelta (record { schema = z; entries = d s t is run })) (schema_is s t is run) next.block in
    runs_make_blocks s t run entries (omega (arith, kept, low))
    ((runs_write s t run []).0 ∙ leads s t merge run runs (ends_of runs) next made.0 made.1)
    (λ q. deltas_are_written s t pattern is run next.block q)
    (λ q k has_it.
    let a = (at_each_key (plan_in s.flow t).plan is.row (shape s t is run) (lookups s t is run) (d s t is run) delta q (Removal k)).0
    (ap (λ (x : DeltaValue). get x.entries q) (sym (delta_is s t is run)) ∙ has_it) in
    removes (plan_in s.flow t).plan.output _ a.entry q k a.is)
