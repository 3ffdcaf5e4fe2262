-- A delta that leads from the result of each run to that of the next leads from a task's newest version to what a run makes of it.
use Rattle.std.proofs.Common.{◌≡◌, ◌⊎◌, inl, inr, ℕ, suc, ◌+◌, ◌<◌, List, [], ◌∷◌, ◌++◌, length, take, Option, Some, None, is_some, refl, ap, sym, ◌∙◌, subst, arith, length-append}
use Rattle.std.specs.Prelude.{slice_index_or, false}
use Rattle.std.specs.FinMap as fin
use Rattle.nova_value.specs.declared.schema.Entry.{Entry}
use Rattle.nova_delta.specs.Merge.{DeltaValue, EntryMap, RowMap, TableValue, after as left_by, merge_of, merged}
use Rattle.nova_delta.specs.ActionLaws.{get-merged}
use Rattle.nova_machine.specs.Workflow.{output_in, schema_in}
use Rattle.nova_machine.specs.Versions.{rows_in}
use Rattle.nova_machine.specs.State.{Capture, State, done_at, kept_at, newest}
use Rattle.nova_machine.specs.Due.{no_capture}
use Rattle.nova_machine.specs.Results.{result_of}
use Rattle.nova_machine.specs.Writing.{made_version}
use Rattle.nova_machine.specs.Keeping.{RunKeeps}
use Rattle.nova_machine.specs.Reachable.{IsReachable}
use Rattle.nova_machine.proofs.Running.{runs_write}
use Rattle.nova_machine.proofs.Runs.{runs_are_versions_law}
use Rattle.nova_histories.specs.Planned.{IsPlannedFlow}
use Rattle.nova_histories.specs.Statements.{IsMadeBy, no_table}
use Rattle.nova_histories.proofs.Planned.{owned}

-- no run, or a last one
abbrev pub Ends : List Capture → Type 0
Ends runs = (runs ≡ []) ⊎ ((before : List Capture) × (last : Capture) × (runs ≡ before ++ last ∷ []))

pub ends_of : (runs : List Capture) → Ends runs
ends_of [] = inl refl
ends_of (r ∷ runs) = go (ends_of runs)
  where
    go : Ends runs → Ends (r ∷ runs)
    go (inl e) = inr ([], r, ap (λ rs. r ∷ rs) e)
    go (inr x) = inr (r ∷ x.0, x.1, ap (λ rs. r ∷ rs) x.2)

take_front : (before : List Capture) (last : Capture) → take (length before) (before ++ last ∷ []) ≡ before
take_front [] last = refl
take_front (r ∷ before) last = ap (λ rs. r ∷ rs) (take_front before last)

last_there : (before : List Capture) (last : Capture) → slice_index_or (before ++ last ∷ []) (length before) no_capture ≡ last
last_there [] last = refl
last_there (r ∷ before) last = last_there before last

module _ (s : State) (t : ℕ) where
  abbrev c : ℕ
  c = output_in s.flow t

  -- the newest version of the output is the result of the last run
  abbrev pub Newest : List Capture → TableValue → Type 0
  Newest runs table = length runs ≡ newest s c
      → ((m : ℕ) → m < length runs → rows_in (kept_at s c).versions (suc m) ≡ (result_of s t (take m runs) (slice_index_or runs m no_capture)).rows)
      → rows_in (kept_at s c).versions (newest s c) ≡ table.rows

  pub newest_none : Newest [] (no_table (schema_in s.flow c))
  newest_none count made = ap (rows_in (kept_at s c).versions) (sym count)

  pub newest_last : (before : List Capture) (last : Capture) → Newest (before ++ last ∷ []) (result_of s t before last)
  newest_last before last count made =
      let m = length before in
      let long : length (before ++ last ∷ []) ≡ m + 1 = length-append before (last ∷ []) in
      let top : newest s c ≡ suc m = omega (arith, long, count) in
      ap (rows_in (kept_at s c).versions) top ∙ made m (omega (arith, long)) ∙ (λ z. (result_of s t (take_front before last z) (last_there before last z)).rows)

  -- from the newest version, for any delta that leads from result to result
  module _ (delta : List Capture → DeltaValue) (run : Capture)
      (first : (done_at s t).runs ≡ [] → merge_of (no_table (schema_in s.flow c)) (delta []) ≡ result_of s t [] run)
      (next : (before : List Capture) (last : Capture) → (done_at s t).runs ≡ before ++ last ∷ [] → merge_of (result_of s t before last) (delta (before ++ last ∷ [])) ≡ result_of s t (before ++ last ∷ []) run) where
    abbrev Leads : List Capture → Type 0
    Leads runs = (result_of s t runs run).rows ≡ merged (rows_in (kept_at s c).versions (newest s c)) (delta runs).entries

    leads : (runs : List Capture) → (done_at s t).runs ≡ runs → Ends runs → length runs ≡ newest s c
        → ((m : ℕ) → m < length runs → rows_in (kept_at s c).versions (suc m) ≡ (result_of s t (take m runs) (slice_index_or runs m no_capture)).rows) → Leads runs
    leads runs is (inl e) count made =
        let there = subst (λ rs. Newest rs (no_table (schema_in s.flow c))) (sym e) newest_none in
        subst Leads (sym e) (ap (λ (x : TableValue). x.rows) (sym (first (is ∙ e))) ∙ ap (λ (m : RowMap). merged m (delta []).entries) (sym (there count made)))
    leads runs is (inr x) count made =
        let before = x.0 in
        let last = x.1 in
        let there = subst (λ rs. Newest rs (result_of s t before last)) (sym x.2) (newest_last before last) in
        subst Leads (sym x.2) (ap (λ (y : TableValue). y.rows) (sym (next before last (is ∙ x.2))) ∙ ap (λ (m : RowMap). merged m (delta (before ++ last ∷ [])).entries) (sym (there count made)))

    pub made_rows : IsPlannedFlow s.flow → IsReachable s → t < length s.flow.tasks → (made_version s t run).rows ≡ merged (rows_in (kept_at s c).versions (newest s c)) (delta (done_at s t).runs).entries
    made_rows planned at lt =
        let made = runs_are_versions_law s (owned s.flow planned) at t lt in
        let runs = (done_at s t).runs in
        (runs_write s t run []).0 ∙ leads runs refl (ends_of runs) made.0 made.1

-- a run that makes its delta keeps what it doesn't write
unsaid : (o : Option Entry) → is_some o ≡ false → o ≡ None
unsaid None e = refl
unsaid (Some x) e = cc

pub made_keeps : (s : State) (t : ℕ) (run : Capture) (d : EntryMap) → IsMadeBy s t run d → RunKeeps s t run
made_keeps s t run d is q e =
    let old = rows_in (kept_at s (output_in s.flow t)).versions (newest s (output_in s.flow t)) in
    ap (λ (m : RowMap). fin.get m q) is.rows ∙ get-merged old d q ∙ ap (λ o. left_by o (fin.get old q)) (unsaid (fin.get d q) (sym (is.keys q) ∙ e))
