-- A stateless task's runs.
use Rattle.std.specs.Prelude.{◌≡◌, ℕ, List, [], ◌∷◌, ◌++◌, map, length, slice_index_or, refl}
use Rattle.std.proofs.Common.{ap, sym, ◌∙◌, inl, inr, subst, arith}
use Rattle.std.proofs.lemmas.List.{nil_from_length}
use Rattle.std.specs.FinMap as fin
use Rattle.std.specs.FinMap.{get-empty}
use Rattle.nova_value.specs.Order.{key_cmp}
use Rattle.nova_value.specs.Rows.{Shape, IsShape}
use Rattle.nova_delta.specs.Merge.{RowMap, TableValue, IsTable, IsDelta, merged, merge_of}
use Rattle.nova_delta.specs.ActionLaws.{same_rows}
use Rattle.nova_delta.specs.Seen.{table_of}
use Rattle.nova_pig_algebra.specs.Meaning.{Row}
use Rattle.nova_pig_algebra.specs.Keys.{shape_at}
use Rattle.nova_pig_algebra.specs.Plan.{Plan, tree_of_plan, rows_of}
use Rattle.nova_pig_algebra.specs.Statements.{In}
use Rattle.nova_pig_pattern.specs.Shapes.{IsStateless}
use Rattle.nova_pig_pattern.specs.declared.task.PatternKind.{PatternKind}
use Rattle.nova_pig_pattern.specs.declared.task.PatternKind.TheVariants.{Stateless}
use Rattle.nova_workflow.specs.declared.flow.Input.{Input}
use Rattle.nova_machine.specs.Workflow.{no_input, task_in, plan_in, output_in, schema_in, main_place}
use Rattle.nova_machine.specs.Versions.{Version, Keeps, rows_in, block}
use Rattle.nova_machine.specs.State.{State, Capture, kept_at}
use Rattle.nova_machine.specs.Due.{last_of, seen_at}
use Rattle.nova_machine.specs.Results.{inputs_at, captured_rows, result_rows, result_of}
use Rattle.nova_machine.proofs.Blocks.{merge_block}
use Rattle.nova_machine.proofs.Kept.{last_push}
use Rattle.nova_rowwise.specs.Derived.{derived}
use Rattle.nova_rowwise.specs.Runs.{without, IsRowTask, HasTables, main_channel, IsNextRun, run_delta, StatelessRunsMerge}
use Rattle.nova_rowwise.specs.Sources.{Key}
use Rattle.nova_rowwise.specs.Statements.{of_rows, of_entries}
use Rattle.nova_rowwise.proofs.Found.{get-table_of}
use Rattle.nova_rowwise.proofs.LookupRuns.{front_of, last_up_to, shape_there}
use Rattle.nova_rowwise.proofs.Spread.{goes, stateless_rowwise}
use Rattle.nova_rowwise.proofs.StatelessLaw.{stateless_merges}

none_in : (xs : List Row) → ((x : Row) → In x xs → ⊥) → xs ≡ []
none_in [] h = refl
none_in (x ∷ xs) h = absurd (h x (inl refl))

-- the one input's rows
one_input : (s : State) (inputs : List Input) (versions : List ℕ) → length inputs ≡ 1 → length versions ≡ length inputs
    → inputs_at s inputs versions ≡ fin.values (rows_in (kept_at s (slice_index_or inputs 0 no_input).channel).versions (slice_index_or versions 0 0)) ∷ []
one_input s [] versions one same = absurd cc
one_input s (i ∷ j ∷ inputs) versions one same = absurd (omega (arith, one))
one_input s (i ∷ []) [] one same = absurd cc
one_input s (i ∷ []) (v ∷ []) one same = refl
one_input s (i ∷ []) (v ∷ w ∷ versions) one same = absurd (omega (arith, same))

one_shape : (f : Input → Shape) (inputs : List Input) → length inputs ≡ 1 → map f inputs ≡ shape_at (map f inputs) 0 ∷ []
one_shape f [] one = absurd cc
one_shape f (i ∷ []) one = refl
one_shape f (i ∷ j ∷ inputs) one = absurd (omega (arith, one))

module _ (s : State) (t : ℕ) (pattern : (plan_in s.flow t).pattern ≡ Stateless) (is : IsRowTask s.flow t) (w : IsStateless 0 (tree_of_plan (plan_in s.flow t).plan))
    (one : length (task_in s.flow t).inputs ≡ 1) (tables : HasTables s) (keeps : Keeps (kept_at s (main_channel s t)).versions) where
  abbrev p : Plan
  p = (plan_in s.flow t).plan

  abbrev k : ℕ
  k = main_place (task_in s.flow t).inputs

  abbrev vs : List Version
  vs = (kept_at s (main_channel s t)).versions

  abbrev sh : Shape
  sh = schema_in s.flow (main_channel s t)

  abbrev own : Shape
  own = shape_at p.inputs 0

  first : k ≡ 0
  first = let lt = is.place in omega (arith, lt, one)

  own_is : sh ≡ own
  own_is = sym (ap (shape_at p.inputs) (sym first) ∙ ap (λ ins. shape_at ins k) is.inputs ∙ shape_there s (task_in s.flow t).inputs k is.place)

  alone : p.inputs ≡ own ∷ []
  alone = is.inputs ∙ one_shape (λ (i : Input). schema_in s.flow i.channel) (task_in s.flow t).inputs one ∙ ap (λ ins. shape_at ins 0 ∷ []) (sym is.inputs)

  abbrev over : ℕ → TableValue
  over v = table_of p.output (rows_of p (fin.values (rows_in vs v) ∷ []))

  captured : (run : Capture) → length run.versions ≡ length (task_in s.flow t).inputs → captured_rows s t run ≡ fin.values (rows_in vs (seen_at run k)) ∷ []
  captured run whole =
      one_input s (task_in s.flow t).inputs run.versions one whole
      ∙ ap (λ n. fin.values (rows_in (kept_at s (slice_index_or (task_in s.flow t).inputs n no_input).channel).versions (slice_index_or run.versions n 0)) ∷ []) (sym first)

  result_is : (before : List Capture) (run : Capture) → length run.versions ≡ length (task_in s.flow t).inputs → over (seen_at run k) ≡ result_of s t before run
  result_is before run whole =
      ap (λ ts. table_of p.output (rows_of p ts)) (sym (captured run whole)) ∙ ap (λ o. table_of o (rows_of p (captured_rows s t run))) is.output
      ∙ ap (λ (kind : PatternKind). table_of (schema_in s.flow (output_in s.flow t)) (result_rows kind s t before run)) (sym pattern)

  merges : (before : List Capture) (run : Capture) → IsNextRun s t before run → merge_of (over (seen_at (last_of before) k)) (run_delta s t before run) ≡ result_of s t before run
  merges before run next =
      let i = seen_at (last_of before) k in
      let j = seen_at run k in
      let d = block vs i j in
      let whole = (front_of (λ (r : Capture). length r.versions ≡ length (task_in s.flow t).inputs) before run next.whole).1 in
      let up = last_up_to k before run next.rise in
      let rest : without k (captured_rows s t run) ≡ [] = ap (without k) (captured run whole) ∙ ap (λ n. without n (fin.values (rows_in vs j) ∷ [])) first in
      let table = subst (λ (z : Shape). IsTable (of_rows z (rows_in vs i))) own_is (tables (main_channel s t) i) in
      let delta = subst (λ (z : Shape). IsDelta (of_entries z d)) own_is next.block in
      let on : merged (rows_in vs i) d ≡ rows_in vs j = merge_block vs i j (inr keeps) up next.there in
      ap (merge_of (over i)) ((λ z. derived p (rest z) (of_entries (own_is z) d)))
      ∙ stateless_merges p is.plan is.row.key w (subst IsShape own_is is.shape) alone (rows_in vs i) d table delta
      ∙ ap (λ (m : RowMap). table_of p.output (rows_of p (fin.values m ∷ []))) on
      ∙ result_is before run whole

  no_rows : over 0 ≡ record { schema = schema_in s.flow (output_in s.flow t); rows = fin.empty }
  no_rows =
      let none : fin.values (fin.empty {X = Row} {R = key_cmp}) ≡ [] = ap (map (λ (e : Key × Row). e.1)) (nil_from_length (fin.entries (fin.empty {X = Row} {R = key_cmp})) (sym (fin.len-entries (fin.empty {X = Row} {R = key_cmp})) ∙ fin.len-empty key_cmp Row)) in
      let nothing : rows_of p ([] ∷ []) ≡ [] = none_in (rows_of p ([] ∷ [])) (λ x i. (goes 0 [] (tree_of_plan p) (stateless_rowwise 0 (tree_of_plan p) w) [] x i).1) in
      ap (λ rs. table_of p.output (rows_of p (rs ∷ []))) none ∙ ap (table_of p.output) nothing ∙ ap (λ o. table_of o []) is.output
      ∙ ap (λ (m : RowMap). record { schema = schema_in s.flow (output_in s.flow t); rows = m }) (same_rows _ _ (λ q. get-table_of (schema_in s.flow (output_in s.flow t)) [] q ∙ sym (get-empty key_cmp q)))

  result_before : (before : List Capture) (last run : Capture) → IsNextRun s t (before ++ last ∷ []) run → over (seen_at (last_of (before ++ last ∷ [])) k) ≡ result_of s t before last
  result_before before last run next =
      let wholes = (front_of (λ (r : Capture). length r.versions ≡ length (task_in s.flow t).inputs) (before ++ last ∷ []) run next.whole).0 in
      ap (λ (r : Capture). over (seen_at r k)) (last_push before last) ∙ result_is before last (front_of (λ (r : Capture). length r.versions ≡ length (task_in s.flow t).inputs) before last wholes).1

pub stateless_runs_merge : StatelessRunsMerge
stateless_runs_merge s t pattern is w one tables keeps = record {
  first = λ run next. ap (λ (m : TableValue). merge_of m (run_delta s t [] run)) (sym (no_rows s t pattern is w one tables keeps)) ∙ merges s t pattern is w one tables keeps [] run next;
  next = λ before last run next.
      ap (λ (m : TableValue). merge_of m (run_delta s t (before ++ last ∷ []) run)) (sym (result_before s t pattern is w one tables keeps before last run next)) ∙ merges s t pattern is w one tables keeps (before ++ last ∷ []) run next;
}
