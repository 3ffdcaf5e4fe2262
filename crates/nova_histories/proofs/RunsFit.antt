-- What a run makes fits the schema of its output: its rows, and the keys that it writes.
use Rattle.std.proofs.Common.{◌≡◌, inl, inr, ℕ, zero, suc, ◌<◌, Bool, true, false, List, [], ◌∷◌, ◌++◌, flat_map, length, map, Option, Some, None, refl, ap, sym, ◌∙◌, subst, arith, if◌then◌else◌}
use Rattle.std.specs.Prelude.{nat_le, slice_index_or, slice_set}
use Rattle.std.specs.List.{AllByRecursion}
use Rattle.std.specs.FinMap as fin
use Rattle.std.specs.FinMap.{entries_sorted, get-entries}
use Rattle.nova_value.specs.declared.value.Value.{Value}
use Rattle.nova_value.specs.Rows.{Shape, IsShape, FitsRow, FitsKey, key_at, kinds}
use Rattle.nova_value.proofs.Fit.{key_fits}
use Rattle.nova_delta.specs.Merge.{IsTable, RowMap}
use Rattle.nova_delta.specs.Listed as delta
use Rattle.nova_delta.specs.Seen.{table_of}
use Rattle.nova_delta.proofs.Listed.{rows_fit}
use Rattle.nova_pig_algebra.specs.Keys.{shape_at}
use Rattle.nova_pig_algebra.specs.Meaning.{Row}
use Rattle.nova_pig_algebra.specs.Plan.{Plan, rows_of, tree_of_plan}
use Rattle.nova_pig_algebra.specs.Statements.{AllFit, In, TablesFit}
use Rattle.nova_pig_algebra.specs.Tree.{rows}
use Rattle.nova_pig_algebra.proofs.KindsOfRows.{nodes_fit}
use Rattle.nova_pig_algebra.proofs.Lists.{in_either, in_flattened, in_mapped}
use Rattle.nova_pig_pattern.specs.OutputKeys.{all_groups, output_keys}
use Rattle.nova_pig_pattern.specs.declared.task.PatternKind.{PatternKind}
use Rattle.nova_pig_pattern.specs.declared.task.PatternKind.TheVariants.{NonIncremental, Stateless, Lookup, Stateful}
use Rattle.nova_workflow.specs.declared.flow.Input.{Input}
use Rattle.nova_machine.specs.Workflow.{main_place, no_input, output_in, plan_in, schema_in, task_in}
use Rattle.nova_machine.specs.Versions.{Version, has, rows_in, written}
use Rattle.nova_machine.specs.State.{Capture, State, done_at, kept_at, table_at}
use Rattle.nova_machine.specs.Due.{cursor, seen_at}
use Rattle.nova_machine.specs.Results.{captured_rows, inputs_at, last_write, looked_up, result_rows, rows_by, taken_up}
use Rattle.nova_machine.specs.Writing.{groups_at, made_version, row_list, written_keys}
use Rattle.nova_rowwise.specs.Runs.{HasTables, IsRowTask, main_channel}
use Rattle.nova_rowwise.specs.Statements.{main_shape}
use Rattle.nova_rowwise.proofs.Found.{find_in, found_is, get-table_of}
use Rattle.nova_rowwise.proofs.KeysFit.{keys_fit}
use Rattle.nova_rowwise.proofs.LookupRuns.{shape_there}
use Rattle.nova_rowwise.proofs.RowsFit.{all_fit}
use Rattle.nova_rowwise.proofs.SameKeys.{same_keys}
use Rattle.nova_state.proofs.GroupsFit.{all_groups_fit}
use Rattle.nova_histories.specs.Planned.{IsPlannedFlow}
use Rattle.nova_histories.specs.Statements.{IsWhole}
use Rattle.nova_histories.proofs.Fitting.{FitsIn, any_in, in_any, at_version, some_at, written_fits}
use Rattle.nova_histories.proofs.Planned.{group_task, lookup_task, owned, shaped, stateless_task}

set_fits : (k : ℕ) (ss : List Shape) (ts : List (List Row)) (m : List Row) → TablesFit ss ts → AllFit (shape_at ss k) m → TablesFit ss (slice_set ts k m)
set_fits k [] [] m are fit = are
set_fits k [] (t ∷ ts) m are fit = absurd are
set_fits k (s ∷ ss) [] m are fit = absurd are
set_fits zero (s ∷ ss) (t ∷ ts) m are fit = (fit, are.1)
set_fits (suc k) (s ∷ ss) (t ∷ ts) m are fit = (are.0, set_fits k ss ts m are.1 fit)

one_fits : (s : Shape) (r : Row) → FitsRow s r → AllFit s (r ∷ [])
one_fits s r fit row (inl e) = subst (FitsRow s) (sym e) fit
one_fits s r fit row (inr past) = absurd past

taken_is : (P : Capture → Type 0) (k w : ℕ) (runs : List Capture) → AllByRecursion P runs → (q : Capture) → taken_up k w runs ≡ Some q → P q
taken_is P k w [] all q e = absurd cc
taken_is P k w (r ∷ runs) all q e = go (nat_le w (seen_at r k)) e (λ f. taken_is P k w runs all.1 q f)
  where
    go : (b : Bool) → (if b then Some r else taken_up k w runs) ≡ Some q → (taken_up k w runs ≡ Some q → P q) → P q
    go true f rest = let same : r ≡ q = cc in subst P same all.0
    go false f rest = rest f

inputs_fit : (s : State) → HasTables s → (inputs : List Input) (versions : List ℕ) → length versions ≡ length inputs → TablesFit (map (λ (i : Input). schema_in s.flow i.channel) inputs) (inputs_at s inputs versions)
inputs_fit s tables [] versions same = tt
inputs_fit s tables (i ∷ inputs) [] same = absurd (omega (arith, same))
inputs_fit s tables (i ∷ inputs) (v ∷ versions) same =
    let t = table_at s i.channel v in
    (all_fit t.schema (delta.rows_of t) (rows_fit t (tables i.channel v)), inputs_fit s tables inputs versions (omega (arith, same)))

module _ (s : State) (planned : IsPlannedFlow s.flow) (fits : (c : ℕ) → AllByRecursion (FitsIn (schema_in s.flow c)) (kept_at s c).versions) where
  pub tables : HasTables s
  tables c v = (at_version (schema_in s.flow c) (kept_at s c).versions (fits c) v).table

  module _ (t : ℕ) (lt : t < length s.flow.tasks) where
    abbrev p : Plan
    p = (plan_in s.flow t).plan

    abbrev k : ℕ
    k = main_place (task_in s.flow t).inputs

    abbrev vs : List Version
    vs = (kept_at s (main_channel s t)).versions

    abbrev out : Shape
    out = schema_in s.flow (output_in s.flow t)

    out_is : p.output ≡ out
    out_is = (planned.tasks t lt).schemas.output

    out_shape : IsShape out
    out_shape = shaped s.flow planned (output_in s.flow t) (owned s.flow planned t lt).0

    rows_over : (ts : List (List Row)) → TablesFit p.inputs ts → AllFit out (rows_of p ts)
    rows_over ts fit row i =
        let is = (planned.tasks t lt).plan in
        subst (λ (z : Shape). FitsRow z row) out_is (nodes_fit p is is.kinded.all is.kinded.nodes ts fit p.stored (kinds p.output.columns) is.kinded.stored row i)

    captured_fit : (r : Capture) → IsWhole s t r → TablesFit p.inputs (captured_rows s t r)
    captured_fit r whole = subst (λ ins. TablesFit ins (captured_rows s t r)) (sym (planned.tasks t lt).schemas.inputs) (inputs_fit s tables (task_in s.flow t).inputs r.versions whole)

    module _ (run : Capture) (wholes : AllByRecursion (IsWhole s t) ((done_at s t).runs ++ run ∷ [])) (whole : IsWhole s t run) where
      abbrev runs : List Capture
      runs = (done_at s t).runs

      abbrev i : ℕ
      i = cursor s t k

      abbrev j : ℕ
      j = seen_at run k

      -- ---- rows

      main_is : IsRowTask s.flow t → shape_at p.inputs k ≡ schema_in s.flow (main_channel s t)
      main_is is = ap (λ ins. shape_at ins k) is.inputs ∙ shape_there s (task_in s.flow t).inputs k is.place

      looked_fit : IsRowTask s.flow t → AllFit out (looked_up s t (runs ++ run ∷ []) k j vs)
      looked_fit is row at =
          let r = in_flattened (λ (e : List Value × Row). rows_by s t k e.1 (taken_up k (last_write vs j e.0) (runs ++ run ∷ []))) row (fin.entries (rows_in vs j)) at in
          let got : fin.get (rows_in vs j) (r.0).0 ≡ Some (r.0).1 = get-entries (rows_in vs j) (r.0).0 ∙ find_in (fin.entries (rows_in vs j)) r.0 (entries_sorted (rows_in vs j)) r.1 in
          let fit = ((tables (main_channel s t) j).each (r.0).0 (r.0).1 got).0 in
          by (r.0).1 fit (taken_up k (last_write vs j (r.0).0) (runs ++ run ∷ [])) (λ q e. taken_is (IsWhole s t) k (last_write vs j (r.0).0) (runs ++ run ∷ []) wholes q e) r.2
        where
          by : (x : Row) → FitsRow (schema_in s.flow (main_channel s t)) x → (o : Option Capture) → ((q : Capture) → o ≡ Some q → IsWhole s t q) → In row (rows_by s t k x o) → FitsRow out row
          by x fit None its h = absurd h
          by x fit (Some q) its h =
              rows_over (slice_set (captured_rows s t q) k (x ∷ []))
              (set_fits k p.inputs (captured_rows s t q) (x ∷ []) (captured_fit q (its q refl)) (one_fits (shape_at p.inputs k) x (subst (λ (z : Shape). FitsRow z x) (sym (main_is is)) fit))) row h

      result_fits : (kind : PatternKind) → (plan_in s.flow t).pattern ≡ kind → AllFit out (result_rows kind s t runs run)
      result_fits NonIncremental e = rows_over (captured_rows s t run) (captured_fit run whole)
      result_fits Stateless e = rows_over (captured_rows s t run) (captured_fit run whole)
      result_fits Stateful e = rows_over (captured_rows s t run) (captured_fit run whole)
      result_fits Lookup e = looked_fit (lookup_task s.flow planned t lt e)

      abbrev made : RowMap
      made = (table_of out (result_rows (plan_in s.flow t).pattern s t runs run)).rows

      made_table : IsTable (record { schema = out; rows = made })
      made_table = record {
        each = λ q row got.
            let all = result_rows (plan_in s.flow t).pattern s t runs run in
            let f = found_is out.key q all row (sym (get-table_of out all q) ∙ got) in
            (result_fits (plan_in s.flow t).pattern refl row f.0, f.1);
      }

      -- ---- keys

      table_key : (q : List Value) → has (fin.keys made) q ≡ true → FitsKey out q
      table_key q is =
          let found = some_at (fin.get made q) (fin.contains_key-keys made q ∙ is) in
          let fit = made_table.each q found.0 found.1 in
          subst (FitsKey out) fit.1 (key_fits out found.0 out_shape fit.0)

      row_key : IsRowTask s.flow t → (q : List Value) → In q (flat_map (output_keys p k) (written vs i j)) → FitsKey out q
      row_key is q at =
          let shape : IsShape (main_shape p) = subst IsShape (sym (ap (shape_at p.inputs) is.main ∙ main_is is)) is.shape in
          let r = in_flattened (output_keys p k) q (written vs i j) at in
          let key = written_fits (schema_in s.flow (main_channel s t)) vs (fits (main_channel s t)) is.shape i j r.0 (is_in r.0 r.1) in
          let fit = subst (λ (z : Shape). FitsKey z r.0) (sym (ap (shape_at p.inputs) is.main ∙ main_is is)) key in
          subst (λ (z : Shape). FitsKey z q) out_is (keys_fit p is.plan is.row shape r.0 fit q (subst (In q) (ap (λ n. output_keys p n r.0) (sym is.main) ∙ same_keys p is.row shape r.0 fit) r.2))
        where
          is_in : (x : List Value) → In x (written vs i j) → has (written vs i j) x ≡ true
          is_in x h = in_any x (written vs i j) h

      group_key : (plan_in s.flow t).pattern ≡ Stateful → (n : ℕ) (key q : List Value) → In q (groups_at p (rows_in vs n) key) → FitsKey out q
      group_key e n key q at =
          let is = group_task s.flow planned t lt e in
          let members = row_list (fin.get (rows_in vs n) key) in
          let r = in_mapped (key_at p.output.key) q (rows (all_groups (tree_of_plan p)) (members ∷ [])) at in
          let whole_plan = (planned.tasks t lt).plan in
          let fit = inputs (fin.get (rows_in vs n) key) refl is.1 is.2 in
          let row = all_groups_fit p whole_plan (members ∷ []) (λ m ks here. nodes_fit p whole_plan whole_plan.kinded.all whole_plan.kinded.nodes (members ∷ []) fit m ks here) is.0.shape r.0 r.1 in
          subst (λ (z : Shape). FitsKey z q) out_is (subst (FitsKey p.output) (sym r.2) (key_fits p.output r.0 (subst IsShape (sym out_is) out_shape) row))
        where
          one : (inputs : List Input) (m : ℕ) → length inputs ≡ 1 → m ≡ 0 → (members : List Row) → AllFit (schema_in s.flow (slice_index_or inputs m no_input).channel) members
              → TablesFit (map (λ (x : Input). schema_in s.flow x.channel) inputs) (members ∷ [])
          one [] m long z members fit = absurd cc
          one (x ∷ []) zero long z members fit = (fit, tt)
          one (x ∷ []) (suc m) long z members fit = absurd cc
          one (x ∷ y ∷ xs) m long z members fit = absurd (omega (arith, long))

          row_fits : (o : Option Row) → fin.get (rows_in vs n) key ≡ o → AllFit (schema_in s.flow (main_channel s t)) (row_list o)
          row_fits None got = λ row h. absurd h
          row_fits (Some row) got = one_fits (schema_in s.flow (main_channel s t)) row ((tables (main_channel s t) n).each key row got).0

          inputs : (o : Option Row) → fin.get (rows_in vs n) key ≡ o → length (task_in s.flow t).inputs ≡ 1 → k ≡ 0 → TablesFit p.inputs (row_list o ∷ [])
          inputs o got long z = subst (λ ins. TablesFit ins (row_list o ∷ [])) (sym (planned.tasks t lt).schemas.inputs) (one (task_in s.flow t).inputs k long z (row_list o) (row_fits o got))

      wrote_fits : (kind : PatternKind) → (plan_in s.flow t).pattern ≡ kind → (q : List Value) → has (written_keys kind p k vs i j made) q ≡ true → FitsKey out q
      wrote_fits NonIncremental e q is = table_key q is
      wrote_fits Stateless e q is = row_key (stateless_task s.flow planned t lt e).0 q (any_in q (flat_map (output_keys p k) (written vs i j)) is)
      wrote_fits Lookup e q is = row_key (lookup_task s.flow planned t lt e) q (any_in q (flat_map (output_keys p k) (written vs i j)) is)
      wrote_fits Stateful e q is =
          let both = λ (key : List Value). groups_at p (rows_in vs i) key ++ groups_at p (rows_in vs j) key in
          let r = in_flattened both q (written vs i j) (any_in q (flat_map both (written vs i j)) is) in
          elim (in_either q (groups_at p (rows_in vs i) r.0) (groups_at p (rows_in vs j) r.0) r.2) as (λ _. FitsKey out q) [
            | inl old ↦ group_key e i r.0 q old
            | inr new ↦ group_key e j r.0 q new
          ]

      pub run_fits : FitsIn out (made_version s t run)
      unfolding made_version
      run_fits = record { table = made_table; keys = wrote_fits (plan_in s.flow t).pattern refl }
