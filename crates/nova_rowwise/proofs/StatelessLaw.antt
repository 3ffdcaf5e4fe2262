-- The law of stateless plans.
use Rattle.std.specs.Prelude.{◌≡◌, ℕ, List, [], ◌∷◌, flat_map, refl}
use Rattle.std.proofs.Common.{ap, sym, ◌∙◌, inl, inr, subst}
use Rattle.std.specs.FinMap as fin
use Rattle.nova_value.specs.Rows.{IsShape, FitsRow}
use Rattle.nova_delta.specs.Merge.{RowMap, EntryMap, TableValue, IsTable, IsDelta, merged, merge_of}
use Rattle.nova_delta.specs.ActionLaws.{same_rows}
use Rattle.nova_delta.specs.Seen.{table_of}
use Rattle.nova_delta.proofs.Keeps.{table_merged}
use Rattle.nova_pig_algebra.specs.Meaning.{Row}
use Rattle.nova_pig_algebra.specs.Tree.{rows}
use Rattle.nova_pig_algebra.specs.Keys.{shape_at}
use Rattle.nova_pig_algebra.specs.Plan.{Plan, IsPlan, tree_of_plan}
use Rattle.nova_pig_algebra.specs.Statements.{In, AreRowsOf, AreTables}
use Rattle.nova_pig_algebra.proofs.Lists.{in_flattened}
use Rattle.nova_admit.specs.Shaped.{IsRowPlan}
use Rattle.nova_pig_pattern.specs.OutputKey.{HasOutputKey}
use Rattle.nova_pig_pattern.specs.Shapes.{IsStateless}
use Rattle.nova_pig_pattern.specs.OutputKeys.{output_keys}
use Rattle.nova_rowwise.specs.Derived.{main_of, with_main, derived_by}
use Rattle.nova_rowwise.specs.Rule.{Sole, Rule, Origin}
use Rattle.nova_rowwise.specs.Statements.{StatelessMerges, of_rows, of_entries}
use Rattle.nova_rowwise.proofs.Members.{in_flat}
use Rattle.nova_rowwise.proofs.Found.{get-table_of, found_same}
use Rattle.nova_rowwise.proofs.Merges.{sole_made}
use Rattle.nova_rowwise.proofs.Origins.{stateless_main}
use Rattle.nova_rowwise.proofs.Rules.{rules_merge}
use Rattle.nova_rowwise.proofs.RowPlans.{keys_tell, row_rule}
use Rattle.nova_rowwise.proofs.Spread.{goes, comes, stateless_rowwise}

module _ (p : Plan) (is : IsPlan p) (key : HasOutputKey p) (w : IsStateless 0 (tree_of_plan p)) (shape : IsShape (shape_at p.inputs 0)) (alone : p.inputs ≡ shape_at p.inputs 0 ∷ []) where
  one : Row → List Row
  one r = rows (tree_of_plan p) ((r ∷ []) ∷ [])

  one_table : (r : Row) → FitsRow (shape_at p.inputs 0) r → AreRowsOf (shape_at p.inputs 0) (r ∷ [])
  one_table r fit = record { fit = λ row i. only row i; keyed = (tt, tt) }
    where
      only : (row : Row) → In row (r ∷ []) → FitsRow (shape_at p.inputs 0) row
      only row (inl e) = subst (FitsRow (shape_at p.inputs 0)) (sym e) fit
      only row (inr past) = absurd past

  row : IsRowPlan p
  row = record { key = key; shape = inl w }

  main_0 : main_of (tree_of_plan p) ≡ 0
  main_0 = stateless_main (tree_of_plan p) w

  abbrev RuleAt : ℕ → Type 0
  RuleAt n = IsShape (shape_at p.inputs n) → ((r : Row) → FitsRow (shape_at p.inputs n) r → AreTables p.inputs (with_main n [] (r ∷ [])))
      → Rule (shape_at p.inputs n) p.output (output_keys p n) (λ r. rows (tree_of_plan p) (with_main n [] (r ∷ [])))

  rule : Rule (shape_at p.inputs 0) p.output (output_keys p 0) (λ r. rows (tree_of_plan p) ((r ∷ []) ∷ []))
  rule = subst RuleAt main_0 (λ s are. row_rule p is row s (λ r. []) are) shape (λ r fit. subst (λ ins. AreTables ins ((r ∷ []) ∷ [])) (sym alone) (one_table r fit, tt))

  origin : Origin (shape_at p.inputs 0) (output_keys p 0)
  origin = subst (λ n. IsShape (shape_at p.inputs n) → Origin (shape_at p.inputs n) (output_keys p n)) main_0 (keys_tell p row) shape

  -- row by row, or all at once
  all_at_once : (m : RowMap) → IsTable (of_rows (shape_at p.inputs 0) m) → table_of p.output (flat_map (λ r. rows (tree_of_plan p) ((r ∷ []) ∷ [])) (fin.values m)) ≡ table_of p.output (rows (tree_of_plan p) (fin.values m ∷ []))
  all_at_once m is_m =
      let t = tree_of_plan p in
      let o = p.output in
      let by_one = flat_map (λ r. rows t ((r ∷ []) ∷ [])) (fin.values m) in
      let whole = rows t (fin.values m ∷ []) in
      let there : (x : Row) → In x by_one → In x whole = λ x i.
      let r = in_flattened (λ r. rows t ((r ∷ []) ∷ [])) x (fin.values m) i in
      comes 0 [] t (stateless_rowwise 0 t w) (fin.values m) r.0 x r.1 r.2 in
      let back : (x : Row) → In x whole → In x by_one = λ x i.
      let r = goes 0 [] t (stateless_rowwise 0 t w) (fin.values m) x i in
      in_flat (λ r. rows t ((r ∷ []) ∷ [])) r.0 x (fin.values m) r.1 r.2 in
      let sole : Sole o.key by_one = sole_made (shape_at p.inputs 0) o (output_keys p 0) shape origin (λ r. rows t ((r ∷ []) ∷ [])) m rule is_m in
      ap (λ (r : RowMap). record { schema = o; rows = r }) (same_rows _ _ (λ q.
      get-table_of o by_one q
      ∙ found_same o.key q by_one whole sole (λ x y i j e. sole x y (back x i) (back y j) e) (λ x e i. there x i) (λ x e i. back x i)
      ∙ sym (get-table_of o whole q)))

  law : (m : RowMap) (d : EntryMap) → IsTable (of_rows (shape_at p.inputs 0) m) → IsDelta (of_entries (shape_at p.inputs 0) d)
      → merge_of (table_of p.output (rows (tree_of_plan p) (fin.values m ∷ []))) (derived_by p.output (output_keys p 0) (λ r. rows (tree_of_plan p) ((r ∷ []) ∷ [])) (of_entries (shape_at p.inputs 0) d))
      ≡ table_of p.output (rows (tree_of_plan p) (fin.values (merged m d) ∷ []))
  law m d is_m is_d =
      let s = shape_at p.inputs 0 in
      let t = tree_of_plan p in
      let is_n : IsTable (of_rows s (merged m d)) = table_merged (of_rows s m) (of_entries s d) refl is_m is_d in
      ap (λ (x : TableValue). merge_of x (derived_by p.output (output_keys p 0) (λ r. rows t ((r ∷ []) ∷ [])) (of_entries s d))) (sym (all_at_once m is_m))
      ∙ rules_merge s p.output (output_keys p 0) shape origin (λ r. rows t ((r ∷ []) ∷ [])) rule m (merged m d) d is_m is_n is_d refl
      ∙ all_at_once (merged m d) is_n

pub stateless_merges : StatelessMerges
stateless_merges p is key w shape alone m d is_m is_d =
    let s = shape_at p.inputs 0 in
    let t = tree_of_plan p in
    ap (λ (n : ℕ). merge_of (table_of p.output (rows t (fin.values m ∷ []))) (derived_by p.output (output_keys p n) (λ r. rows t (with_main n [] (r ∷ []))) (of_entries s d))) (stateless_main t w)
    ∙ law p is key w shape alone m d is_m is_d
