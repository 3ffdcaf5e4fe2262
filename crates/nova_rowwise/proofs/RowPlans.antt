-- A row plan is a rule, and its output keys tell the keys that they come from.
use Rattle.std.specs.Prelude.{◌≡◌, ◌⊎◌, ℕ, true, List, [], ◌∷◌, Option, Some}
use Rattle.std.proofs.Common.{ap, sym, ◌∙◌, inl, inr, subst}
use Rattle.nova_value.specs.Rows.{IsShape, FitsRow, key_at}
use Rattle.nova_value.proofs.Fit.{key_fits}
use Rattle.nova_pig_algebra.specs.Meaning.{Row}
use Rattle.nova_pig_algebra.specs.Tree.{rows}
use Rattle.nova_pig_algebra.specs.Keys.{shape_at}
use Rattle.nova_pig_algebra.specs.Plan.{Plan, IsPlan, tree_of_plan}
use Rattle.nova_pig_algebra.specs.Statements.{In, AreTables}
use Rattle.nova_pig_pattern.specs.Shapes.{IsStateless, IsLookup}
use Rattle.nova_pig_pattern.specs.Tests.{has_join}
use Rattle.nova_pig_pattern.specs.Table.{IsMain, IsOfPattern}
use Rattle.nova_pig_pattern.specs.declared.task.PatternKind.{PatternKind}
use Rattle.nova_pig_pattern.specs.declared.task.PatternKind.TheVariants.{Stateless, Lookup}
use Rattle.nova_pig_pattern.proofs.Tabled.{patterns_are_the_table}
use Rattle.nova_admit.specs.Shaped.{IsRowPlan}
use Rattle.nova_rowwise.specs.Sources.{source_keys}
use Rattle.nova_rowwise.specs.Derived.{main_of, with_main, plan_keys}
use Rattle.nova_rowwise.specs.Rule.{Rule}
use Rattle.nova_rowwise.specs.Statements.{OutputKeysTell, MainIsNew, main_shape}
use Rattle.nova_rowwise.proofs.LookupRule.{lookup_rule}
use Rattle.nova_rowwise.proofs.Origins.{sources_tell, stateless_main, lookup_main}
use Rattle.nova_rowwise.proofs.SameKeys.{same_keys}
use Rattle.nova_rowwise.proofs.Spread.{IsRowwise, stateless_rowwise, lookup_rowwise}
use Rattle.nova_rowwise.proofs.StatelessRule.{stateless_rule}

pub keys_tell : OutputKeysTell
keys_tell p is shape k l q fit_k fit_l i j =
    sources_tell p is shape k l q fit_k fit_l (subst (In q) (same_keys p is shape k fit_k) i) (subst (In q) (same_keys p is shape l fit_l) j)

pub main_is_new : MainIsNew
main_is_new p inputs based kind e is = go is
  where
    at : (k : PatternKind) → kind ≡ k → IsOfPattern p.inputs inputs based (tree_of_plan p) k
    at k same = (patterns_are_the_table p.inputs inputs based (tree_of_plan p) k).0 (e ∙ ap (λ (k : PatternKind). let o : Option PatternKind = Some k in o) same)

    go : (kind ≡ Stateless) ⊎ (kind ≡ Lookup) → IsMain inputs (main_of (tree_of_plan p))
    go (inl s) = let f = (at Stateless s).fits in subst (IsMain inputs) (sym (stateless_main (tree_of_plan p) f.3)) f.1
    go (inr l) = let f = (at Lookup l).fits in subst (IsMain inputs) (sym (lookup_main p.inputs f.0 (tree_of_plan p) f.4)) f.2

pub rowwise : (p : Plan) → IsRowPlan p → IsRowwise (main_of (tree_of_plan p)) (tree_of_plan p)
rowwise p is = go is.shape
  where
    go : IsStateless 0 (tree_of_plan p) ⊎ ((main : ℕ) × IsLookup p.inputs main (tree_of_plan p) × (has_join (tree_of_plan p) ≡ true)) → IsRowwise (main_of (tree_of_plan p)) (tree_of_plan p)
    go (inl w) = subst (λ n. IsRowwise n (tree_of_plan p)) (sym (stateless_main (tree_of_plan p) w)) (stateless_rowwise 0 (tree_of_plan p) w)
    go (inr w) = subst (λ n. IsRowwise n (tree_of_plan p)) (sym (lookup_main p.inputs w.0 (tree_of_plan p) w.1)) (lookup_rowwise p.inputs w.0 (tree_of_plan p) w.1)

module _ (p : Plan) (is : IsPlan p) (row : IsRowPlan p) (shape : IsShape (main_shape p)) (of : Row → List (List Row)) where
  abbrev Tables : ℕ → Type 0
  Tables main = (r : Row) → FitsRow (shape_at p.inputs main) r → AreTables p.inputs (with_main main (of r) (r ∷ []))

  abbrev SourceRule : ℕ → Type 0
  SourceRule main = Tables main → Rule (shape_at p.inputs main) p.output (source_keys (shape_at p.inputs main) p.output (tree_of_plan p)) (λ r. rows (tree_of_plan p) (with_main main (of r) (r ∷ [])))

  pub source_rule : SourceRule (main_of (tree_of_plan p))
  source_rule = go row.shape
    where
      by_stateless : IsStateless 0 (tree_of_plan p) → SourceRule 0
      by_stateless w are = stateless_rule p is row.key 0 w of are

      by_lookup : (main : ℕ) → IsLookup p.inputs main (tree_of_plan p) → IsShape (shape_at p.inputs main) → SourceRule main
      by_lookup main w s are = lookup_rule p is row.key main w s of are

      go : IsStateless 0 (tree_of_plan p) ⊎ ((main : ℕ) × IsLookup p.inputs main (tree_of_plan p) × (has_join (tree_of_plan p) ≡ true)) → SourceRule (main_of (tree_of_plan p))
      go (inl w) = subst SourceRule (sym (stateless_main (tree_of_plan p) w)) (by_stateless w)
      go (inr w) =
          let e = lookup_main p.inputs w.0 (tree_of_plan p) w.1 in
          subst SourceRule (sym e) (by_lookup w.0 w.1 (subst (λ n. IsShape (shape_at p.inputs n)) e shape))

  -- with any lookup tables, which may hang on the row
  pub row_rule : Tables (main_of (tree_of_plan p)) → Rule (main_shape p) p.output (plan_keys p) (λ r. rows (tree_of_plan p) (with_main (main_of (tree_of_plan p)) (of r) (r ∷ [])))
  row_rule are = let rule = source_rule are in record {
    one = rule.one;
    kept = λ r x fit i. subst (λ ks. In (key_at p.output.key x) ks) (sym (same_keys p row shape (key_at (main_shape p).key r) (key_fits (main_shape p) r shape fit))) (rule.kept r x fit i);
  }
