-- A lookup plan is a rule.
use Rattle.std.specs.Prelude.{◌≡◌, ◌<◌, ℕ, zero, suc, List, [], ◌∷◌, ◌++◌, map, filter, length, slice_index_or, Some, refl}
use Rattle.std.proofs.Common.{ap, sym, ◌∙◌, inl, inr, subst, arith, length-append}
use Rattle.nova_value.specs.Rows.{Shape, IsShape, FitsRow, value_at, key_at}
use Rattle.nova_pig_algebra.specs.declared.node.PlanExpr.{PlanExpr}
use Rattle.nova_pig_algebra.specs.Meaning.{Row, same_row, holds, made, no_calls}
use Rattle.nova_pig_algebra.specs.Tree.{Tree, Nothing, Load, Filter, Foreach, Grouped, Join, Union, Distinct, rows, rows_at}
use Rattle.nova_pig_algebra.specs.Keys.{Column, column_set, unknowns, item_constant, plain, shape_at, facts}
use Rattle.nova_pig_algebra.specs.Plan.{Plan, IsPlan, tree_of_plan}
use Rattle.nova_pig_algebra.specs.Statements.{In, AreTables}
use Rattle.nova_pig_algebra.proofs.Even.{plan_even}
use Rattle.nova_pig_algebra.proofs.Keyed.{IsEven, has_constants}
use Rattle.nova_pig_algebra.proofs.Lists.{in_filtered, in_mapped, in_flattened}
use Rattle.nova_pig_algebra.proofs.Values.{width_of}
use Rattle.nova_pig_pattern.specs.OutputKey.{HasOutputKey}
use Rattle.nova_pig_pattern.specs.Shapes.{IsLookup}
use Rattle.nova_rowwise.specs.Sources.{item_at, source_keys}
use Rattle.nova_rowwise.specs.Derived.{with_main}
use Rattle.nova_rowwise.specs.Rule.{Rule}
use Rattle.nova_rowwise.proofs.Origins.{set_from}
use Rattle.nova_rowwise.proofs.Paths.{left_key, placed_at}
use Rattle.nova_pig_algebra.proofs.Keyed.{foreach_parts}
use Rattle.nova_rowwise.proofs.Kept.{Shown, Traced, under_load, under_foreach, comes_from}
use Rattle.nova_rowwise.proofs.Spread.{main_is}
use Rattle.nova_rowwise.proofs.StatelessRule.{rule_by}

in_range : (n : ℕ) (key : List ℕ) → ((i : ℕ) → i < length key → slice_index_or key i 0 < n) → (c : ℕ) → In c key → c < n
in_range n [] h c i = absurd i
in_range n (p ∷ ps) h c (inl e) = subst (λ z. z < n) (sym e) (h 0 (omega arith))
in_range n (p ∷ ps) h c (inr i) = in_range n ps (λ j lt. h (suc j) (omega arith)) c i

unknown_long : (n : ℕ) → length (unknowns n) ≡ n
unknown_long zero = refl
unknown_long (suc n) = ap suc (unknown_long n)

map_long : {X Y : Type 0} (f : X → Y) (xs : List X) → length (map f xs) ≡ length xs
map_long f [] = refl
map_long f (x ∷ xs) = ap suc (map_long f xs)

in_items : (items : List PlanExpr) (c k : ℕ) → item_at items c ≡ Column k → c < length items
in_items [] c k e = absurd cc
in_items (x ∷ items) zero k e = omega arith
in_items (x ∷ items) (suc c) k e = let h = in_items items c k e in omega arith

at_front : (a b : Row) (c : ℕ) → c < length a → value_at (a ++ b) c ≡ value_at a c
at_front [] b c h = absurd (omega arith)
at_front (v ∷ a) b zero h = refl
at_front (v ∷ a) b (suc c) h = at_front a b c (omega arith)

module _ (inputs : List Shape) (main : ℕ) (shape : IsShape (shape_at inputs main)) where
  -- key columns are columns
  short : (t : Tree) → IsLookup inputs main t → (key : List ℕ) → (facts inputs t).key ≡ Some key → (c : ℕ) → In c key → c < length (facts inputs t).constants
  short (Load n) w key e c i =
      let its : column_set (shape_at inputs n).key ≡ key = cc in
      let at : In c (shape_at inputs main).key = subst (λ m. In c (shape_at inputs m).key) w (set_from c (shape_at inputs n).key (subst (In c) (sym its) i)) in
      let lt : c < length (shape_at inputs n).columns = subst (λ m. c < length (shape_at inputs m).columns) (sym w) (in_range (length (shape_at inputs main).columns) (shape_at inputs main).key shape.in_range c at) in
      subst (λ z. c < z) (sym (unknown_long (length (shape_at inputs n).columns))) lt
  short (Filter from cond) w key e c i = short from w key e c i
  short (Foreach from items) w key e c i =
      let p = foreach_parts items (facts inputs from).key key e in
      let k = comes_from items p.0 key p.2 c i in
      let lt = in_items items c k.0 (placed_at inputs main [] [] k.0 items c k.2) in
      subst (λ z. c < z) (sym (map_long (λ x. item_constant (facts inputs from).constants (plain x)) items)) lt
  short (Join left left_by right right_by) w key e c i =
      let own = left_key inputs main [] [] (facts inputs left).key (facts inputs right).key right_by (length (facts inputs left).constants) key w.1.1 e in
      let lt = short left w.0 key own c i in
      let both = length-append (facts inputs left).constants (facts inputs right).constants in
      omega arith
  short (Union arms) w key e c i = absurd w
  short Nothing w key e c i = absurd w
  short (Grouped from columns items) w key e c i = absurd w
  short (Distinct from) w key e c i = absurd w

  module _ (tables : List (List Row)) (are : AreTables inputs tables) (r : Row) (one : rows_at tables main ≡ r ∷ []) where
    traced_lookup : (t : Tree) → IsLookup inputs main t → IsEven inputs t → (key : List ℕ) → (facts inputs t).key ≡ Some key → (x : Row) → In x (rows t tables) → Traced inputs main tables are r one t key x
    traced_lookup (Load n) w even key e x i = under_load inputs main tables are r one n w key e x i
    traced_lookup (Filter from cond) w even key e x i = traced_lookup from w even key e x (in_filtered (λ row. holds cond row no_calls) x (rows from tables) i).0
    traced_lookup (Foreach from items) w even key e x i =
        let p = foreach_parts items (facts inputs from).key key e in
        let z = in_mapped (λ row. made items row no_calls) x (rows from tables) i in
        under_foreach inputs main tables are r one from items p.0 key p.2 z.0 x z.2 (traced_lookup from w even p.0 p.1 z.0 z.1)
    traced_lookup (Join left left_by right right_by) w even key e x i =
        let own = left_key inputs main [] [] (facts inputs left).key (facts inputs right).key right_by (length (facts inputs left).constants) key w.1.1 e in
        let a = in_flattened (λ a. map (λ b. a ++ b) (filter (λ b. same_row (key_at left_by a) (key_at right_by b)) (rows right tables))) x (rows left tables) i in
        let b = in_mapped (λ b. a.0 ++ b) x (filter (λ b. same_row (key_at left_by a.0) (key_at right_by b)) (rows right tables)) a.2 in
        let t = traced_lookup left w.0 even.0 key own a.0 a.1 in
        let wide = width_of (facts inputs left).constants a.0 (has_constants inputs tables are left even.0 a.0 a.1) in (
          t.0,
          t.1,
          λ c at.
              let lt = short left w.0 key own c at in
              subst (λ v. Shown (shape_at inputs main).key r (t.0 (Column c)) v) (sym (at_front a.0 b.0 c (omega arith)) ∙ ap (λ y. value_at y c) (sym b.2)) (t.2 c at),
        )
    traced_lookup (Union arms) w even key e x i = absurd w
    traced_lookup Nothing w even key e x i = absurd w
    traced_lookup (Grouped from columns items) w even key e x i = absurd w
    traced_lookup (Distinct from) w even key e x i = absurd w

-- with any lookup tables, which may hang on the row
pub lookup_rule : (p : Plan) → IsPlan p → HasOutputKey p → (main : ℕ) → IsLookup p.inputs main (tree_of_plan p) → IsShape (shape_at p.inputs main) → (of : Row → List (List Row))
    → ((r : Row) → FitsRow (shape_at p.inputs main) r → AreTables p.inputs (with_main main (of r) (r ∷ [])))
    → Rule (shape_at p.inputs main) p.output (source_keys (shape_at p.inputs main) p.output (tree_of_plan p)) (λ r. rows (tree_of_plan p) (with_main main (of r) (r ∷ [])))
lookup_rule p is key main w shape of are =
    rule_by p is key main of (λ r x tables i. traced_lookup p.inputs main shape (with_main main (of r) (r ∷ [])) tables r (main_is main (of r) (r ∷ [])) (tree_of_plan p) w (plan_even p is.kinded) (column_set p.output.key) key x i) are
