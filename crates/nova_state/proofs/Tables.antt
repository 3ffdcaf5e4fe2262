-- The rows that a plan over groups stores are those of its rule.
use Rattle.std.specs.Prelude.{◌≡◌, ℕ, Bool, true, false, cond, if◌then◌else◌, List, [], ◌∷◌, map, filter, filter_map, Option, Some, None, refl}
use Rattle.std.proofs.Common.{ap, sym, ◌∙◌}
use Rattle.std.specs.List.{cons_option}
use Rattle.std.specs.FinMap.{values}
use Rattle.nova_value.specs.Rows.{key_at}
use Rattle.nova_delta.specs.Merge.{RowMap}
use Rattle.nova_pig_algebra.specs.declared.node.PlanExpr.{PlanExpr}
use Rattle.nova_pig_algebra.specs.Meaning.{Row, holds, made, no_calls, calls_over}
use Rattle.nova_pig_algebra.specs.Tree.{Tree, Nothing, Load, Filter, Foreach, Grouped, Join, Union, Distinct, rows, rows_at, rising, members}
use Rattle.nova_pig_algebra.specs.Plan.{Plan, tree_of_plan, rows_of}
use Rattle.nova_pig_pattern.specs.Shapes.{IsChain, IsGrouped}
use Rattle.nova_pig_rows.specs.ChainRows.{kept, remade, chain_row}
use Rattle.nova_state.specs.Rule.{rows_made, row_of}
use Rattle.nova_state.specs.Plan.{parts, or_nothing, rule_of_tree, rule_of}

all_given : (xs : List Row) → filter_map (λ (row : Row). let o : Option Row = Some row in o) xs ≡ xs
all_given [] = refl
all_given (x ∷ xs) = ap (λ ys. x ∷ ys) (all_given xs)

module _ (f : Row → Option Row) where
  passing : (c : PlanExpr) (xs : List Row) → filter (λ row. holds c row no_calls) (filter_map f xs) ≡ filter_map (λ row. kept c (f row)) xs
  passing c [] = refl
  passing c (x ∷ xs) = go (f x) (passing c xs)
    where
      both : (b : Bool) (row : Row) (ys zs : List Row) → ys ≡ zs → cond b (row ∷ ys) ys ≡ cons_option (if b then Some row else None) zs
      both true row ys zs e = ap (λ rest. row ∷ rest) e
      both false row ys zs e = e

      go : (o : Option Row) → filter (λ row. holds c row no_calls) (filter_map f xs) ≡ filter_map (λ row. kept c (f row)) xs
          → filter (λ row. holds c row no_calls) (cons_option o (filter_map f xs)) ≡ cons_option (kept c o) (filter_map (λ row. kept c (f row)) xs)
      go None e = e
      go (Some row) e = both (holds c row no_calls) row _ _ e

  making : (items : List PlanExpr) (xs : List Row) → map (λ row. made items row no_calls) (filter_map f xs) ≡ filter_map (λ row. remade items (f row)) xs
  making items [] = refl
  making items (x ∷ xs) = go (f x) (making items xs)
    where
      go : (o : Option Row) → map (λ row. made items row no_calls) (filter_map f xs) ≡ filter_map (λ row. remade items (f row)) xs
          → map (λ row. made items row no_calls) (cons_option o (filter_map f xs)) ≡ cons_option (remade items o) (filter_map (λ row. remade items (f row)) xs)
      go None e = e
      go (Some row) e = ap (λ rest. made items row no_calls ∷ rest) e

pub chains_map : (input : ℕ) (t : Tree) → IsChain input t → (tables : List (List Row)) → rows t tables ≡ filter_map (chain_row t) (rows_at tables input)
chains_map input (Load i) is tables = ap (rows_at tables) is ∙ sym (all_given (rows_at tables input))
chains_map input (Filter from c) is tables = ap (filter (λ row. holds c row no_calls)) (chains_map input from is tables) ∙ passing (chain_row from) c (rows_at tables input)
chains_map input (Foreach from items) is tables = ap (map (λ row. made items row no_calls)) (chains_map input from is tables) ∙ making (chain_row from) items (rows_at tables input)
chains_map input Nothing is tables = absurd is
chains_map input (Grouped from columns items) is tables = absurd is
chains_map input (Join left left_by right right_by) is tables = absurd is
chains_map input (Union arms) is tables = absurd is
chains_map input (Distinct from) is tables = absurd is

all_some : (f : Row → Row) (xs : List Row) → filter_map (λ (x : Row). let o : Option Row = Some (f x) in o) xs ≡ map f xs
all_some f [] = refl
all_some f (x ∷ xs) = ap (λ (ys : List Row). f x ∷ ys) (all_some f xs)

-- the source's rows, and the groups of them
abbrev Source : Tree → RowMap → List Row
Source t m = filter_map (chain_row (or_nothing (parts t)).source) (values m)

abbrev Bys : Tree → RowMap → List Row
Bys t m = rising (map (key_at (or_nothing (parts t)).columns) (Source t m))

abbrev Given : Tree → RowMap → Row → Option Row
Given t m by = row_of (rule_of_tree t) by (members (or_nothing (parts t)).columns (Source t m) by)

made_is : (t : Tree) (m : RowMap) → IsGrouped 0 t → rows t (values m ∷ []) ≡ rows_made (rule_of_tree t) m
made_is (Grouped from columns items) m is =
    ap (λ (rs : List Row). map (λ by. made items by (calls_over (members columns rs by))) (rising (map (key_at columns) rs))) (chains_map 0 from is (values m ∷ []))
    ∙ sym (all_some (λ by. made items by (calls_over (members columns (Source (Grouped from columns items) m) by))) (Bys (Grouped from columns items) m))
made_is (Filter from c) m is = ap (filter (λ row. holds c row no_calls)) (made_is from m is) ∙ passing (Given from m) c (Bys from m)
made_is (Foreach from items) m is = ap (map (λ row. made items row no_calls)) (made_is from m is) ∙ making (Given from m) items (Bys from m)
made_is Nothing m is = absurd is
made_is (Load input) m is = absurd is
made_is (Join left left_by right right_by) m is = absurd is
made_is (Union arms) m is = absurd is
made_is (Distinct from) m is = absurd is

pub rows_are_grouped : (p : Plan) → IsGrouped 0 (tree_of_plan p) → (m : RowMap) → rows_of p (values m ∷ []) ≡ rows_made (rule_of p) m
unfolding rule_of
rows_are_grouped p is m = made_is (tree_of_plan p) m is
