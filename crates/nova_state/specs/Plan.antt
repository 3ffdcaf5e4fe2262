-- The grouping rule of a plan.
use Rattle.std.specs.Prelude.{ℕ, zero, suc, if◌then◌else◌, List, [], ◌∷◌, ◌++◌, map, flat_map, fold, Option, Some, None}
use Rattle.std.specs.List.{list_any}
use Rattle.nova_value.specs.Rows.{key_at}
use Rattle.nova_pig_algebra.specs.declared.node.PlanExpr.{PlanExpr}
use Rattle.nova_pig_algebra.specs.Meaning.{Row, Call, calls}
use Rattle.nova_pig_algebra.specs.Tree.{Tree, Nothing, Load, Filter, Foreach, Grouped, Join, Union, Distinct}
use Rattle.nova_pig_algebra.specs.Plan.{Plan, tree_of_plan}
use Rattle.nova_pig_algebra.specs.Keys.{Plain, Column, By, Constant, Computed, plain}
use Rattle.nova_pig_rows.specs.ChainRows.{chain_row}
use Rattle.nova_pig_rows.specs.GroupRows.{group_row}
use Rattle.nova_pig_rows.specs.Outcomes.{same_call}
use Rattle.nova_state.specs.Rule.{GroupRule}

-- the GROUP on which a tree stands: the rows that are grouped, the BY columns, and the items of its FOREACH
pub record Parts : Type 0 where
  pub source : Tree
  pub columns : List ℕ
  pub items : List PlanExpr

abbrev pub parts : Tree → Option Parts
parts (Grouped from columns items) = Some (record { source = from; columns = columns; items = items })
parts (Filter from c) = parts from
parts (Foreach from items) = parts from
parts Nothing = None
parts (Load input) = None
parts (Join left left_by right right_by) = None
parts (Union arms) = None
parts (Distinct from) = None

-- where there is none, nothing is grouped
abbrev pub or_nothing : Option Parts → Parts
or_nothing None = record { source = Nothing; columns = []; items = [] }
or_nothing (Some g) = g

-- one call more, unless it is there
abbrev pub with_call : List Call → Call → List Call
with_call cs c = if list_any (λ d. same_call d c) cs then cs else cs ++ c ∷ []

-- the calls of items, each once, in the order in which they first stand
unfoldable pub calls_in : List PlanExpr → List Call
calls_in items = fold with_call [] (flat_map calls items)

abbrev pub rule_by : Parts → Tree → GroupRule
rule_by g t = record { chain = chain_row g.source; columns = g.columns; calls = calls_in g.items; finish = group_row t }

abbrev pub rule_of_tree : Tree → GroupRule
rule_of_tree t = rule_by (or_nothing (parts t)) t

unfoldable pub rule_of : Plan → GroupRule
rule_of p = rule_of_tree (tree_of_plan p)

-- ---- the output key
-- the place to which an item is a plain reference
abbrev pub place_in : Plain → ℕ
place_in (By k) = k
place_in (Column k) = k
place_in (Constant v) = 0
place_in Computed = 0

abbrev pub item_place : List PlanExpr → ℕ → ℕ
item_place [] k = 0
item_place (e ∷ es) zero = place_in (plain e)
item_place (e ∷ es) (suc k) = item_place es k

-- the BY value that stands at a place of the plan's rows, where the items on the way are plain references
abbrev pub by_place : Tree → ℕ → ℕ
by_place (Grouped from columns items) k = item_place items k
by_place (Filter from c) k = by_place from k
by_place (Foreach from items) k = by_place from (item_place items k)
by_place Nothing k = 0
by_place (Load input) k = 0
by_place (Join left left_by right right_by) k = 0
by_place (Union arms) k = 0
by_place (Distinct from) k = 0

-- the output key of a group
unfoldable pub out_key : Plan → Row → Row
out_key p by = key_at (map (by_place (tree_of_plan p)) p.output.key) by
