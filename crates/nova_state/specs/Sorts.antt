-- Of which kinds the state of a plan's groups is.
use Rattle.std.specs.Prelude.{List, [], ◌∷◌, map}
use Rattle.nova_value.specs.declared.value.Kind.{Kind}
use Rattle.nova_value.specs.declared.value.Kind.TheVariants as kind
use Rattle.nova_value.specs.Rows.{Shape, kinds, key_kinds}
use Rattle.nova_pig_algebra.specs.declared.node.PlanExpr.{PlanExpr}
use Rattle.nova_pig_algebra.specs.declared.node.PlanExpr.TheOpen.{PlanExpr-F}
use Rattle.nova_pig_algebra.specs.declared.node.PlanExpr.TheFolds.{fold-PlanExpr}
use Rattle.nova_pig_algebra.specs.Tree.{Tree, Nothing, Load, Filter, Foreach, Grouped, Join, Union, Distinct}
use Rattle.nova_pig_algebra.specs.Plan.{Plan, tree_of_plan}
use Rattle.nova_group_codec.specs.Sorts.{SortsValue}
use Rattle.nova_group_codec.specs.Pieces.{kind_at, sorts_of}
use Rattle.nova_state.specs.Plan.{parts, or_nothing, rule_of}

-- the kind of an expression's value over rows of these kinds; both choices of an IF have one kind
abbrev pub kind_step : List Kind → PlanExpr-F Kind → Kind
kind_step ks (PlanExpr-F.Lit t) = kind.Text
kind_step ks (PlanExpr-F.Column k) = kind_at ks k
kind_step ks (PlanExpr-F.If c a b) = a
kind_step ks _ = kind.Long

unfoldable pub kind_in : List Kind → PlanExpr → Kind
kind_in ks = fold-PlanExpr Kind (kind_step ks)

-- the kinds of the rows that a row chain gives over rows of these kinds
abbrev pub chain_kinds : List Kind → Tree → List Kind
chain_kinds ks (Load input) = ks
chain_kinds ks (Filter from c) = chain_kinds ks from
chain_kinds ks (Foreach from items) = map (kind_in (chain_kinds ks from)) items
chain_kinds ks Nothing = []
chain_kinds ks (Grouped from columns items) = []
chain_kinds ks (Join left left_by right right_by) = []
chain_kinds ks (Union arms) = []
chain_kinds ks (Distinct from) = []

-- a plan over groups has one input
abbrev pub first_input : List Shape → Shape
first_input [] = record { columns = []; key = [] }
first_input (s ∷ inputs) = s

-- the sorts of the state of a plan over an input of this schema
abbrev pub sorts_over : Shape → Plan → SortsValue
sorts_over s p = let g = or_nothing (parts (tree_of_plan p)) in sorts_of (key_kinds s) (chain_kinds (kinds s.columns) g.source) g.columns (rule_of p).calls

unfoldable pub plan_sorts : Plan → SortsValue
plan_sorts p = sorts_over (first_input p.inputs) p
