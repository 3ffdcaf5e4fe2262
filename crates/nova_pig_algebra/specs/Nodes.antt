-- The tree of a node, by the trees of the nodes that it names, where these stand before it.
use Rattle.std.specs.Prelude.{ℕ, nat_lt, if◌then◌else◌, List, [], ◌∷◌, Option, Some, None, slice_get}
use Rattle.nova_pig_algebra.specs.declared.node.PlanExpr.{PlanExpr}
use Rattle.nova_pig_algebra.specs.declared.node.Node.{Node}
use Rattle.nova_pig_algebra.specs.declared.node.Node.TheVariants as node
use Rattle.nova_pig_algebra.specs.Tree.{Tree, Nothing, Load, Filter, Foreach, Grouped, Join, Union, Distinct, Arms, End, Arm, tree_at, trees}

-- the tree of a node that stands before the node k
abbrev pub earlier : List Node → ℕ → ℕ → Tree
earlier nodes k from = if nat_lt from k then tree_at (trees nodes) from else Nothing

-- those of arms
abbrev pub earlier_arms : List Node → ℕ → List ℕ → Arms
earlier_arms nodes k [] = End
earlier_arms nodes k (a ∷ arms) = Arm (earlier nodes k a) (earlier_arms nodes k arms)

-- a FOREACH over a GROUP, or over rows
abbrev pub over : List Node → ℕ → ℕ → List PlanExpr → Option Node → Tree
over nodes k from items (Some (node.Group source columns)) = Grouped (earlier nodes k source) columns items
over nodes k from items _ = Foreach (earlier nodes k from) items

-- the tree of the node k, by the node
abbrev pub node_tree : List Node → ℕ → Option Node → Tree
node_tree nodes k None = Nothing
node_tree nodes k (Some (node.Load i)) = Load i
node_tree nodes k (Some (node.Filter from cond)) = Filter (earlier nodes k from) cond
node_tree nodes k (Some (node.Foreach from items)) = over nodes k from items (slice_get nodes from)
node_tree nodes k (Some (node.Group from columns)) = Nothing
node_tree nodes k (Some (node.Join left left_by right right_by)) = Join (earlier nodes k left) left_by (earlier nodes k right) right_by
node_tree nodes k (Some (node.Union arms)) = Union (earlier_arms nodes k arms)
node_tree nodes k (Some (node.Distinct from)) = Distinct (earlier nodes k from)
