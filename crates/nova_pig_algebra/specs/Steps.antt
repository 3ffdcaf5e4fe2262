-- What is known of the nodes that are read, from the left, each by what is known of those before it.
use Rattle.std.specs.Prelude.{◌≡◌, ℕ, ◌<◌, ◌==◌, if◌then◌else◌, List, [], ◌∷◌, map, length, slice_index_or, slice_get, Option, Some, None, Bool, true, false, not, ◌&&◌}
use Rattle.std.specs.Ordering.{eq_by_cmp}
use Rattle.nova_value.specs.declared.value.Value.{Value}
use Rattle.nova_value.specs.Order.{value_cmp}
use Rattle.nova_value.specs.Rows.{Shape}
use Rattle.nova_pig_algebra.specs.declared.facts.Facts.{Facts}
use Rattle.nova_pig_algebra.specs.declared.node.PlanExpr.{PlanExpr}
use Rattle.nova_pig_algebra.specs.declared.node.Node.{Node}
use Rattle.nova_pig_algebra.specs.declared.node.Node.TheVariants as node
use Rattle.nova_pig_algebra.specs.Tree.{tree_at, trees}
use Rattle.nova_pig_algebra.specs.Keys.{facts_of, load_facts, foreach_facts, grouped_facts, join_facts, union_facts, distinct_facts, shape_at, facts}
use Rattle.nova_pig_algebra.specs.Readers.{last_at}

-- what is known of a node, or that it has no columns and no key where it is none of these
abbrev pub fact_at : List Facts → ℕ → Facts
fact_at done k = slice_index_or done k (facts_of [] None)

-- what is known of arms
abbrev pub facts_at : List Facts → List ℕ → List Facts
facts_at done arms = map (fact_at done) arms

-- a FOREACH, by what its source is
abbrev pub foreach_of : Option Node → List PlanExpr → Facts → Facts
foreach_of (Some (node.Group source columns)) items from = grouped_facts columns items
foreach_of _ items from = foreach_facts items from

-- what is known of a node, by that of those before it
abbrev pub node_facts : List Shape → List Node → List Facts → Node → Facts
node_facts inputs nodes done (node.Load i) = load_facts (shape_at inputs i)
node_facts inputs nodes done (node.Filter from cond) = fact_at done from
node_facts inputs nodes done (node.Foreach from items) = foreach_of (slice_get nodes from) items (fact_at done from)
node_facts inputs nodes done (node.Group from columns) = facts_of [] None
node_facts inputs nodes done (node.Join left left_by right right_by) = join_facts right_by (fact_at done left) (fact_at done right)
node_facts inputs nodes done (node.Union arms) = union_facts (facts_at done arms)
node_facts inputs nodes done (node.Distinct from) = distinct_facts (fact_at done from)

-- of a node that none reads, nothing is known
abbrev pub facts_if_read : List Shape → List Node → List Facts → ℕ → Node → Facts
facts_if_read inputs nodes done last n = if last == 0 then facts_of [] None else node_facts inputs nodes done n

-- of each of the first i nodes that is read, what is known of its tree
pub record AreKnown (inputs : List Shape) (nodes : List Node) (last : List ℕ) (i : ℕ) (done : List Facts) : Type 0 where
  pub long : length done ≡ i
  pub known : (k : ℕ) → k < i → 0 < last_at last k → fact_at done k ≡ facts inputs (tree_at (trees nodes) k)

-- all have a value, and none has w
abbrev pub each_other : Value → List (Option Value) → Bool
each_other w [] = true
each_other w (None ∷ os) = false
each_other w (Some v ∷ os) = not (eq_by_cmp value_cmp v w) && each_other w os
