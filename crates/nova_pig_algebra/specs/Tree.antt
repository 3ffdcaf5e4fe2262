-- A plan's stored node with all that it stands on, as a tree, and the list of rows that it gives.
use Rattle.std.specs.Prelude.{ℕ, List, [], ◌∷◌, ◌++◌, map, filter, flat_map, not, slice_index_or, slice_get, Option, Some}
use Rattle.std.specs.FinMap.{keys, from_entries}
use Rattle.nova_value.specs.Order.{key_cmp}
use Rattle.nova_value.specs.Rows.{key_at}
use Rattle.nova_pig_algebra.specs.declared.node.PlanExpr.{PlanExpr}
use Rattle.nova_pig_algebra.specs.declared.node.Node.{Node}
use Rattle.nova_pig_algebra.specs.declared.node.Node.TheVariants as node
use Rattle.nova_pig_algebra.specs.Meaning.{Row, same_row, holds, made, no_calls, calls_over}

mutual
  -- Nothing stands where a node names no earlier one, and for a GROUP, whose rows its FOREACH makes
  pub data Tree : Type 0 where
    Nothing : Tree
    Load : ℕ → Tree
    Filter : Tree → PlanExpr → Tree
    Foreach : Tree → List PlanExpr → Tree
    Grouped : Tree → List ℕ → List PlanExpr → Tree
    Join : Tree → List ℕ → Tree → List ℕ → Tree
    Union : Arms → Tree
    Distinct : Tree → Tree

  pub data Arms : Type 0 where
    End : Arms
    Arm : Tree → Arms → Arms

-- the tree of a node, or Nothing where it is none of these
abbrev pub tree_at : List Tree → ℕ → Tree
tree_at done k = slice_index_or done k Nothing

-- the trees of arms
abbrev pub arms_at : List Tree → List ℕ → Arms
arms_at done [] = End
arms_at done (k ∷ ks) = Arm (tree_at done k) (arms_at done ks)

-- a FOREACH over a GROUP makes the rows of its groups, over any other node a row for each row
abbrev pub foreach_tree : List Tree → ℕ → List PlanExpr → Option Node → Tree
foreach_tree done from items (Some (node.Group source columns)) = Grouped (tree_at done source) columns items
foreach_tree done from items _ = Foreach (tree_at done from) items

-- the tree of a node, of all nodes and of the trees of those before it
abbrev pub tree_of : List Node → List Tree → Node → Tree
tree_of nodes done (node.Load input) = Load input
tree_of nodes done (node.Filter from cond) = Filter (tree_at done from) cond
tree_of nodes done (node.Foreach from items) = foreach_tree done from items (slice_get nodes from)
tree_of nodes done (node.Group from columns) = Nothing
tree_of nodes done (node.Join left left_by right right_by) = Join (tree_at done left) left_by (tree_at done right) right_by
tree_of nodes done (node.Union arms) = Union (arms_at done arms)
tree_of nodes done (node.Distinct from) = Distinct (tree_at done from)

-- the trees of the nodes, from the left
unfoldable pub trees_after : List Node → List Tree → List Node → List Tree
trees_after nodes done [] = done
trees_after nodes done (n ∷ rest) = trees_after nodes (done ++ tree_of nodes done n ∷ []) rest

-- the trees of all nodes
abbrev pub trees : List Node → List Tree
trees nodes = trees_after nodes [] nodes

-- the distinct lists of BY values, in their order
abbrev pub rising : List Row → List Row
rising bys = keys (from_entries {R = key_cmp} (map (λ by. (by, by)) bys))

-- the rows with these BY values
abbrev pub members : List ℕ → List Row → Row → List Row
members columns rows by = filter (λ row. same_row by (key_at columns row)) rows

-- all pairs of a left and a right row with equal BY values, in the order of the left rows and then of the right ones
abbrev pub joined : List ℕ → List ℕ → List Row → List Row → List Row
joined left_by right_by left right = flat_map (λ a. map (λ b. a ++ b) (filter (λ b. same_row (key_at left_by a) (key_at right_by b)) right)) left

-- the list without later repeats
abbrev pub distinct : List Row → List Row
distinct [] = []
distinct (row ∷ rows) = row ∷ filter (λ other. not (same_row row other)) (distinct rows)

-- the table of an input
abbrev pub rows_at : List (List Row) → ℕ → List Row
rows_at all k = slice_index_or all k []

abbrev mutual
  -- the rows of a tree, of the inputs' tables, each a list of rows in the order of their keys
  pub rows : Tree → List (List Row) → List Row
  rows Nothing tables = []
  rows (Load input) tables = rows_at tables input
  rows (Filter from cond) tables = filter (λ row. holds cond row no_calls) (rows from tables)
  rows (Foreach from items) tables = map (λ row. made items row no_calls) (rows from tables)
  rows (Grouped from columns items) tables = map (λ by. made items by (calls_over (members columns (rows from tables) by))) (rising (map (key_at columns) (rows from tables)))
  rows (Join left left_by right right_by) tables = joined left_by right_by (rows left tables) (rows right tables)
  rows (Union arms) tables = arm_rows arms tables
  rows (Distinct from) tables = distinct (rows from tables)

  pub arm_rows : Arms → List (List Row) → List Row
  arm_rows End tables = []
  arm_rows (Arm arm arms) tables = rows arm tables ++ arm_rows arms tables
