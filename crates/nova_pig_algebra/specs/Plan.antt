-- Plans, what they mean and what is true of each.
use Rattle.std.specs.Prelude.{◌≡◌, true, ℕ, List, [], map, Option, Some, slice_get}
use Rattle.nova_value.specs.declared.value.Kind.{Kind}
use Rattle.nova_value.specs.Rows.{Shape, kinds}
use Rattle.nova_pig_algebra.specs.declared.node.Node.{Node}
use Rattle.nova_pig_algebra.specs.Meaning as meaning
use Rattle.nova_pig_algebra.specs.Tree.{Tree, tree_at, trees, rows}
use Rattle.nova_pig_algebra.specs.Sorts.{Over, Row}
use Rattle.nova_pig_algebra.specs.Kinds.{nodes_over}
use Rattle.nova_pig_algebra.specs.Literals.{nodes_have_values}
use Rattle.nova_pig_algebra.specs.Keys.{facts}

-- the nodes, in the order of their statements; the number of the stored one; and the schemas of the inputs and of the output
pub record Plan : Type 0 where
  pub nodes : List Node
  pub stored : ℕ
  pub inputs : List Shape
  pub output : Shape

-- the plan of these parts
abbrev pub plan_with : List Node → ℕ → List Shape → Shape → Plan
plan_with nodes stored inputs output = record { nodes = nodes; stored = stored; inputs = inputs; output = output }

-- the kinds of the inputs
abbrev pub kinds_of_inputs : List Shape → List (List Kind)
kinds_of_inputs inputs = map (λ s. kinds s.columns) inputs

-- each node has kinds, and the stored one those of the output
pub record IsKinded (p : Plan) : Type 0 where
  pub all : List Over
  pub nodes : nodes_over (kinds_of_inputs p.inputs) [] p.nodes ≡ Some all
  pub stored : slice_get all p.stored ≡ Some (Row (kinds p.output.columns))

-- what each plan is: its references are in range, its nodes name earlier nodes, its kinds are right and its literals are values
pub record IsPlan (p : Plan) : Type 0 where
  pub kinded : IsKinded p
  pub literals : nodes_have_values p.nodes ≡ true

-- the stored node with all that it stands on
abbrev pub tree_of_plan : Plan → Tree
tree_of_plan p = tree_at (trees p.nodes) p.stored

-- the list of rows that a plan stores, of the inputs' tables
abbrev pub rows_of : Plan → List (List meaning.Row) → List meaning.Row
rows_of p tables = rows (tree_of_plan p) tables

-- the key columns of the plan, rising, or none
abbrev pub plan_key : Plan → Option (List ℕ)
plan_key p = (facts p.inputs (tree_of_plan p)).key
