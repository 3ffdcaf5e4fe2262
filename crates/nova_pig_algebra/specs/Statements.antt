-- What the laws of this crate say. Each is the contract of a function of `laws`.
use Rattle.std.specs.Prelude.{◌≡◌, ◌⊎◌, ℕ, suc, ◌<◌, ◌≤◌, List, [], ◌∷◌, length, Some, slice_get}
use Rattle.std.specs.List.{AllByRecursion}
use Rattle.nova_value.specs.declared.value.Value.{Value}
use Rattle.nova_value.specs.declared.value.Kind.{Kind}
use Rattle.nova_value.specs.Rows.{Shape, IsShape, FitKinds, FitsRow, value_at, key_at}
use Rattle.nova_pig_algebra.specs.declared.node.PlanExpr.{PlanExpr}
use Rattle.nova_pig_algebra.specs.declared.node.Node.{Node}
use Rattle.nova_pig_algebra.specs.Meaning.{Row, Calls, value_of, holds, calls}
use Rattle.nova_pig_algebra.specs.Tree.{tree_at, trees, rows}
use Rattle.nova_pig_algebra.specs.Sorts.{Over, Row as OverRows}
use Rattle.nova_pig_algebra.specs.Kinds.{nodes_over}
use Rattle.nova_pig_algebra.specs.Keys.{constant_at, facts}
use Rattle.nova_pig_algebra.specs.Nodes.{node_tree}
use Rattle.nova_pig_algebra.specs.Plan.{Plan, IsKinded, IsPlan, kinds_of_inputs, rows_of, plan_key}

-- x is one of them
abbrev pub In : {X : Type 0} → X → List X → Type 0
In x [] = ⊥
In x (y ∷ ys) = (x ≡ y) ⊎ In x ys

-- P holds of each
abbrev pub Every : {X : Type 0} → (X → Type 0) → List X → Type 0
Every P [] = Unit {0}
Every P (x ∷ xs) = P x × Every P xs

-- R holds of each and each later one
abbrev pub Apart : {X : Type 0} → (X → X → Type 0) → List X → Type 0
Apart R [] = Unit {0}
Apart R (x ∷ xs) = Every (R x) xs × Apart R xs

-- no two places hold rows that are equal at these columns
abbrev pub Keyed : List ℕ → List Row → Type 0
Keyed key rows = Apart (λ a b. key_at key a ≡ key_at key b → ⊥) rows

-- the rows of a table of the schema: they fit, and no two have one key
pub record AreRowsOf (s : Shape) (rows : List Row) : Type 0 where
  pub fit : (row : Row) → In row rows → FitsRow s row
  pub keyed : Keyed s.key rows

-- a table for each of these schemas
abbrev pub AreTables : List Shape → List (List Row) → Type 0
AreTables [] [] = Unit {0}
AreTables [] (rows ∷ tables) = ⊥
AreTables (s ∷ inputs) [] = ⊥
AreTables (s ∷ inputs) (rows ∷ tables) = AreRowsOf s rows × AreTables inputs tables

-- a plan with a key has no two rows that are equal at it, for all tables of the input schemas
abbrev pub KeysTellRowsApart : Type 0
KeysTellRowsApart = (p : Plan) → IsKinded p → (key : List ℕ) → plan_key p ≡ Some key
    → (tables : List (List Row)) → AreTables p.inputs tables → Keyed key (rows_of p tables)

-- nor has a node of it
abbrev pub NodeKeysTellRowsApart : Type 0
NodeKeysTellRowsApart = (p : Plan) → IsKinded p → (k : ℕ) (key : List ℕ) → (facts p.inputs (tree_at (trees p.nodes) k)).key ≡ Some key
    → (tables : List (List Row)) → AreTables p.inputs tables → Keyed key (rows (tree_at (trees p.nodes) k) tables)

-- rising columns: the first is this one or a later one, each is below the next, and all are below the width
abbrev pub RisingColumns : ℕ → ℕ → List ℕ → Type 0
RisingColumns from width [] = Unit {0}
RisingColumns from width (k ∷ ks) = (from ≤ k) × (k < width) × RisingColumns (suc k) width ks

-- the key of a node is a rising list of its columns, so two keys are one set where they are one list
abbrev pub KeysRise : Type 0
KeysRise = (p : Plan) → Every IsShape p.inputs → (k : ℕ) (key : List ℕ) → (facts p.inputs (tree_at (trees p.nodes) k)).key ≡ Some key
    → RisingColumns 0 (length (facts p.inputs (tree_at (trees p.nodes) k)).constants) key

-- a constant column has its value in each row of its node, for all tables of the input schemas
abbrev pub ConstantsHold : Type 0
ConstantsHold = (p : Plan) → IsKinded p → (k column : ℕ) (v : Value) → constant_at (facts p.inputs (tree_at (trees p.nodes) k)).constants column ≡ Some v
    → (tables : List (List Row)) → AreTables p.inputs tables → (row : Row) → In row (rows (tree_at (trees p.nodes) k) tables) → value_at row column ≡ v

-- the tree of a node is made of the trees of the nodes that it names, which stand before it
abbrev pub TreesOfNodes : Type 0
TreesOfNodes = (nodes : List Node) (k : ℕ) → tree_at (trees nodes) k ≡ node_tree nodes k (slice_get nodes k)

-- each row fits the schema
abbrev pub AllFit : Shape → List Row → Type 0
AllFit s rows = (row : Row) → In row rows → FitsRow s row

-- rows for each of these schemas, which fit
abbrev pub TablesFit : List Shape → List (List Row) → Type 0
TablesFit [] [] = Unit {0}
TablesFit [] (rows ∷ tables) = ⊥
TablesFit (s ∷ inputs) [] = ⊥
TablesFit (s ∷ inputs) (rows ∷ tables) = AllFit s rows × TablesFit inputs tables

-- the rows of a plan fit its output, over all tables of the input schemas
abbrev pub RowsFitTheirKinds : Type 0
RowsFitTheirKinds = (p : Plan) → IsPlan p → (tables : List (List Row)) → AreTables p.inputs tables → AllFit p.output (rows_of p tables)

-- the rows of each node that gives rows have its kinds, over all rows that fit the input schemas
abbrev pub NodesFitTheirKinds : Type 0
NodesFitTheirKinds = (p : Plan) → IsPlan p → (all : List Over) → nodes_over (kinds_of_inputs p.inputs) [] p.nodes ≡ Some all
    → (tables : List (List Row)) → TablesFit p.inputs tables
    → (k : ℕ) (ks : List Kind) → slice_get all k ≡ Some (OverRows ks) → (row : Row) → In row (rows (tree_at (trees p.nodes) k) tables) → FitKinds ks row

-- an expression depends only on what the calls that stand in it give
abbrev pub DependsOnItsCalls : Type 0
DependsOnItsCalls = (x : PlanExpr) (row : Row) (f g : Calls) → AllByRecursion (λ c. f c ≡ g c) (calls x)
    → (value_of x row f ≡ value_of x row g) × (holds x row f ≡ holds x row g)
