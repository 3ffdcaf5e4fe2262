-- Plans whose nodes have kinds, by the plan alone: references are in range, nodes name earlier nodes, kinds are right.
use Rattle.std.specs.Prelude.{ℕ, Bool, true, false, ◌&&◌, if◌then◌else◌, List, [], ◌∷◌, ◌++◌, Option, Some, None, slice_get}
use Rattle.nova_value.specs.declared.value.Kind.{Kind}
use Rattle.nova_value.specs.declared.value.Kind.TheVariants as kind
use Rattle.nova_pig_algebra.specs.declared.node.PlanExpr.{PlanExpr}
use Rattle.nova_pig_algebra.specs.declared.node.Node.{Node}
use Rattle.nova_pig_algebra.specs.declared.node.Node.TheVariants as node
use Rattle.nova_pig_algebra.specs.declared.node.Sort.{Sort}
use Rattle.nova_pig_algebra.specs.declared.node.Sort.TheVariants.{Of}
use Rattle.nova_pig_algebra.specs.Sorts.{Over, Row, Bag, has, is_condition, sort_of}

-- whether both are one kind
abbrev pub same_kind : Kind → Kind → Bool
same_kind kind.Long kind.Long = true
same_kind kind.Text kind.Text = true
same_kind kind.Long kind.Text = false
same_kind kind.Text kind.Long = false

-- the kind of a value, in front of others
abbrev pub with_kind : Option Sort → Option (List Kind) → Option (List Kind)
with_kind (Some (Of k)) (Some ks) = Some (k ∷ ks)
with_kind _ _ = None

-- the kinds of items, where each is a value
abbrev pub item_kinds : Over → List PlanExpr → Option (List Kind)
item_kinds o [] = Some []
item_kinds o (e ∷ es) = with_kind (sort_of o e) (item_kinds o es)

-- a kind in front of others, where all are there
abbrev pub and_kind : Option Kind → Option (List Kind) → Option (List Kind)
and_kind (Some k) (Some ks) = Some (k ∷ ks)
and_kind _ _ = None

-- the kinds at these places, where each is in range
abbrev pub kinds_at : List Kind → List ℕ → Option (List Kind)
kinds_at ks [] = Some []
kinds_at ks (c ∷ cs) = and_kind (slice_get ks c) (kinds_at ks cs)

-- rows of these kinds
abbrev pub as_rows : Option (List Kind) → Option Over
as_rows (Some ks) = Some (Row ks)
as_rows None = None

-- groups by these kinds, of rows of those
abbrev pub as_bag : List Kind → Option (List Kind) → Option Over
as_bag ks (Some by) = Some (Bag by ks)
as_bag ks None = None

-- FILTER over rows, by a condition
abbrev pub filter_over : PlanExpr → Option Over → Option Over
filter_over cond (Some (Row ks)) = if has is_condition (sort_of (Row ks) cond) then Some (Row ks) else None
filter_over cond _ = None

-- FOREACH over rows or groups gives rows
abbrev pub foreach_over : List PlanExpr → Option Over → Option Over
foreach_over items (Some o) = as_rows (item_kinds o items)
foreach_over items None = None

-- GROUP of rows by columns in range
abbrev pub group_over : List ℕ → Option Over → Option Over
group_over by (Some (Row ks)) = as_bag ks (kinds_at ks by)
group_over by _ = None

-- DISTINCT of rows
abbrev pub distinct_over : Option Over → Option Over
distinct_over (Some (Row ks)) = Some (Row ks)
distinct_over _ = None

-- whether both are there, with the same kinds
abbrev pub same_list : Option (List Kind) → Option (List Kind) → Bool
same_list (Some []) (Some []) = true
same_list (Some (k ∷ ks)) (Some (j ∷ js)) = same_kind k j && same_list (Some ks) (Some js)
same_list _ _ = false

-- JOIN of rows by columns of the same kinds
abbrev pub join_over : List ℕ → List ℕ → Option Over → Option Over → Option Over
join_over lb rb (Some (Row ks)) (Some (Row js)) = if same_list (kinds_at ks lb) (kinds_at js rb) then Some (Row (ks ++ js)) else None
join_over lb rb _ _ = None

-- rows of these kinds
abbrev pub are_rows : List Kind → Option Over → Bool
are_rows ks (Some (Row js)) = same_list (Some ks) (Some js)
are_rows ks _ = false

-- arms that are rows of these kinds
abbrev pub all_rows : List Over → List Kind → List ℕ → Bool
all_rows done ks [] = true
all_rows done ks (a ∷ arms) = are_rows ks (slice_get done a) && all_rows done ks arms

-- UNION of rows of the same kinds
abbrev pub union_over : List Over → List ℕ → Option Over → Option Over
union_over done arms (Some (Row ks)) = if all_rows done ks arms then Some (Row ks) else None
union_over done arms _ = None

-- what a node gives, of the kinds of the inputs and of the earlier nodes
abbrev pub node_over : List (List Kind) → List Over → Node → Option Over
node_over inputs done (node.Load i) = as_rows (slice_get inputs i)
node_over inputs done (node.Filter from cond) = filter_over cond (slice_get done from)
node_over inputs done (node.Foreach from items) = foreach_over items (slice_get done from)
node_over inputs done (node.Group from by) = group_over by (slice_get done from)
node_over inputs done (node.Join l lb r rb) = join_over lb rb (slice_get done l) (slice_get done r)
node_over inputs done (node.Union []) = Some (Row [])
node_over inputs done (node.Union (a ∷ arms)) = union_over done (a ∷ arms) (slice_get done a)
node_over inputs done (node.Distinct from) = distinct_over (slice_get done from)

abbrev pub and_then : {A B : Type 0} → Option A → (A → Option B) → Option B
and_then (Some x) next = next x
and_then None next = None

-- what the nodes give from the left, where each has kinds
abbrev pub nodes_over : List (List Kind) → List Over → List Node → Option (List Over)
nodes_over inputs done [] = Some done
nodes_over inputs done (n ∷ nodes) = and_then (node_over inputs done n) (λ o. nodes_over inputs (done ++ o ∷ []) nodes)
