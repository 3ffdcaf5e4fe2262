-- The kinds of expressions, by the plan alone.
use Rattle.std.specs.Prelude.{ℕ, Bool, true, false, ◌&&◌, List, Option, Some, None, slice_get}
use Rattle.nova_value.specs.declared.value.Kind.{Kind}
use Rattle.nova_value.specs.declared.value.Kind.TheVariants as kind
use Rattle.nova_pig_tree.specs.declared.expression.CallKind.{CallKind}
use Rattle.nova_pig_tree.specs.declared.expression.CallKind.TheVariants as call
use Rattle.nova_pig_algebra.specs.declared.node.PlanExpr.{PlanExpr}
use Rattle.nova_pig_algebra.specs.declared.node.PlanExpr.TheOpen.{PlanExpr-F}
use Rattle.nova_pig_algebra.specs.declared.node.PlanExpr.TheFolds.{fold-PlanExpr}
use Rattle.nova_pig_algebra.specs.declared.node.Sort.{Sort}
use Rattle.nova_pig_algebra.specs.declared.node.Sort.TheVariants.{Of, Condition}

-- what an expression stands over: rows of these kinds; or groups of these BY kinds, of rows of these kinds
pub data Over : Type 0 where
  Row : List Kind → Over
  Bag : List Kind → List Kind → Over

-- a long value
abbrev pub long : Sort
long = Of kind.Long

-- whether it is a long value
abbrev pub is_long : Sort → Bool
is_long (Of kind.Long) = true
is_long (Of kind.Text) = false
is_long Condition = false

-- whether it is a condition
abbrev pub is_condition : Sort → Bool
is_condition (Of k) = false
is_condition Condition = true

-- two values of one kind
abbrev pub are_alike : Sort → Sort → Bool
are_alike (Of kind.Long) (Of kind.Long) = true
are_alike (Of kind.Text) (Of kind.Text) = true
are_alike _ _ = false

-- a value of the kind, where there is one
abbrev pub of_kind : Option Kind → Option Sort
of_kind None = None
of_kind (Some k) = Some (Of k)

-- the sort, where the test holds
abbrev pub when : Bool → Sort → Option Sort
when true s = Some s
when false s = None

-- a sort that passes
abbrev pub has : (Sort → Bool) → Option Sort → Bool
has test None = false
has test (Some s) = test s

-- two sorts that pass
abbrev pub are : (Sort → Sort → Bool) → Option Sort → Option Sort → Bool
are test None o = false
are test (Some s) None = false
are test (Some s) (Some r) = test s r

-- the sort of both choices, where the test holds
abbrev pub chosen : Bool → Option Sort → Option Sort
chosen true o = o
chosen false o = None

-- a column, over rows alone
abbrev pub col_sort : Over → ℕ → Option Sort
col_sort (Row ks) k = of_kind (slice_get ks k)
col_sort (Bag by ks) k = None

-- a BY value, over groups alone
abbrev pub group_sort : Over → ℕ → Option Sort
group_sort (Row ks) k = None
group_sort (Bag by ks) k = of_kind (slice_get by k)

-- a call of a column: COUNT and SUM are longs, SUM of longs alone, and MIN and MAX have the kind of the column
abbrev pub column_agg : CallKind → Option Kind → Option Sort
column_agg c None = None
column_agg call.Count (Some k) = Some long
column_agg call.Sum (Some kind.Long) = Some long
column_agg call.Sum (Some kind.Text) = None
column_agg call.Min (Some k) = Some (Of k)
column_agg call.Max (Some k) = Some (Of k)

-- a call of the bag: COUNT alone
abbrev pub bag_agg : CallKind → Option Sort
bag_agg call.Count = Some long
bag_agg _ = None

-- a call, over groups alone
abbrev pub agg_sort : Over → CallKind → Option ℕ → Option Sort
agg_sort (Row ks) c o = None
agg_sort (Bag by ks) c None = bag_agg c
agg_sort (Bag by ks) c (Some k) = column_agg c (slice_get ks k)

-- an operation on two longs
abbrev pub long_sort : Option Sort → Option Sort → Option Sort
long_sort a b = when (has is_long a && has is_long b) long

-- an operation on two conditions
abbrev pub condition_sort : Option Sort → Option Sort → Option Sort
condition_sort a b = when (has is_condition a && has is_condition b) Condition

-- each variant, by the sorts of its parts
abbrev pub sort_step : Over → PlanExpr-F (Option Sort) → Option Sort
sort_step o (PlanExpr-F.Num n) = Some long
sort_step o (PlanExpr-F.Lit t) = Some (Of kind.Text)
sort_step o (PlanExpr-F.Column k) = col_sort o k
sort_step o (PlanExpr-F.GroupColumn k) = group_sort o k
sort_step o (PlanExpr-F.Agg c column) = agg_sort o c column
sort_step o (PlanExpr-F.Neg a) = when (has is_long a) long
sort_step o (PlanExpr-F.Add a b) = long_sort a b
sort_step o (PlanExpr-F.Sub a b) = long_sort a b
sort_step o (PlanExpr-F.Mul a b) = long_sort a b
sort_step o (PlanExpr-F.Compare op a b) = when (are are_alike a b) Condition
sort_step o (PlanExpr-F.And a b) = condition_sort a b
sort_step o (PlanExpr-F.Or a b) = condition_sort a b
sort_step o (PlanExpr-F.Not a) = when (has is_condition a) Condition
sort_step o (PlanExpr-F.If c a b) = chosen (has is_condition c && are are_alike a b) a

-- what an expression gives, where its kinds are right and its references are in range
unfoldable pub sort_of : Over → PlanExpr → Option Sort
sort_of o = fold-PlanExpr (Option Sort) (sort_step o)
