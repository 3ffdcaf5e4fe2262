-- Expressions: what they are in a plan, and what they give.
use Rattle.std.specs.Prelude.{ℕ, zero, suc, ◌&&◌, if◌then◌else◌, List, [], ◌∷◌, Option, Some, None, Ok, Err}
use Rattle.nova_value.specs.declared.value.Kind.{Kind}
use Rattle.nova_value.specs.declared.value.Kind.TheVariants as kind
use Rattle.nova_pig_tree.specs.declared.expression.CallKind.{CallKind}
use Rattle.nova_pig_tree.specs.declared.expression.CallKind.TheVariants as call
use Rattle.nova_pig_tree.specs.declared.expression.Field.{Field}
use Rattle.nova_pig_tree.specs.declared.expression.Field.TheVariants as field
use Rattle.nova_pig_tree.specs.declared.expression.Expr.{Expr}
use Rattle.nova_pig_tree.specs.declared.expression.Expr.TheOpen.{Expr-F}
use Rattle.nova_pig_tree.specs.declared.expression.Expr.TheFolds.{fold-Expr}
use Rattle.nova_pig_algebra.specs.declared.node.PlanExpr.{PlanExpr}
use Rattle.nova_pig_algebra.specs.declared.node.PlanExpr.TheVariants as p
pub use Rattle.nova_pig_algebra.specs.Sorts.{long, is_long, is_condition, are_alike}
use Rattle.nova_pig_algebra.specs.declared.node.Sort.{Sort}
use Rattle.nova_pig_algebra.specs.declared.node.Sort.TheVariants.{Of, Condition}
use Rattle.nova_pig_plan.specs.declared.fault.Cause.TheVariants as fault
use Rattle.nova_pig_plan.specs.declared.scope.ScopeColumn.{ScopeColumn}
use Rattle.nova_pig_plan.specs.declared.scope.Scope.{Scope}
use Rattle.nova_pig_plan.specs.declared.scope.Scope.TheVariants.{Rows, Group}
use Rattle.nova_pig_plan.specs.declared.scope.Typed.{Typed}
use Rattle.nova_pig_plan.specs.Answers.{Answer, first, both, if_not}
use Rattle.nova_pig_plan.specs.Columns.{same_text, is_named, places, the_one, field_of, kind_at}

abbrev pub typed : PlanExpr → Sort → Typed
typed e s = record { expr = e; sort = s }

-- the name of a group's first column, as it is spelled
abbrev pub group_name : List ℕ
group_name = 103 ∷ 114 ∷ 111 ∷ 117 ∷ 112 ∷ []

-- a group by several columns isn't a value
abbrev pub whole_group : List ScopeColumn → Answer Typed
whole_group (c ∷ []) = Ok (typed (p.GroupColumn 0) (Of c.kind))
whole_group _ = Err fault.WrongType

abbrev pub group_place : List ScopeColumn → ℕ → Typed
group_place by k = typed (p.GroupColumn k) (Of (kind_at by k))

-- a reference over a group and outside a call
abbrev pub group_field : List ℕ → List ScopeColumn → Field → Answer Typed
group_field bag by (field.Plain name) = if same_text name group_name then whole_group by else if same_text name bag then Err fault.BagMisused else Err fault.UnknownField
group_field bag by (field.Of alias name) = Err fault.UnknownField
group_field bag by (field.GroupOf name) = first (the_one (places (is_named name) 0 by)) (λ k. Ok (group_place by k))
group_field bag by (field.At zero) = whole_group by
group_field bag by (field.At (suc zero)) = Err fault.BagMisused
group_field bag by (field.At (suc (suc n))) = Err fault.UnknownField

abbrev pub column_place : List ScopeColumn → ℕ → Typed
column_place cs k = typed (p.Column k) (Of (kind_at cs k))

abbrev pub ref_of : Scope → Field → Answer Typed
ref_of (Rows cs) f = first (field_of cs f) (λ k. Ok (column_place cs k))
ref_of (Group bag by cs) f = group_field bag by f

-- what a call gives of the bag, or of its column
abbrev pub bag_call : CallKind → Answer Typed
bag_call call.Count = Ok (typed (p.Agg call.Count None) long)
bag_call _ = Err fault.WrongType

abbrev pub column_call : CallKind → Kind → ℕ → Answer Typed
column_call call.Count k at = Ok (typed (p.Agg call.Count (Some at)) long)
column_call call.Sum kind.Long at = Ok (typed (p.Agg call.Sum (Some at)) long)
column_call call.Sum kind.Text at = Err fault.WrongType
column_call call.Min k at = Ok (typed (p.Agg call.Min (Some at)) (Of k))
column_call call.Max k at = Ok (typed (p.Agg call.Max (Some at)) (Of k))

abbrev pub call_field : List ScopeColumn → CallKind → Option Field → Answer Typed
call_field cs c None = bag_call c
call_field cs c (Some f) = first (field_of cs f) (λ k. column_call c (kind_at cs k) k)

-- BagMisused, then the call's field, then WrongType
abbrev pub call_of : Scope → CallKind → List ℕ → Option Field → Answer Typed
call_of (Rows cs) c alias f = Err fault.BagMisused
call_of (Group bag by cs) c alias f = if same_text alias bag then call_field cs c f else Err fault.BagMisused

-- WrongType: kinds break the rules
abbrev pub longs : (PlanExpr → PlanExpr → PlanExpr) → Typed → Typed → Answer Typed
longs op x y = if_not fault.WrongType (is_long x.sort && is_long y.sort) (typed (op x.expr y.expr) long)

abbrev pub conditions : (PlanExpr → PlanExpr → PlanExpr) → Typed → Typed → Answer Typed
conditions op x y = if_not fault.WrongType (is_condition x.sort && is_condition y.sort) (typed (op x.expr y.expr) Condition)

abbrev pub alike : (PlanExpr → PlanExpr → PlanExpr) → Typed → Typed → Answer Typed
alike op x y = if_not fault.WrongType (are_alike x.sort y.sort) (typed (op x.expr y.expr) Condition)

abbrev pub minus : Typed → Answer Typed
minus x = if_not fault.WrongType (is_long x.sort) (typed (p.Neg x.expr) long)

abbrev pub negated : Typed → Answer Typed
negated x = if_not fault.WrongType (is_condition x.sort) (typed (p.Not x.expr) Condition)

abbrev pub choice : Typed → Typed → Typed → Answer Typed
choice c x y = if_not fault.WrongType (is_condition c.sort && are_alike x.sort y.sort) (typed (p.If c.expr x.expr y.expr) x.sort)

-- the parts from left to right, then the expression
abbrev pub expr_step : Scope → Expr-F (Answer Typed) → Answer Typed
expr_step s (Expr-F.Num n) = Ok (typed (p.Num n) long)
expr_step s (Expr-F.Lit t) = Ok (typed (p.Lit t) (Of kind.Text))
expr_step s (Expr-F.Ref f) = ref_of s f
expr_step s (Expr-F.Call c alias f) = call_of s c alias f
expr_step s (Expr-F.Neg a) = first a minus
expr_step s (Expr-F.Add a b) = both a b (longs p.Add)
expr_step s (Expr-F.Sub a b) = both a b (longs p.Sub)
expr_step s (Expr-F.Mul a b) = both a b (longs p.Mul)
expr_step s (Expr-F.Compare op a b) = both a b (alike (p.Compare op))
expr_step s (Expr-F.And a b) = both a b (conditions p.And)
expr_step s (Expr-F.Or a b) = both a b (conditions p.Or)
expr_step s (Expr-F.Not a) = first a negated
expr_step s (Expr-F.If c a b) = first c (λ z. both a b (choice z))

unfoldable pub expr_of : Scope → Expr → Answer Typed
expr_of s = fold-Expr (Answer Typed) (expr_step s)
