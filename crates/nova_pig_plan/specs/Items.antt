-- The items of a FOREACH: what they make, and how it is named.
use Rattle.std.specs.Prelude.{ℕ, suc, List, [], ◌∷◌, ◌++◌, Option, Some, None, Ok, Err, slice_index_or}
use Rattle.nova_value.specs.declared.value.Kind.{Kind}
use Rattle.nova_value.specs.declared.value.Kind.TheVariants as kind
use Rattle.nova_pig_plan.specs.Layer.{Layer}
use Rattle.nova_pig_tree.specs.declared.expression.Field.{Field}
use Rattle.nova_pig_tree.specs.declared.expression.Field.TheVariants as field
use Rattle.nova_pig_tree.specs.declared.statement.Item.{Item}
use Rattle.nova_pig_tree.specs.declared.statement.Item.TheVariants as item
use Rattle.nova_pig_tree.specs.declared.expression.Expr.{Expr}
use Rattle.nova_pig_tree.specs.declared.expression.Expr.TheOpen.{Expr-F}
use Rattle.nova_pig_tree.specs.declared.expression.Expr.TheViews.{out-Expr}
use Rattle.nova_pig_algebra.specs.declared.node.PlanExpr.{PlanExpr}
use Rattle.nova_pig_algebra.specs.declared.node.PlanExpr.TheVariants as p
use Rattle.nova_pig_algebra.specs.declared.node.Sort.{Sort}
use Rattle.nova_pig_algebra.specs.declared.node.Sort.TheVariants.{Of, Condition}
pub use Rattle.nova_pig_algebra.specs.Kinds.{same_kind}
use Rattle.nova_pig_plan.specs.declared.fault.Cause.TheVariants as fault
use Rattle.nova_pig_plan.specs.declared.scope.ScopeColumn.{ScopeColumn}
use Rattle.nova_pig_plan.specs.declared.scope.Scope.{Scope}
use Rattle.nova_pig_plan.specs.declared.scope.Scope.TheVariants.{Rows, Group}
use Rattle.nova_pig_plan.specs.declared.scope.Made.{Made}
use Rattle.nova_pig_plan.specs.Answers.{Answer, first, if_not}
use Rattle.nova_pig_plan.specs.Columns.{field_of}
use Rattle.nova_pig_plan.specs.Exprs.{group_name, expr_of}

abbrev pub column_with : Kind → Option (List ℕ) → Option (List ℕ) → ScopeColumn
column_with k name origin = record { kind = k; name = name; origin = origin }

abbrev pub unnamed : ScopeColumn
unnamed = column_with kind.Long None None

abbrev pub column_at : List ScopeColumn → ℕ → ScopeColumn
column_at cs k = slice_index_or cs k unnamed

abbrev pub column_meant : List ScopeColumn → Answer ℕ → ScopeColumn
column_meant cs (Ok k) = column_at cs k
column_meant cs (Err c) = unnamed

-- a field alone keeps its name and origin
abbrev pub field_label : Scope → Field → ScopeColumn
field_label (Rows cs) f = column_meant cs (field_of cs f)
field_label (Group bag by cs) (field.GroupOf name) = column_with kind.Long (Some name) None
field_label (Group bag by cs) _ = column_with kind.Long (Some group_name) None

abbrev pub layer_label : Scope → Layer → ScopeColumn
layer_label s (Expr-F.Ref f) = field_label s f
layer_label s _ = unnamed

-- AS names an item, without origin
abbrev pub item_label : Scope → Option (List ℕ) → Expr → ScopeColumn
item_label s (Some name) x = column_with kind.Long (Some name) None
item_label s None x = layer_label s (out-Expr x)

-- WrongType: an item is no value, or the kind after AS isn't its own
abbrev pub value_kind : Sort → Option Kind → Answer Kind
value_kind Condition o = Err fault.WrongType
value_kind (Of k) None = Ok k
value_kind (Of k) (Some j) = if_not fault.WrongType (same_kind k j) k

abbrev pub with_kind : Kind → ScopeColumn → ScopeColumn
with_kind k label = column_with k label.name label.origin

abbrev pub with_item : Made → PlanExpr → ScopeColumn → Made
with_item made e c = record { exprs = made.exprs ++ e ∷ []; columns = made.columns ++ c ∷ [] }

-- the columns as they stand, from place n on
abbrev pub with_all : ℕ → Made → List ScopeColumn → Made
with_all n made [] = made
with_all n made (c ∷ cs) = with_all (suc n) (with_item made (p.Column n) c) cs

-- the BY columns from place n on, with the origin `group`
abbrev pub with_flat : ℕ → Made → List ScopeColumn → Made
with_flat n made [] = made
with_flat n made (c ∷ cs) = with_flat (suc n) (with_item made (p.GroupColumn n) (column_with c.kind c.name (Some group_name))) cs

abbrev pub flattened : Made → List ScopeColumn → Made
flattened made (c ∷ []) = with_item made (p.GroupColumn 0) (column_with c.kind (Some group_name) None)
flattened made cs = with_flat 0 made cs

abbrev pub value_of : Scope → Made → Expr → Option (List ℕ) → Option Kind → Answer Made
value_of s made x name k = first (expr_of s x) (λ t. first (value_kind t.sort k) (λ j. Ok (with_item made t.expr (with_kind j (item_label s name x)))))

abbrev pub nothing : Made
nothing = record { exprs = []; columns = [] }

-- BagMisused: `*` over a group, FLATTEN(group) over rows
abbrev pub item_of : Scope → Made → Item → Answer Made
item_of (Rows cs) made item.All = Ok (with_all 0 made cs)
item_of (Group bag by cs) made item.All = Err fault.BagMisused
item_of (Rows cs) made item.Flatten = Err fault.BagMisused
item_of (Group bag by cs) made item.Flatten = Ok (flattened made by)
item_of s made (item.Value x name k) = value_of s made x name k

abbrev pub items_of : Scope → Made → List Item → Answer Made
items_of s made [] = Ok made
items_of s made (i ∷ is) = first (item_of s made i) (λ m. items_of s m is)
