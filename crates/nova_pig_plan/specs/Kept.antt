-- The items of a FOREACH as the planner keeps them: of more columns than an alias may have, one too many.
use Rattle.std.specs.Prelude.{ℕ, suc, Bool, nat_lt, if◌then◌else◌, List, [], ◌∷◌, length, Option, Some, None, Ok, Err}
use Rattle.nova_value.specs.declared.value.Kind.{Kind}
use Rattle.nova_pig_tree.specs.declared.statement.Item.{Item}
use Rattle.nova_pig_tree.specs.declared.statement.Item.TheVariants as item
use Rattle.nova_pig_tree.specs.declared.expression.Expr.{Expr}
use Rattle.nova_pig_algebra.specs.declared.node.PlanExpr.{PlanExpr}
use Rattle.nova_pig_algebra.specs.declared.node.PlanExpr.TheVariants as p
use Rattle.nova_pig_algebra.specs.declared.node.Node.TheVariants as node
use Rattle.nova_pig_plan.specs.declared.fault.Cause.TheVariants as fault
use Rattle.nova_pig_plan.specs.declared.scope.ScopeColumn.{ScopeColumn}
use Rattle.nova_pig_plan.specs.declared.scope.Scope.{Scope}
use Rattle.nova_pig_plan.specs.declared.scope.Scope.TheVariants.{Rows, Group}
use Rattle.nova_pig_plan.specs.declared.scope.Made.{Made}
use Rattle.nova_pig_plan.specs.declared.scope.Defined.{Defined}
use Rattle.nova_pig_plan.specs.Answers.{Answer, first}
use Rattle.nova_pig_plan.specs.Exprs.{group_name, expr_of}
use Rattle.nova_pig_plan.specs.Items as all
use Rattle.nova_pig_plan.specs.Plans.{Aliases, known, defined}

-- more columns than an alias may have
abbrev pub is_wide : Made → Bool
is_wide made = nat_lt 64 (length made.columns)

abbrev pub with_item : Made → PlanExpr → ScopeColumn → Made
with_item made e c = if is_wide made then made else all.with_item made e c

abbrev pub with_all : ℕ → Made → List ScopeColumn → Made
with_all n made [] = made
with_all n made (c ∷ cs) = if is_wide made then made else with_all (suc n) (with_item made (p.Column n) c) cs

abbrev pub with_flat : ℕ → Made → List ScopeColumn → Made
with_flat n made [] = made
with_flat n made (c ∷ cs) = if is_wide made then made else with_flat (suc n) (with_item made (p.GroupColumn n) (all.column_with c.kind c.name (Some group_name))) cs

abbrev pub flattened : Made → List ScopeColumn → Made
flattened made (c ∷ []) = with_item made (p.GroupColumn 0) (all.column_with c.kind (Some group_name) None)
flattened made cs = with_flat 0 made cs

abbrev pub value_of : Scope → Made → Expr → Option (List ℕ) → Option Kind → Answer Made
value_of s made x name k = first (expr_of s x) (λ t. first (all.value_kind t.sort k) (λ j. Ok (with_item made t.expr (all.with_kind j (all.item_label s name x)))))

abbrev pub item_of : Scope → Made → Item → Answer Made
item_of (Rows cs) made item.All = Ok (with_all 0 made cs)
item_of (Group bag by cs) made item.All = Err fault.BagMisused
item_of (Rows cs) made item.Flatten = Err fault.BagMisused
item_of (Group bag by cs) made item.Flatten = Ok (flattened made by)
item_of s made (item.Value x name k) = value_of s made x name k

abbrev pub items_of : Scope → Made → List Item → Answer Made
items_of s made [] = Ok made
items_of s made (i ∷ is) = first (item_of s made i) (λ m. items_of s m is)

abbrev pub foreach : Aliases → List ℕ → List Item → Answer Defined
foreach done from items = first (known done from) (λ k. first (items_of k.1 all.nothing items) (λ m. defined (node.Foreach k.0 m.exprs) m.columns))
