-- What an expression and an item are in the plan, one case for each rule of kinds, and their first
-- fault: the parts from left to right, then the whole.
use Rattle.std.specs.Prelude.{◌≡◌, ◌≢◌, ℕ, suc, ℤ, List, [], ◌∷◌, ◌++◌, map, length, Option, Some, None}
use Rattle.nova_value.specs.declared.value.Kind.{Kind}
use Rattle.nova_value.specs.declared.value.Kind.TheVariants as kind
use Rattle.nova_pig_tree.specs.declared.expression.CallKind.{CallKind}
use Rattle.nova_pig_tree.specs.declared.expression.CompareOp.{CompareOp}
use Rattle.nova_pig_tree.specs.declared.expression.Field.{Field}
use Rattle.nova_pig_tree.specs.declared.expression.Field.TheVariants as field
use Rattle.nova_pig_tree.specs.declared.expression.Expr.{Expr}
use Rattle.nova_pig_tree.specs.declared.expression.Expr.TheVariants as e
use Rattle.nova_pig_tree.specs.declared.statement.Item.{Item}
use Rattle.nova_pig_tree.specs.declared.statement.Item.TheVariants as item
use Rattle.nova_pig_algebra.specs.declared.node.PlanExpr.{PlanExpr}
use Rattle.nova_pig_algebra.specs.declared.node.PlanExpr.TheVariants as p
use Rattle.nova_pig_algebra.specs.declared.node.Sort.{Sort}
use Rattle.nova_pig_algebra.specs.declared.node.Sort.TheVariants.{Of, Condition}
use Rattle.nova_pig_plan.specs.declared.fault.Cause.{Cause}
use Rattle.nova_pig_plan.specs.declared.fault.Cause.TheVariants.{WrongType, BagMisused}
use Rattle.nova_pig_plan.specs.declared.scope.ScopeColumn.{ScopeColumn}
use Rattle.nova_pig_plan.specs.declared.scope.Scope.{Scope}
use Rattle.nova_pig_plan.specs.declared.scope.Scope.TheVariants.{Rows, Group}
use Rattle.nova_pig_plan.specs.Exprs.{long, group_name}
use Rattle.nova_pig_plan.specs.Items.{column_with}
use Rattle.nova_pig_forms.specs.References.{Names, Refers, RefFails, Calls, CallFails}

-- the operators with two sides
pub data Operator : Type 0 where
  Add : Operator
  Sub : Operator
  Mul : Operator
  Compare : CompareOp → Operator
  And : Operator
  Or : Operator

abbrev pub tree : Operator → Expr → Expr → Expr
tree Add = e.Add
tree Sub = e.Sub
tree Mul = e.Mul
tree (Compare op) = e.Compare op
tree And = e.And
tree Or = e.Or

abbrev pub planned : Operator → PlanExpr → PlanExpr → PlanExpr
planned Add = p.Add
planned Sub = p.Sub
planned Mul = p.Mul
planned (Compare op) = p.Compare op
planned And = p.And
planned Or = p.Or

-- what the sides have to be, and what they give: `+ - *` take and give long; comparisons take two longs or two
-- texts and give a condition; AND and OR take conditions
pub data Takes : Operator → Sort → Sort → Sort → Type 0 where
  sum : Takes Add long long long
  difference : Takes Sub long long long
  product : Takes Mul long long long
  longs : {op : CompareOp} → Takes (Compare op) long long Condition
  texts : {op : CompareOp} → Takes (Compare op) (Of kind.Text) (Of kind.Text) Condition
  conjunction : Takes And Condition Condition Condition
  disjunction : Takes Or Condition Condition Condition

-- an expression is this one of the plan, and gives a value of a kind or a condition
pub data Resolves (s : Scope) : Expr → PlanExpr → Sort → Type 0 where
  number : {n : ℤ} → Resolves s (e.Num n) (p.Num n) long
  literal : {t : List ℕ} → Resolves s (e.Lit t) (p.Lit t) (Of kind.Text)
  reference : {f : Field} {x : PlanExpr} {c : ScopeColumn} → Refers s f x c → Resolves s (e.Ref f) x (Of c.kind)
  called : {k : CallKind} {alias : List ℕ} {f : Option Field} {x : PlanExpr} {r : Sort} → Calls s k alias f x r → Resolves s (e.Call k alias f) x r
  minus : {a : Expr} {x : PlanExpr} → Resolves s a x long → Resolves s (e.Neg a) (p.Neg x) long
  negation : {a : Expr} {x : PlanExpr} → Resolves s a x Condition → Resolves s (e.Not a) (p.Not x) Condition
  operation : (op : Operator) {a b : Expr} {x y : PlanExpr} {i j r : Sort} → Resolves s a x i → Resolves s b y j → Takes op i j r
      → Resolves s (tree op a b) (planned op x y) r
  -- the front of `?` is a condition, and its other parts are values of one kind
  choice : {c a b : Expr} {z x y : PlanExpr} {k : Kind} → Resolves s c z Condition → Resolves s a x (Of k) → Resolves s b y (Of k)
      → Resolves s (e.If c a b) (p.If z x y) (Of k)

-- the first fault of an expression
pub data ExprFails (s : Scope) : Expr → Cause → Type 0 where
  reference : {f : Field} {cause : Cause} → RefFails s f cause → ExprFails s (e.Ref f) cause
  called : {k : CallKind} {alias : List ℕ} {f : Option Field} {cause : Cause} → CallFails s k alias f cause → ExprFails s (e.Call k alias f) cause
  -- a part, where those before it have none
  in_minus : {a : Expr} {cause : Cause} → ExprFails s a cause → ExprFails s (e.Neg a) cause
  in_negation : {a : Expr} {cause : Cause} → ExprFails s a cause → ExprFails s (e.Not a) cause
  on_left : (op : Operator) {a : Expr} (b : Expr) {cause : Cause} → ExprFails s a cause → ExprFails s (tree op a b) cause
  on_right : (op : Operator) {a b : Expr} {x : PlanExpr} {i : Sort} {cause : Cause} → Resolves s a x i → ExprFails s b cause → ExprFails s (tree op a b) cause
  in_front : {c : Expr} (a b : Expr) {cause : Cause} → ExprFails s c cause → ExprFails s (e.If c a b) cause
  in_first : {c a : Expr} (b : Expr) {z : PlanExpr} {h : Sort} {cause : Cause} → Resolves s c z h → ExprFails s a cause → ExprFails s (e.If c a b) cause
  in_second : {c a b : Expr} {z x : PlanExpr} {h i : Sort} {cause : Cause} → Resolves s c z h → Resolves s a x i → ExprFails s b cause → ExprFails s (e.If c a b) cause
  -- no part has a fault, and kinds break the rules
  minus : {a : Expr} {x : PlanExpr} {i : Sort} → Resolves s a x i → i ≢ long → ExprFails s (e.Neg a) WrongType
  negation : {a : Expr} {x : PlanExpr} {i : Sort} → Resolves s a x i → i ≢ Condition → ExprFails s (e.Not a) WrongType
  operation : (op : Operator) {a b : Expr} {x y : PlanExpr} {i j : Sort} → Resolves s a x i → Resolves s b y j → ((r : Sort) → Takes op i j r → ⊥)
      → ExprFails s (tree op a b) WrongType
  choice : {c a b : Expr} {z x y : PlanExpr} {h i j : Sort} → Resolves s c z h → Resolves s a x i → Resolves s b y j
      → ((k : Kind) → h ≡ Condition → i ≡ Of k → j ≡ Of k → ⊥) → ExprFails s (e.If c a b) WrongType

-- the name and the origin of an item's column
abbrev pub Label : Type 0
Label = Option (List ℕ) × Option (List ℕ)

-- AS names an item; a field alone keeps its name and origin; an item `group` is named `group`, and an item `group.f`
-- is named f; another item has no name
pub data IsLabel : Scope → Option (List ℕ) → Expr → Label → Type 0 where
  given : {s : Scope} {name : List ℕ} {x : Expr} → IsLabel s (Some name) x (Some name, None)
  kept : {cs : List ScopeColumn} {f : Field} {k : ℕ} {c : ScopeColumn} → Names cs f k c → IsLabel (Rows cs) None (e.Ref f) (c.name, c.origin)
  group : {bag : List ℕ} {by cs : List ScopeColumn} → IsLabel (Group bag by cs) None (e.Ref (field.Plain group_name)) (Some group_name, None)
  first : {bag : List ℕ} {by cs : List ScopeColumn} → IsLabel (Group bag by cs) None (e.Ref (field.At 0)) (Some group_name, None)
  part : {bag name : List ℕ} {by cs : List ScopeColumn} → IsLabel (Group bag by cs) None (e.Ref (field.GroupOf name)) (Some name, None)
  other : {s : Scope} {x : Expr} → ((f : Field) → x ≡ e.Ref f → ⊥) → IsLabel s None x (None, None)

-- the kind after AS, where one stands, is the item's
abbrev pub IsKindAfter : Option Kind → Kind → Type 0
IsKindAfter None k = Unit {0}
IsKindAfter (Some j) k = j ≡ k

-- one expression for each column, with its place, counted from n
abbrev pub numbered : (ℕ → PlanExpr) → ℕ → List ScopeColumn → List PlanExpr
numbered expr n [] = []
numbered expr n (c ∷ cs) = expr n ∷ numbered expr (suc n) cs

-- the expressions and the columns that an item makes: `*` and `FLATTEN(group)` are written out, and each other item
-- is a value
pub data ItemMakes : Scope → Item → List PlanExpr → List ScopeColumn → Type 0 where
  all : {cs : List ScopeColumn} → ItemMakes (Rows cs) item.All (numbered p.Column 0 cs) cs
  -- one column named `group` where there is one BY column, and otherwise those with the origin `group`
  one : {bag : List ℕ} {cs : List ScopeColumn} {c : ScopeColumn} → ItemMakes (Group bag (c ∷ []) cs) item.Flatten (p.GroupColumn 0 ∷ []) (column_with c.kind (Some group_name) None ∷ [])
  flat : {bag : List ℕ} {by cs : List ScopeColumn} → length by ≢ 1 → ItemMakes (Group bag by cs) item.Flatten (numbered p.GroupColumn 0 by) (map (λ c. column_with c.kind c.name (Some group_name)) by)
  value : {s : Scope} {x : Expr} {name : Option (List ℕ)} {after : Option Kind} {v : PlanExpr} {k : Kind} {l : Label}
      → Resolves s x v (Of k) → IsKindAfter after k → IsLabel s name x l → ItemMakes s (item.Value x name after) (v ∷ []) (column_with k l.0 l.1 ∷ [])

pub data ItemFails : Scope → Item → Cause → Type 0 where
  -- over a group `*`; over rows `FLATTEN(group)`
  all : {bag : List ℕ} {by cs : List ScopeColumn} → ItemFails (Group bag by cs) item.All BagMisused
  flat : {cs : List ScopeColumn} → ItemFails (Rows cs) item.Flatten BagMisused
  expression : {s : Scope} {x : Expr} {name : Option (List ℕ)} {after : Option Kind} {cause : Cause} → ExprFails s x cause → ItemFails s (item.Value x name after) cause
  -- an item is a value, and of the kind after AS
  condition : {s : Scope} {x : Expr} {name : Option (List ℕ)} {after : Option Kind} {v : PlanExpr} → Resolves s x v Condition → ItemFails s (item.Value x name after) WrongType
  other_kind : {s : Scope} {x : Expr} {name : Option (List ℕ)} {j k : Kind} {v : PlanExpr} → Resolves s x v (Of k) → j ≢ k → ItemFails s (item.Value x name (Some j)) WrongType

-- the items one after another
pub data ItemsMake (s : Scope) : List Item → List PlanExpr → List ScopeColumn → Type 0 where
  none : ItemsMake s [] [] []
  more : {i : Item} {is : List Item} {xs ys : List PlanExpr} {cs ds : List ScopeColumn} → ItemMakes s i xs cs → ItemsMake s is ys ds → ItemsMake s (i ∷ is) (xs ++ ys) (cs ++ ds)

-- of the items the first that fails
pub data ItemsFail (s : Scope) : List Item → Cause → Type 0 where
  here : {i : Item} {is : List Item} {cause : Cause} → ItemFails s i cause → ItemsFail s (i ∷ is) cause
  after : {i : Item} {is : List Item} {xs : List PlanExpr} {cs : List ScopeColumn} {cause : Cause} → ItemMakes s i xs cs → ItemsFail s is cause → ItemsFail s (i ∷ is) cause
