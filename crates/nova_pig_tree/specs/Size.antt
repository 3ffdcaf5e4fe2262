-- How large a script is, which bounds each descent into it and each place that it numbers.
use Rattle.std.specs.Prelude.{ℕ, suc, ◌+◌, ◌≤◌, List, length}
use Rattle.std.specs.List.{AllByRecursion}
use Rattle.nova_pig_tree.specs.declared.expression.Expr.{Expr}
use Rattle.nova_pig_tree.specs.declared.expression.Expr.TheOpen.{Expr-F}
use Rattle.nova_pig_tree.specs.declared.expression.Expr.TheFolds.{fold-Expr}
use Rattle.nova_pig_tree.specs.declared.statement.Item.{Item}
use Rattle.nova_pig_tree.specs.declared.statement.Item.TheVariants as item
use Rattle.nova_pig_tree.specs.declared.statement.Op.{Op}
use Rattle.nova_pig_tree.specs.declared.statement.Op.TheVariants as op
use Rattle.nova_pig_tree.specs.declared.statement.Body.{Body}
use Rattle.nova_pig_tree.specs.declared.statement.Body.TheVariants as body
use Rattle.nova_pig_tree.specs.declared.statement.Statement.{Statement}
use Rattle.nova_pig_tree.specs.declared.statement.TheConstants.{MAX_STATEMENTS, MAX_OPERATORS, MAX_FIELDS}

abbrev pub operators_step : Expr-F ℕ → ℕ
operators_step (Expr-F.Neg a) = suc a
operators_step (Expr-F.Not a) = suc a
operators_step (Expr-F.Add a b) = suc (a + b)
operators_step (Expr-F.Sub a b) = suc (a + b)
operators_step (Expr-F.Mul a b) = suc (a + b)
operators_step (Expr-F.Compare op a b) = suc (a + b)
operators_step (Expr-F.And a b) = suc (a + b)
operators_step (Expr-F.Or a b) = suc (a + b)
operators_step (Expr-F.If c a b) = suc (c + (a + b))
operators_step _ = 0

-- how many operators an expression has: it is no deeper
unfoldable pub operators : Expr → ℕ
operators = fold-Expr ℕ operators_step

abbrev pub IsShallow : Expr → Type 0
IsShallow x = operators x ≤ MAX_OPERATORS

abbrev pub HasShallowItem : Item → Type 0
HasShallowItem (item.Value x name kind) = IsShallow x
HasShallowItem _ = Unit {0}

-- its expressions are shallow, and its BY lists short
abbrev pub IsSmallOp : Op → Type 0
IsSmallOp (op.Filter from x) = IsShallow x
IsSmallOp (op.Foreach from items) = AllByRecursion HasShallowItem items
IsSmallOp (op.Group from by) = length by ≤ MAX_FIELDS
IsSmallOp (op.Join left left_by right right_by) = (length left_by ≤ MAX_FIELDS) × (length right_by ≤ MAX_FIELDS)
IsSmallOp _ = Unit {0}

abbrev pub IsSmallBody : Body → Type 0
IsSmallBody (body.Define alias o) = IsSmallOp o
IsSmallBody (body.Store alias channel) = Unit {0}

-- at most 257 statements, at most 64 operators in each of their expressions, and at most 65,536 fields in each BY list
pub record IsSmall (xs : List Statement) : Type 0 where
  pub few : length xs ≤ MAX_STATEMENTS
  pub each : AllByRecursion (λ s. IsSmallBody s.body) xs
