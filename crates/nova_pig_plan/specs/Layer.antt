-- One level of an expression, as `out-Expr` opens it.
use Rattle.nova_pig_tree.specs.declared.expression.Expr.{Expr}
use Rattle.nova_pig_tree.specs.declared.expression.Expr.TheOpen.{Expr-F}

abbrev pub Layer : Type 0
Layer = Expr-F Expr
