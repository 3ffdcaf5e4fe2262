-- The equations of `expr_of`, one per variant.
use Rattle.std.proofs.Common.{◌≡◌, ℕ, ℤ, List, Option, ap, sym, ◌∙◌}
use Rattle.nova_pig_tree.specs.declared.expression.CallKind.{CallKind}
use Rattle.nova_pig_tree.specs.declared.expression.CompareOp.{CompareOp}
use Rattle.nova_pig_tree.specs.declared.expression.Field.{Field}
use Rattle.nova_pig_tree.specs.declared.expression.Expr.{Expr}
use Rattle.nova_pig_tree.specs.declared.expression.Expr.TheOpen.{Expr-F}
use Rattle.nova_pig_tree.specs.declared.expression.Expr.TheVariants as e
use Rattle.nova_pig_tree.specs.declared.expression.Expr.TheFolds.{fold-roll-Expr}
use Rattle.nova_pig_plan.specs.declared.scope.Scope.{Scope}
use Rattle.nova_pig_plan.specs.declared.scope.Typed.{Typed}
use Rattle.nova_pig_plan.specs.Answers.{Answer}
use Rattle.nova_pig_plan.specs.Exprs.{expr_of, expr_step}

pub expr-Num : (s : Scope) (n : ℤ) → expr_of s (e.Num n) ≡ expr_step s (Expr-F.Num n)
unfolding expr_of
expr-Num s n = ap (expr_of s) (sym (e.rolls-Num n)) ∙ fold-roll-Expr (Answer Typed) (expr_step s) (Expr-F.Num n)

pub expr-Lit : (s : Scope) (t : List ℕ) → expr_of s (e.Lit t) ≡ expr_step s (Expr-F.Lit t)
unfolding expr_of
expr-Lit s t = ap (expr_of s) (sym (e.rolls-Lit t)) ∙ fold-roll-Expr (Answer Typed) (expr_step s) (Expr-F.Lit t)

pub expr-Ref : (s : Scope) (f : Field) → expr_of s (e.Ref f) ≡ expr_step s (Expr-F.Ref f)
unfolding expr_of
expr-Ref s f = ap (expr_of s) (sym (e.rolls-Ref f)) ∙ fold-roll-Expr (Answer Typed) (expr_step s) (Expr-F.Ref f)

pub expr-Call : (s : Scope) (k : CallKind) (alias : List ℕ) (f : Option Field) → expr_of s (e.Call k alias f) ≡ expr_step s (Expr-F.Call k alias f)
unfolding expr_of
expr-Call s k alias f = ap (expr_of s) (sym (e.rolls-Call k alias f)) ∙ fold-roll-Expr (Answer Typed) (expr_step s) (Expr-F.Call k alias f)

pub expr-Neg : (s : Scope) (a : Expr) → expr_of s (e.Neg a) ≡ expr_step s (Expr-F.Neg (expr_of s a))
unfolding expr_of
expr-Neg s a = ap (expr_of s) (sym (e.rolls-Neg a)) ∙ fold-roll-Expr (Answer Typed) (expr_step s) (Expr-F.Neg a)

pub expr-Not : (s : Scope) (a : Expr) → expr_of s (e.Not a) ≡ expr_step s (Expr-F.Not (expr_of s a))
unfolding expr_of
expr-Not s a = ap (expr_of s) (sym (e.rolls-Not a)) ∙ fold-roll-Expr (Answer Typed) (expr_step s) (Expr-F.Not a)

pub expr-Add : (s : Scope) (a b : Expr) → expr_of s (e.Add a b) ≡ expr_step s (Expr-F.Add (expr_of s a) (expr_of s b))
unfolding expr_of
expr-Add s a b = ap (expr_of s) (sym (e.rolls-Add a b)) ∙ fold-roll-Expr (Answer Typed) (expr_step s) (Expr-F.Add a b)

pub expr-Sub : (s : Scope) (a b : Expr) → expr_of s (e.Sub a b) ≡ expr_step s (Expr-F.Sub (expr_of s a) (expr_of s b))
unfolding expr_of
expr-Sub s a b = ap (expr_of s) (sym (e.rolls-Sub a b)) ∙ fold-roll-Expr (Answer Typed) (expr_step s) (Expr-F.Sub a b)

pub expr-Mul : (s : Scope) (a b : Expr) → expr_of s (e.Mul a b) ≡ expr_step s (Expr-F.Mul (expr_of s a) (expr_of s b))
unfolding expr_of
expr-Mul s a b = ap (expr_of s) (sym (e.rolls-Mul a b)) ∙ fold-roll-Expr (Answer Typed) (expr_step s) (Expr-F.Mul a b)

pub expr-And : (s : Scope) (a b : Expr) → expr_of s (e.And a b) ≡ expr_step s (Expr-F.And (expr_of s a) (expr_of s b))
unfolding expr_of
expr-And s a b = ap (expr_of s) (sym (e.rolls-And a b)) ∙ fold-roll-Expr (Answer Typed) (expr_step s) (Expr-F.And a b)

pub expr-Or : (s : Scope) (a b : Expr) → expr_of s (e.Or a b) ≡ expr_step s (Expr-F.Or (expr_of s a) (expr_of s b))
unfolding expr_of
expr-Or s a b = ap (expr_of s) (sym (e.rolls-Or a b)) ∙ fold-roll-Expr (Answer Typed) (expr_step s) (Expr-F.Or a b)

pub expr-Compare : (s : Scope) (op : CompareOp) (a b : Expr) → expr_of s (e.Compare op a b) ≡ expr_step s (Expr-F.Compare op (expr_of s a) (expr_of s b))
unfolding expr_of
expr-Compare s op a b = ap (expr_of s) (sym (e.rolls-Compare op a b)) ∙ fold-roll-Expr (Answer Typed) (expr_step s) (Expr-F.Compare op a b)

pub expr-If : (s : Scope) (c a b : Expr) → expr_of s (e.If c a b) ≡ expr_step s (Expr-F.If (expr_of s c) (expr_of s a) (expr_of s b))
unfolding expr_of
expr-If s c a b = ap (expr_of s) (sym (e.rolls-If c a b)) ∙ fold-roll-Expr (Answer Typed) (expr_step s) (Expr-F.If c a b)
