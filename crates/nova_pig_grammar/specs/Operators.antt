-- What single tokens are to the grammar.
use Rattle.std.specs.Prelude.{if◌then◌else◌, ℕ, Bool, true, false, List, Option, Some, None, codes}
use Rattle.std.specs.Str.{bytes_eq}
use Rattle.nova_pig_tree.specs.declared.expression.CallKind.{CallKind}
use Rattle.nova_pig_tree.specs.declared.expression.CallKind.TheVariants as k
use Rattle.nova_pig_tree.specs.declared.expression.CompareOp.{CompareOp}
use Rattle.nova_pig_tree.specs.declared.expression.Expr.{Expr}
use Rattle.nova_pig_tree.specs.declared.expression.Expr.TheVariants as e
use Rattle.nova_pig_tree.specs.declared.token.Token.{Token}
use Rattle.nova_pig_tree.specs.declared.token.Token.TheVariants.{Word, Group, Symbol}
use Rattle.nova_pig_tree.specs.declared.token.Word.TheVariants as w
use Rattle.nova_pig_tree.specs.declared.token.Symbol.TheVariants as s
use Rattle.nova_pig_grammar.specs.declared.operators.Mark.{Mark}
use Rattle.nova_pig_grammar.specs.declared.operators.Mark.TheVariants as m
use Rattle.nova_pig_grammar.specs.declared.operators.Level.{Level}
use Rattle.nova_pig_grammar.specs.declared.operators.Level.TheVariants as l
use Rattle.nova_pig_grammar.specs.declared.operators.BinaryOp.{BinaryOp}
use Rattle.nova_pig_grammar.specs.declared.operators.BinaryOp.TheVariants as b

-- whether the token is the one that reading asks for
abbrev pub is : Mark → Token → Bool
is m.By (Word w.By) = true
is m.Generate (Word w.Generate) = true
is m.Into (Word w.Into) = true
is m.Not (Word w.Not) = true
is m.Group (Group true) = true
is m.Assign (Symbol s.Assign) = true
is m.Open (Symbol s.Open) = true
is m.Close (Symbol s.Close) = true
is m.Comma (Symbol s.Comma) = true
is m.Colon (Symbol s.Colon) = true
is m.Semicolon (Symbol s.Semicolon) = true
is m.Minus (Symbol s.Minus) = true
is _ _ = false

-- the operator of this level that the token is
abbrev pub operator : Level → Token → Option BinaryOp
operator l.Or (Word w.Or) = Some b.Or
operator l.And (Word w.And) = Some b.And
operator l.Sum (Symbol s.Plus) = Some b.Add
operator l.Sum (Symbol s.Minus) = Some b.Sub
operator l.Prod (Symbol s.Star) = Some b.Mul
operator _ _ = None

abbrev pub comparison : Token → Option CompareOp
comparison (Symbol (s.Compare op)) = Some op
comparison _ = None

-- the tree of an operator
abbrev pub combine : BinaryOp → Expr → Expr → Expr
combine b.Or = e.Or
combine b.And = e.And
combine b.Add = e.Add
combine b.Sub = e.Sub
combine b.Mul = e.Mul

-- the name of the field that a grouped alias has
abbrev pub group_word : List ℕ
group_word = codes "group"

-- a call begins with one of four names, as they stand
unfoldable pub call_kind : List ℕ → Option CallKind
call_kind a =
    if bytes_eq a (codes "COUNT") then Some k.Count else
    (if bytes_eq a (codes "SUM") then Some k.Sum else
    (if bytes_eq a (codes "MIN") then Some k.Min else
    (if bytes_eq a (codes "MAX") then Some k.Max else None)))
