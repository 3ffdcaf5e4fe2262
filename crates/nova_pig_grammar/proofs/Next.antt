-- What the first token says of a reading.
use Rattle.std.proofs.Common.{◌≡◌, true, false, List, [], ◌∷◌, length, Some, None, refl, ap, ◌∙◌, arith}
use Rattle.nova_pig_tree.specs.declared.expression.CompareOp.{CompareOp}
use Rattle.nova_pig_tree.specs.declared.token.Token.{Token}
use Rattle.nova_pig_tree.specs.declared.token.Token.TheVariants.{Word, Symbol}
use Rattle.nova_pig_tree.specs.declared.token.Word.TheVariants as w
use Rattle.nova_pig_tree.specs.declared.token.Symbol.TheVariants as s
use Rattle.nova_pig_grammar.specs.declared.operators.Mark.{Mark}
use Rattle.nova_pig_grammar.specs.declared.operators.Mark.TheVariants as m
use Rattle.nova_pig_grammar.specs.declared.operators.Level.{Level}
use Rattle.nova_pig_grammar.specs.declared.operators.BinaryOp.{BinaryOp}
use Rattle.nova_pig_grammar.specs.Operators.{is, operator, comparison}
use Rattle.nova_pig_grammar.specs.Expression.{Left, Neg, Comp, Unary, Primary}
use Rattle.nova_pig_grammar.specs.ExpressionReading.{At, After, left, comp, after_by, compared_by, step, read, begins_comma, Eats, Decides, Next, NextNot, NextMinus, NextComparison, NextOpen}
use Rattle.nova_pig_grammar.proofs.Steps.{read-step}

pub next-none : (l : Level) → Next l None [] []
unfolding step
next-none l = (refl, λ x. read-step (After l x) [])

pub next-other : (l : Level) (t : Token) (ts : List Token) → operator l t ≡ None → Next l None (t ∷ ts) (t ∷ ts)
unfolding step
next-other l t ts e = (refl, λ x. read-step (After l x) (t ∷ ts) ∙ ap (after_by read l x t ts) e)

pub next-some : (l : Level) (t : Token) (ts : List Token) (op : BinaryOp) → operator l t ≡ Some op → Next l (Some op) (t ∷ ts) ts
unfolding step
next-some l t ts op e = (omega arith, λ x. read-step (After l x) (t ∷ ts) ∙ ap (after_by read l x t ts) e)

pub not-none : NextNot false [] []
unfolding step
not-none = (refl, read-step (At Neg) [])

pub not-other : (t : Token) (ts : List Token) → is m.Not t ≡ false → NextNot false (t ∷ ts) (t ∷ ts)
unfolding step
not-other (Word w.Not) ts e = absurd cc
not-other t ts e = (refl, read-step (At Neg) (t ∷ ts))

pub not-next : (t : Token) (ts : List Token) → is m.Not t ≡ true → NextNot true (t ∷ ts) ts
unfolding step
not-next (Word w.Not) ts e = (omega arith, read-step (At Neg) (Word w.Not ∷ ts))
not-next t ts e = absurd cc

pub minus-none : NextMinus false [] []
unfolding step
minus-none = (refl, read-step (At Unary) [])

pub minus-other : (t : Token) (ts : List Token) → is m.Minus t ≡ false → NextMinus false (t ∷ ts) (t ∷ ts)
unfolding step
minus-other (Symbol s.Minus) ts e = absurd cc
minus-other t ts e = (refl, read-step (At Unary) (t ∷ ts))

pub minus-next : (t : Token) (ts : List Token) → is m.Minus t ≡ true → NextMinus true (t ∷ ts) ts
unfolding step
minus-next (Symbol s.Minus) ts e = (omega arith, read-step (At Unary) (Symbol s.Minus ∷ ts))
minus-next t ts e = absurd cc

pub comparison-none : NextComparison None [] []
comparison-none = (refl, λ x. refl)

pub comparison-other : (t : Token) (ts : List Token) → comparison t ≡ None → NextComparison None (t ∷ ts) (t ∷ ts)
comparison-other t ts e = (refl, λ x. ap (compared_by read x t ts) e)

pub comparison-next : (t : Token) (ts : List Token) (op : CompareOp) → comparison t ≡ Some op → NextComparison (Some op) (t ∷ ts) ts
comparison-next t ts op e = (omega arith, λ x. ap (compared_by read x t ts) e)

pub open-none : NextOpen false [] []
unfolding step
open-none = (refl, read-step (At Primary) [])

pub open-other : (t : Token) (ts : List Token) → is m.Open t ≡ false → NextOpen false (t ∷ ts) (t ∷ ts)
unfolding step
open-other (Symbol s.Open) ts e = absurd cc
open-other t ts e = (refl, read-step (At Primary) (t ∷ ts))

pub open-next : (t : Token) (ts : List Token) → is m.Open t ≡ true → NextOpen true (t ∷ ts) ts
unfolding step
open-next (Symbol s.Open) ts e = (omega arith, read-step (At Primary) (Symbol s.Open ∷ ts))
open-next t ts e = absurd cc

comma-next : (t : Token) → is m.Comma t ≡ true → t ≡ Symbol s.Comma
comma-next (Symbol s.Comma) e = refl
comma-next t e = absurd cc

-- at a list that is known by an equation
module _ {old : List Token} (empty : length old ≡ 0) where
  is_empty : old ≡ []
  is_empty = length_zero old empty
    where
      length_zero : (ts : List Token) → length ts ≡ 0 → ts ≡ []
      length_zero [] e = refl
      length_zero (t ∷ ts) e = absurd (omega arith)

  pub operator_end : (l : Level) → Next l None old old
  operator_end l = rw is_empty (next-none l)

  pub comparison_end : NextComparison None old old
  comparison_end = rw is_empty comparison-none

pub decides_end : (old : List Token) → length old ≡ 0 → (k : Mark) → Decides k false old old
decides_end old empty m.Not = rw (is_empty empty) not-none
decides_end old empty m.Minus = rw (is_empty empty) minus-none
decides_end old empty m.Open = rw (is_empty empty) open-none
decides_end old empty m.Comma = (refl, rw (is_empty empty) refl)
decides_end old empty _ = tt

pub eats_end : (old : List Token) → length old ≡ 0 → (k : Mark) → Eats k false old old
eats_end old empty k = (refl, rw (is_empty empty) refl)

module _ {old rest : List Token} {t : Token} (whole : old ≡ t ∷ rest) where
  pub operator_some : (l : Level) {op : BinaryOp} → operator l t ≡ Some op → Next l (Some op) old rest
  operator_some l {op} e = rw whole (next-some l t rest op e)

  pub operator_other : (l : Level) → operator l t ≡ None → Next l None old old
  operator_other l e = rw whole (next-other l t rest e)

  pub decides_true : (k : Mark) → is k t ≡ true → Decides k true old rest
  decides_true m.Not e = rw whole (not-next t rest e)
  decides_true m.Minus e = rw whole (minus-next t rest e)
  decides_true m.Open e = rw whole (open-next t rest e)
  decides_true m.Comma e = whole ∙ ap (λ z. z ∷ rest) (comma-next t e)
  decides_true _ e = tt

  pub decides_false : (k : Mark) → is k t ≡ false → Decides k false old old
  decides_false m.Not e = rw whole (not-other t rest e)
  decides_false m.Minus e = rw whole (minus-other t rest e)
  decides_false m.Open e = rw whole (open-other t rest e)
  decides_false m.Comma e = (refl, ap begins_comma whole ∙ e)
  decides_false _ e = tt

  pub eats_true : (k : Mark) → is k t ≡ true → Eats k true old rest
  eats_true k e = rw whole (omega arith, rw e refl)

  pub eats_false : (k : Mark) → is k t ≡ false → Eats k false old old
  eats_false k e = (refl, rw whole (rw e refl))

  pub comparison_some : {op : CompareOp} → comparison t ≡ Some op → NextComparison (Some op) old rest
  comparison_some {op} e = rw whole (comparison-next t rest op e)

  pub comparison_other : comparison t ≡ None → NextComparison None old old
  comparison_other e = rw whole (comparison-other t rest e)

pub comp_at : (ts : List Token) → read (At Comp) ts ≡ comp read ts
unfolding step
comp_at ts = read-step (At Comp) ts

pub left_at : (l : Level) (ts : List Token) → read (At (Left l)) ts ≡ left read l ts
unfolding step
left_at l ts = read-step (At (Left l)) ts
