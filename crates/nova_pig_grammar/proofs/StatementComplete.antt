-- Statements are read exactly.
use Rattle.std.proofs.Common.{◌≡◌, List, [], ◌∷◌, ◌++◌, Some, refl, ap, sym, ◌∙◌, arith, append_assoc}
use Rattle.nova_pig_tree.specs.declared.expression.Field.{Field}
use Rattle.nova_pig_tree.specs.declared.statement.Op.{Op}
use Rattle.nova_pig_tree.specs.declared.statement.Op.TheVariants as op
use Rattle.nova_pig_tree.specs.declared.token.Token.{Token}
use Rattle.nova_pig_tree.specs.declared.token.Token.TheVariants.{Ident, Word, Symbol}
use Rattle.nova_pig_tree.specs.declared.token.Word.TheVariants as w
use Rattle.nova_pig_tree.specs.declared.token.Symbol.TheVariants as s
use Rattle.nova_pig_grammar.specs.declared.operators.Mark.TheVariants as m
use Rattle.nova_pig_grammar.specs.Expression as g
use Rattle.nova_pig_grammar.specs.Expression.{IsField}
use Rattle.nova_pig_grammar.specs.ExpressionReading.{and_then, followed, closed, field_at}
use Rattle.nova_pig_grammar.proofs.ExpressionComplete.{field-read, Stops}
use Rattle.nova_pig_grammar.specs.StatementReading.{name_at, columns_at, name_then, op_at, two, ended, body_of, all_of}
use Rattle.nova_pig_grammar.specs.Statement as st
use Rattle.nova_pig_grammar.specs.Statement.{IsColumns, IsName, IsOp, Ended, IsStatement}
use Rattle.nova_pig_tree.specs.declared.statement.Body.{Body}
use Rattle.nova_pig_tree.specs.declared.statement.Body.TheVariants as body
use Rattle.nova_pig_grammar.proofs.Parts.{foreach-complete, filter-complete}
use Rattle.nova_pig_grammar.proofs.Shrink.{field-no_longer, name-no_longer}
use Rattle.nova_pig_grammar.proofs.Listing.{Complete, listed-complete}

primary-stops : (rest : List Token) → Ended rest → Stops g.Primary rest
primary-stops [] h = absurd h
primary-stops (Symbol s.Comma ∷ ts) h = omega arith
primary-stops (Symbol s.Semicolon ∷ ts) h = omega arith
primary-stops (Symbol s.Close ∷ ts) h = omega arith
primary-stops (t ∷ ts) h = absurd cc

field-complete : Complete field_at IsField Ended
field-complete ts x d rest h = field-read d rest (primary-stops rest h)

name-complete : Complete name_at IsName Ended
name-complete ts x st.name rest h = refl

one-column : {ts : List Token} {a : Field} → IsField ts a → (rest : List Token) → columns_at (ts ++ rest) ≡ and_then (field_at (ts ++ rest)) (λ a us. Some (a ∷ [], us))
one-column g.plain rest = refl
one-column g.of rest = refl
one-column g.group rest = refl
one-column g.group_of rest = refl
one-column g.of_group rest = refl
one-column g.position rest = refl

pub columns-complete : Complete columns_at IsColumns Ended
columns-complete ts fs (st.single {a = a} d) rest h = one-column d rest ∙ ap (λ r. and_then r (λ a us. Some (a ∷ [], us))) (field-complete ts a d rest h)
columns-complete us fs (st.several {ts = ts} d) rest h =
    ap (λ vs. columns_at (Symbol s.Open ∷ vs)) (append_assoc ts (Symbol s.Close ∷ []) rest)
    ∙ ap (λ r. and_then r closed) (listed-complete field_at IsField Ended field-no_longer field-complete (λ ts. refl) d (Symbol s.Close ∷ rest) refl refl)

pub op-complete : {ts : List Token} {o : Op} → IsOp ts o → (rest : List Token) → op_at (ts ++ Symbol s.Semicolon ∷ rest) ≡ Some (o, Symbol s.Semicolon ∷ rest)
op-complete st.load rest = refl
op-complete (st.filter d) rest = filter-complete d rest
op-complete (st.foreach d) rest = foreach-complete d rest
op-complete (st.group {a = a} {ts = ts} {fs = fs} spelled d) rest =
    ap (λ r. and_then r (λ fs us. Some (op.Group a fs, us))) (columns-complete ts fs d (Symbol s.Semicolon ∷ rest) refl)
op-complete st.distinct rest = refl
op-complete (st.join {a = a} {b = b} {ts = ts} {us = us} {fs = fs} {gs = gs} d d') rest =
    let mid : List Token = Symbol s.Comma ∷ Ident b ∷ Word w.By ∷ (us ++ Symbol s.Semicolon ∷ rest) in
    ap (λ vs. op_at (Word w.Join ∷ Ident a ∷ Word w.By ∷ vs)) (append_assoc ts (Symbol s.Comma ∷ Ident b ∷ Word w.By ∷ us) (Symbol s.Semicolon ∷ rest))
    ∙ ap (λ r. and_then r (λ fs vs. and_then (followed m.Comma fs vs) (λ fs vs. and_then (name_then m.By vs) (λ b vs. and_then (columns_at vs) (λ gs vs. Some (op.Join a fs b gs, vs))))))
    (columns-complete ts fs d mid refl)
    ∙ ap (λ r. and_then r (λ gs vs. Some (op.Join a fs b gs, vs))) (columns-complete us gs d' (Symbol s.Semicolon ∷ rest) refl)
op-complete (st.union d) rest =
    ap (λ r. and_then r two) (listed-complete name_at IsName Ended name-no_longer name-complete (λ ts. refl) d (Symbol s.Semicolon ∷ rest) refl refl)

pub cut-complete : {cut : List Token} {b : Body} → IsStatement cut b → body_of cut ≡ Some b
cut-complete (st.define {a = a} {o = o} d) = ap (λ r. all_of (and_then r (λ o. ended (body.Define a o)))) (op-complete d [])
cut-complete st.store = refl

-- a cut is one statement
pub one_body : {cut : List Token} {a b : Body} → IsStatement cut a → IsStatement cut b → a ≡ b
one_body d d' = same (sym (cut-complete d) ∙ cut-complete d')
  where
    same : {a b : Body} → Some a ≡ Some b → a ≡ b
    same e = cc
