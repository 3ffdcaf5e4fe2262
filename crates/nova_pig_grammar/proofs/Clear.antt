-- No `;` stands inside a statement.
use Rattle.std.proofs.Common.{◌≡◌, ℕ, Bool, true, false, List, [], ◌∷◌, ◌++◌, Option, Some, refl, ap, ◌∙◌}
use Rattle.std.specs.Prelude.{not, ◌&&◌}
use Rattle.std.specs.List.{list_all}
use Rattle.nova_pig_tree.specs.declared.expression.Expr.{Expr}
use Rattle.nova_pig_tree.specs.declared.expression.Field.{Field}
use Rattle.nova_pig_tree.specs.declared.statement.Item.{Item}
use Rattle.nova_pig_tree.specs.declared.statement.Op.{Op}
use Rattle.nova_pig_tree.specs.declared.token.Token.{Token}
use Rattle.nova_pig_tree.specs.declared.token.Token.TheVariants.{Ident, Word, Symbol}
use Rattle.nova_pig_tree.specs.declared.token.Symbol.TheVariants as s
use Rattle.nova_pig_tree.specs.declared.token.Word.TheVariants as w
use Rattle.nova_value.specs.declared.value.Kind.{Kind}
use Rattle.nova_pig_grammar.specs.declared.operators.Level.{Level}
use Rattle.nova_pig_grammar.specs.declared.operators.Level.TheVariants as l
use Rattle.nova_pig_grammar.specs.declared.operators.BinaryOp.{BinaryOp}
use Rattle.nova_pig_grammar.specs.Operators.{operator}
use Rattle.nova_pig_grammar.specs.Expression as g
use Rattle.nova_pig_grammar.specs.Expression.{Part, Derives, IsField}
use Rattle.nova_pig_grammar.specs.Statement.{is_semicolon}
use Rattle.nova_pig_grammar.specs.Statement as st
use Rattle.nova_pig_grammar.specs.Statement.{Tail, Listed, IsLabel, IsItem, IsColumns, IsName, IsOp}

abbrev pub clear : List Token → Bool
clear = list_all (λ t. not (is_semicolon t))

clear_append : (ts us : List Token) → clear ts ≡ true → clear us ≡ true → clear (ts ++ us) ≡ true
clear_append [] us h k = k
clear_append (t ∷ ts) us h k = both (not (is_semicolon t)) (clear ts) (clear (ts ++ us)) h (λ c. clear_append ts us c k)
  where
    both : (a b c : Bool) → (a && b) ≡ true → (b ≡ true → c ≡ true) → (a && c) ≡ true
    both true b c h f = f h
    both false b c h f = absurd cc

-- between two, a token that is no `;`
clear_around : (ts : List Token) (t : Token) (us : List Token) → is_semicolon t ≡ false → clear ts ≡ true → clear us ≡ true → clear (ts ++ t ∷ us) ≡ true
clear_around ts t us e h k = clear_append ts (t ∷ us) h (ap (λ v. not v && clear us) e ∙ k)

operator-clear : (l : Level) (t : Token) (o : BinaryOp) → operator l t ≡ Some o → is_semicolon t ≡ false
operator-clear l.Or (Symbol s.Semicolon) o e = absurd cc
operator-clear l.And (Symbol s.Semicolon) o e = absurd cc
operator-clear l.Sum (Symbol s.Semicolon) o e = absurd cc
operator-clear l.Prod (Symbol s.Semicolon) o e = absurd cc
operator-clear l t o e = refl

field-clear : {ts : List Token} {x : Field} → IsField ts x → clear ts ≡ true
field-clear g.plain = refl
field-clear g.of = refl
field-clear g.group = refl
field-clear g.group_of = refl
field-clear g.of_group = refl
field-clear g.position = refl

pub derives-clear : {p : Part} {ts : List Token} {x : Expr} → Derives p ts x → clear ts ≡ true
derives-clear (g.one d) = derives-clear d
derives-clear (g.more {l} {ts} {us} t op d e d') = clear_around ts t us (operator-clear l t op e) (derives-clear d) (derives-clear d')
derives-clear (g.not d) = derives-clear d
derives-clear (g.positive d) = derives-clear d
derives-clear (g.alone d) = derives-clear d
derives-clear (g.compare {ts} {us} op d d') = clear_around ts (Symbol (s.Compare op)) us refl (derives-clear d) (derives-clear d')
derives-clear (g.minus d) = derives-clear d
derives-clear (g.primary d) = derives-clear d
derives-clear g.number = refl
derives-clear g.literal = refl
derives-clear (g.field d) = field-clear d
derives-clear (g.call k e) = refl
derives-clear (g.call_of {ts = ts} k e d) = clear_around ts (Symbol s.Close) [] refl (field-clear d) refl
derives-clear (g.inside {ts} d) = clear_around ts (Symbol s.Close) [] refl (derives-clear d) refl
derives-clear (g.choose {ts} {us} {vs} d d' d'') =
    clear_around ((ts ++ Symbol s.Question ∷ us) ++ Symbol s.Colon ∷ vs) (Symbol s.Close) [] refl
    (clear_around (ts ++ Symbol s.Question ∷ us) (Symbol s.Colon) vs refl (clear_around ts (Symbol s.Question) us refl (derives-clear d) (derives-clear d')) (derives-clear d'')) refl

module _ {A : Type 0} (One : List Token → A → Type 0) (one-clear : (ts : List Token) (x : A) → One ts x → clear ts ≡ true) where
  tail-clear : {ts : List Token} {xs : List A} → Tail One ts xs → clear ts ≡ true
  tail-clear st.none = refl
  tail-clear (st.next {ts} {us} {a} d more) = clear_append ts us (one-clear ts a d) (tail-clear more)

  listed-clear : {ts : List Token} {xs : List A} → Listed One ts xs → clear ts ≡ true
  listed-clear (st.begin {ts} {us} {a} d more) = clear_append ts us (one-clear ts a d) (tail-clear more)

label-clear : {ts : List Token} {x : Option (List ℕ) × Option Kind} → IsLabel ts x → clear ts ≡ true
label-clear st.bare = refl
label-clear st.called = refl
label-clear (st.typed k e) = refl

item-clear : {ts : List Token} {x : Item} → IsItem ts x → clear ts ≡ true
item-clear st.all = refl
item-clear st.flatten = refl
item-clear (st.value {ts} {us} d d') = clear_append ts us (derives-clear d) (label-clear d')

columns-clear : {ts : List Token} {fs : List Field} → IsColumns ts fs → clear ts ≡ true
columns-clear (st.single d) = field-clear d
columns-clear (st.several {ts} d) = clear_around ts (Symbol s.Close) [] refl (listed-clear IsField (λ ts x d. field-clear d) d) refl

name-clear : {ts : List Token} {a : List ℕ} → IsName ts a → clear ts ≡ true
name-clear st.name = refl

pub op-clear : {ts : List Token} {o : Op} → IsOp ts o → clear ts ≡ true
op-clear st.load = refl
op-clear (st.filter d) = derives-clear d
op-clear (st.foreach d) = listed-clear IsItem (λ ts x d. item-clear d) d
op-clear (st.group v d) = columns-clear d
op-clear st.distinct = refl
op-clear (st.join {b = b} {ts = ts} {us = us} d d') = clear_around ts (Symbol s.Comma) (Ident b ∷ Word w.By ∷ us) refl (columns-clear d) (columns-clear d')
op-clear (st.union d) = listed-clear IsName (λ ts x d. name-clear d) d
