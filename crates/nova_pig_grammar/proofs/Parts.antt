-- Items and columns are read exactly.
use Rattle.std.proofs.Common.{◌≡◌, ℕ, Bool, true, false, List, [], ◌∷◌, ◌++◌, Option, Some, None, refl, ap, subst, ◌∙◌, arith, append_assoc}
use Rattle.nova_value.specs.declared.value.Kind.{Kind}
use Rattle.nova_pig_tree.specs.declared.expression.Field.{Field}
use Rattle.nova_pig_tree.specs.declared.statement.Item.{Item}
use Rattle.nova_pig_tree.specs.declared.statement.Item.TheVariants as item
use Rattle.nova_pig_tree.specs.declared.statement.Op.TheVariants as op
use Rattle.nova_pig_tree.specs.declared.expression.Expr.{Expr}
use Rattle.nova_pig_tree.specs.declared.token.Token.{Token}
use Rattle.nova_pig_tree.specs.declared.token.Token.TheVariants.{Ident, Word, Group, Symbol}
use Rattle.nova_pig_tree.specs.declared.token.Word.TheVariants as w
use Rattle.nova_pig_tree.specs.declared.token.Symbol.TheVariants as s
use Rattle.nova_pig_grammar.specs.Expression as g
use Rattle.nova_pig_grammar.specs.Expression.{Part, Derives, IsField, whole}
use Rattle.nova_pig_grammar.specs.ExpressionReading.{and_then, read, At}
use Rattle.nova_pig_grammar.proofs.Steps.{bound, same_rest, same_value}
use Rattle.nova_pig_grammar.proofs.ExpressionSound.{read-sound, joined}
use Rattle.nova_pig_grammar.proofs.ExpressionComplete.{read-complete, Stops}
use Rattle.nova_pig_grammar.specs.Statement.{kind_of}
use Rattle.nova_pig_grammar.specs.StatementReading.{listed, some_kind, kind_at, label_at, flatten_at, value_at, item_at, op_at}
use Rattle.nova_pig_grammar.specs.Statement as st
use Rattle.nova_pig_grammar.specs.Statement.{Listed, IsLabel, IsItem, Ended}
use Rattle.nova_pig_grammar.proofs.Shrink.{item-no_longer}
use Rattle.nova_pig_grammar.proofs.Listing.{Sound, Complete, listed-sound, listed-complete}

-- an expression begins with no `*` and no FLATTEN
abbrev starts : Token → Bool
starts (Symbol s.Star) = false
starts (Word w.Flatten) = false
starts _ = true

abbrev Starts : List Token → Type 0
Starts [] = ⊥
Starts (t ∷ ts) = starts t ≡ true

starts-append : (ts us : List Token) → Starts ts → Starts (ts ++ us)
starts-append [] us h = absurd h
starts-append (t ∷ ts) us h = h

field-starts : {ts : List Token} {a : Field} → IsField ts a → Starts ts
field-starts g.plain = refl
field-starts g.of = refl
field-starts g.group = refl
field-starts g.group_of = refl
field-starts g.of_group = refl
field-starts g.position = refl

derives-starts : {p : Part} {ts : List Token} {x : Expr} → Derives p ts x → Starts ts
derives-starts (g.one d) = derives-starts d
derives-starts (g.more {ts = ts} {us = us} t op d e d') = starts-append ts (t ∷ us) (derives-starts d)
derives-starts (g.not d) = refl
derives-starts (g.positive d) = derives-starts d
derives-starts (g.alone d) = derives-starts d
derives-starts (g.compare {ts = ts} {us = us} op d d') = starts-append ts (Symbol (s.Compare op) ∷ us) (derives-starts d)
derives-starts (g.minus d) = refl
derives-starts (g.primary d) = derives-starts d
derives-starts g.number = refl
derives-starts g.literal = refl
derives-starts (g.field d) = field-starts d
derives-starts (g.call k e) = refl
derives-starts (g.call_of k e d) = refl
derives-starts (g.inside d) = refl
derives-starts (g.choose d d' d'') = refl

item-other : (ts : List Token) → Starts ts → item_at ts ≡ value_at ts
item-other [] h = absurd h
item-other (Symbol s.Star ∷ ts) h = absurd cc
item-other (Word w.Flatten ∷ ts) h = absurd cc
item-other (t ∷ ts) h = refl

pub ended-stops : (rest : List Token) → Ended rest → Stops whole rest
ended-stops [] h = absurd h
ended-stops (Symbol s.Comma ∷ ts) h = omega arith
ended-stops (Symbol s.Semicolon ∷ ts) h = omega arith
ended-stops (Symbol s.Close ∷ ts) h = omega arith
ended-stops (t ∷ ts) h = absurd cc

no_kind : (rest : List Token) → Ended rest → kind_at rest ≡ Some (None, rest)
no_kind [] h = absurd h
no_kind (Symbol s.Colon ∷ ts) h = absurd cc
no_kind (t ∷ ts) h = refl

no_label : (rest : List Token) → Ended rest → label_at rest ≡ Some ((None, None), rest)
no_label [] h = absurd h
no_label (Word w.As ∷ ts) h = absurd cc
no_label (t ∷ ts) h = refl

label-complete : Complete label_at IsLabel Ended
label-complete ts x st.bare rest h = no_label rest h
label-complete ts x (st.called {a = a}) rest h = ap (λ r. and_then r (λ k us. Some ((Some a, k), us))) (no_kind rest h)
label-complete ts x (st.typed {a = a} kind e) rest h = ap (λ o. and_then (some_kind o rest) (λ k us. Some ((Some a, k), us))) e

label-stops : (us : List Token) (l : _) → IsLabel us l → (rest : List Token) → Ended rest → Stops whole (us ++ rest)
label-stops us l st.bare rest h = ended-stops rest h
label-stops us l st.called rest h = omega arith
label-stops us l (st.typed kind e) rest h = omega arith

pub item-complete : Complete item_at IsItem Ended
item-complete ts x st.all rest h = refl
item-complete ts x st.flatten rest h = refl
item-complete ts x (st.value {ts = vs} {us = us} {x = y} {l = l} d d') rest h =
    ap item_at (append_assoc vs us rest)
    ∙ item-other (vs ++ (us ++ rest)) (starts-append vs (us ++ rest) (derives-starts d))
    ∙ ap (λ r. and_then r (λ x us. and_then (label_at us) (λ l vs. Some (item.Value x l.0 l.1, vs)))) (read-complete d (us ++ rest) (label-stops us l d' rest h))
    ∙ ap (λ r. and_then r (λ l vs. Some (item.Value y l.0 l.1, vs))) (label-complete us l d' rest h)

-- FOREACH's items, and FILTER's condition, up to the `;`
pub items-complete : {ts : List Token} {xs : List Item} → Listed IsItem ts xs → (rest : List Token) → listed item_at (ts ++ Symbol s.Semicolon ∷ rest) ≡ Some (xs, Symbol s.Semicolon ∷ rest)
items-complete d rest = listed-complete item_at IsItem Ended item-no_longer item-complete (λ ts. refl) d (Symbol s.Semicolon ∷ rest) refl refl

pub foreach-complete : {a : List ℕ} {ts : List Token} {xs : List Item} → Listed IsItem ts xs → (rest : List Token)
    → op_at (Word w.Foreach ∷ Ident a ∷ Word w.Generate ∷ ts ++ Symbol s.Semicolon ∷ rest) ≡ Some (op.Foreach a xs, Symbol s.Semicolon ∷ rest)
foreach-complete {a} d rest = ap (λ r. and_then r (λ is us. Some (op.Foreach a is, us))) (items-complete d rest)

pub filter-complete : {a : List ℕ} {ts : List Token} {x : Expr} → Derives whole ts x → (rest : List Token)
    → op_at (Word w.Filter ∷ Ident a ∷ Word w.By ∷ ts ++ Symbol s.Semicolon ∷ rest) ≡ Some (op.Filter a x, Symbol s.Semicolon ∷ rest)
filter-complete {a} d rest = ap (λ r. and_then r (λ x us. Some (op.Filter a x, us))) (read-complete d (Symbol s.Semicolon ∷ rest) (omega arith))

-- what is read is an item
kind-sound : (a : List ℕ) (ts : List Token) (k : Option Kind) (rest : List Token) → kind_at ts ≡ Some (k, rest)
    → (prefix : List Token) × (ts ≡ prefix ++ rest) × IsLabel (Word w.As ∷ Ident a ∷ prefix) (Some a, k)
kind-sound a (Symbol s.Colon ∷ Ident n ∷ ts) k rest eq = by (kind_of n) refl eq
  where
    by : (o : Option Kind) → kind_of n ≡ o → some_kind o ts ≡ Some (k, rest)
        → (prefix : List Token) × (Symbol s.Colon ∷ Ident n ∷ ts ≡ prefix ++ rest) × IsLabel (Word w.As ∷ Ident a ∷ prefix) (Some a, k)
    by (Some found) is eq = (
      Symbol s.Colon ∷ Ident n ∷ [],
      ap (λ us. Symbol s.Colon ∷ Ident n ∷ us) (same_rest eq),
      subst (λ k. IsLabel (Word w.As ∷ Ident a ∷ Symbol s.Colon ∷ Ident n ∷ []) (Some a, k)) (same_value eq) (st.typed found is),
    )
    by None is eq = absurd cc
kind-sound a (Symbol s.Colon ∷ ts) k rest eq = absurd cc
kind-sound a ts k rest eq = ([], same_rest eq, subst (λ k. IsLabel (Word w.As ∷ Ident a ∷ []) (Some a, k)) (same_value eq) st.called)

label-sound : Sound label_at IsLabel
label-sound (Word w.As ∷ Ident a ∷ ts) x rest eq =
    let (k, mid, e1, then) = bound (kind_at ts) (λ k us. Some ((Some a, k), us)) eq in
    let (f, f-is, d) = kind-sound a ts k mid e1 in
    (Word w.As ∷ Ident a ∷ f, ap (λ us. Word w.As ∷ Ident a ∷ us) (f-is ∙ ap (λ r. f ++ r) (same_rest then)), subst (λ z. IsLabel (Word w.As ∷ Ident a ∷ f) z) (same_value then) d)
label-sound (Word w.As ∷ ts) x rest eq = absurd cc
label-sound ts x rest eq = ([], same_rest eq, subst (λ z. IsLabel [] z) (same_value eq) st.bare)

value-sound : Sound value_at IsItem
value-sound ts x rest eq =
    let (y, mid, e1, then) = bound (read (At whole) ts) (λ x us. and_then (label_at us) (λ l vs. Some (item.Value x l.0 l.1, vs))) eq in
    let (l, end, e2, last) = bound (label_at mid) (λ l vs. Some (item.Value y l.0 l.1, vs)) then in
    let (f, f-is, d) = read-sound (At whole) ts y mid e1 in
    let (h, h-is, d') = label-sound mid l end e2 in
    (f ++ h, joined f h rest f-is (h-is ∙ ap (λ r. h ++ r) (same_rest last)), subst (λ z. IsItem (f ++ h) z) (same_value last) (st.value d d'))

flatten-sound : (ts : List Token) (x : Item) (rest : List Token) → flatten_at ts ≡ Some (x, rest) → (prefix : List Token) × (Word w.Flatten ∷ ts ≡ prefix ++ rest) × IsItem prefix x
flatten-sound (Symbol s.Open ∷ Group true ∷ Symbol s.Close ∷ ts) x rest eq = (
  Word w.Flatten ∷ Symbol s.Open ∷ Group true ∷ Symbol s.Close ∷ [],
  ap (λ us. Word w.Flatten ∷ Symbol s.Open ∷ Group true ∷ Symbol s.Close ∷ us) (same_rest eq),
  subst (λ z. IsItem (Word w.Flatten ∷ Symbol s.Open ∷ Group true ∷ Symbol s.Close ∷ []) z) (same_value eq) st.flatten,
)
flatten-sound _ x rest eq = absurd cc

pub item-sound : Sound item_at IsItem
item-sound (Symbol s.Star ∷ ts) x rest eq = (Symbol s.Star ∷ [], ap (λ us. Symbol s.Star ∷ us) (same_rest eq), subst (λ z. IsItem (Symbol s.Star ∷ []) z) (same_value eq) st.all)
item-sound (Word w.Flatten ∷ ts) x rest eq = flatten-sound ts x rest eq
item-sound ts x rest eq = value-sound ts x rest eq

pub items-sound : Sound (listed item_at) (Listed IsItem)
items-sound = listed-sound item_at IsItem item-sound
