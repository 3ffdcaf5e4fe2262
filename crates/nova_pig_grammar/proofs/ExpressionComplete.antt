-- What the grammar derives is read, whatever follows that doesn't go on with it.
use Rattle.std.proofs.Common.{◌≡◌, ℕ, ◌<◌, ◌≤◌, List, [], ◌∷◌, ◌++◌, Option, Some, None, refl, ap, sym, ◌∙◌, arith, append_assoc}
use Rattle.nova_pig_tree.specs.declared.expression.CallKind.{CallKind}
use Rattle.nova_pig_tree.specs.declared.expression.Field.{Field}
use Rattle.nova_pig_tree.specs.declared.expression.Expr.{Expr}
use Rattle.nova_pig_tree.specs.declared.expression.Expr.TheVariants as e
use Rattle.nova_pig_tree.specs.declared.expression.Field.TheVariants as f
use Rattle.nova_pig_tree.specs.declared.token.Token.{Token}
use Rattle.nova_pig_tree.specs.declared.token.Token.TheVariants.{Ident, Word, Number, Literal, Symbol}
use Rattle.nova_pig_tree.specs.declared.token.Word.TheVariants as w
use Rattle.nova_pig_tree.specs.declared.token.Symbol.TheVariants as s
use Rattle.nova_pig_grammar.specs.declared.operators.Level.{Level}
use Rattle.nova_pig_grammar.specs.declared.operators.Level.TheVariants as l
use Rattle.nova_pig_grammar.specs.declared.operators.BinaryOp.{BinaryOp}
use Rattle.nova_pig_grammar.specs.Operators.{operator, combine, call_kind, group_word}
use Rattle.nova_pig_grammar.specs.Expression as g
use Rattle.nova_pig_grammar.specs.Expression.{Part, Left, Neg, Comp, Unary, Primary, operand, whole, Derives, IsField}
use Rattle.nova_pig_grammar.specs.ExpressionReading.{Reader, and_then, At, After, after_by, neg, compared, unary, closed, third, opened, field_after, group_after, field_at, refer, named_by, primary, step, rank, read}
use Rattle.nova_pig_grammar.proofs.Steps.{operand-lower, read-step, same_value}

-- how loose a part must be for the token to go on with it, or 9 where it goes on with none
abbrev pub loosest : Token → ℕ
loosest (Word w.Or) = 7
loosest (Word w.And) = 6
loosest (Symbol (s.Compare op)) = 4
loosest (Symbol s.Plus) = 3
loosest (Symbol s.Minus) = 3
loosest (Symbol s.Star) = 2
loosest (Symbol s.ColonColon) = 0
loosest (Symbol s.Dot) = 0
loosest (Symbol s.Open) = 0
loosest _ = 9

-- these tokens don't go on with the part
abbrev pub Stops : Part → List Token → Type 0
Stops p [] = Unit {0}
Stops p (t ∷ ts) = rank (At p) < loosest t

-- how loose a part must be to begin with the token
abbrev needs : Token → ℕ
needs (Word w.Not) = 5
needs (Symbol s.Minus) = 1
needs _ = 0

abbrev Begins : Part → List Token → Type 0
Begins p [] = ⊥
Begins p (t ∷ ts) = needs t ≤ rank (At p)

stops-looser : (p q : Part) (ts : List Token) → rank (At p) ≤ rank (At q) → Stops q ts → Stops p ts
stops-looser p q [] le h = tt
stops-looser p q (t ∷ ts) le h = omega arith

operator-loosest : (l : Level) (t : Token) (op : BinaryOp) → operator l t ≡ Some op → loosest t ≡ rank (At (Left l))
operator-loosest l.Or (Word w.Or) op eq = refl
operator-loosest l.And (Word w.And) op eq = refl
operator-loosest l.Sum (Symbol s.Plus) op eq = refl
operator-loosest l.Sum (Symbol s.Minus) op eq = refl
operator-loosest l.Prod (Symbol s.Star) op eq = refl
operator-loosest _ _ op eq = absurd cc

option-cases : {A : Type 0} (o : Option A) {P : Type 0} → ((x : A) → o ≡ Some x → P) → (o ≡ None → P) → P
option-cases (Some x) some none = some x refl
option-cases None some none = none refl

begins-looser : (p q : Part) (ts : List Token) → rank (At p) ≤ rank (At q) → Begins p ts → Begins q ts
begins-looser p q [] le h = h
begins-looser p q (t ∷ ts) le h = omega arith

begins-append : (p : Part) (ts us : List Token) → Begins p ts → Begins p (ts ++ us)
begins-append p [] us h = absurd h
begins-append p (t ∷ ts) us h = h

begins-field : {ts : List Token} {a : _} → IsField ts a → Begins Primary ts
begins-field g.plain = omega arith
begins-field g.of = omega arith
begins-field g.group = omega arith
begins-field g.group_of = omega arith
begins-field g.of_group = omega arith
begins-field g.position = omega arith

begins : {p : Part} {ts : List Token} {x : Expr} → Derives p ts x → Begins p ts
begins (g.one {l = l} {ts = ts} d) = begins-looser (operand l) (Left l) ts (let h = operand-lower l in omega arith) (begins d)
begins (g.more {l = l} {ts = ts} {us = us} t op d op-is d') = begins-append (Left l) ts (t ∷ us) (begins d)
begins (g.not d) = omega arith
begins (g.positive {ts = ts} d) = begins-looser Comp Neg ts (omega arith) (begins d)
begins (g.alone {ts = ts} d) = begins-looser (Left l.Sum) Comp ts (omega arith) (begins d)
begins (g.compare {ts = ts} {us = us} op d d') = begins-append Comp ts (Symbol (s.Compare op) ∷ us) (begins-looser (Left l.Sum) Comp ts (omega arith) (begins d))
begins (g.minus d) = omega arith
begins (g.primary {ts = ts} d) = begins-looser Primary Unary ts (omega arith) (begins d)
begins g.number = omega arith
begins g.literal = omega arith
begins (g.field d) = begins-field d
begins (g.call k e) = omega arith
begins (g.call_of k e d) = omega arith
begins (g.inside d) = omega arith
begins (g.choose d d' d'') = omega arith

-- at a level the operands that were read are gone on with
abbrev Goes : Part → List Token → Expr → Type 0
Goes (Left l) ts x = (rest : List Token) → Stops (operand l) rest → read (At (Left l)) (ts ++ rest) ≡ read (After l x) rest
Goes p ts x = (rest : List Token) → Stops p rest → read (At p) (ts ++ rest) ≡ Some (x, rest)

after-stops : (l : Level) (x : Expr) (rest : List Token) → Stops (Left l) rest → read (After l x) rest ≡ Some (x, rest)
unfolding step
after-stops l x [] h = read-step (After l x) []
after-stops l x (t ∷ ts) h =
    read-step (After l x) (t ∷ ts) ∙ option-cases (operator l t)
    (λ op eq. let e = operator-loosest l t op eq in absurd (omega arith))
    (λ eq. ap (after_by read l x t ts) eq)

finished : (p : Part) (ts : List Token) (x : Expr) → Goes p ts x → (rest : List Token) → Stops p rest → read (At p) (ts ++ rest) ≡ Some (x, rest)
finished (Left l) ts x goes rest h =
    goes rest (stops-looser (operand l) (Left l) rest (let low = operand-lower l in omega arith) h) ∙ after-stops l x rest h
finished Neg ts x goes rest h = goes rest h
finished Comp ts x goes rest h = goes rest h
finished Unary ts x goes rest h = goes rest h
finished Primary ts x goes rest h = goes rest h

compared-stops : (x : Expr) (rest : List Token) → Stops Comp rest → compared read x rest ≡ Some (x, rest)
compared-stops x [] h = refl
compared-stops x (Symbol (s.Compare op) ∷ ts) h = absurd (omega arith)
compared-stops x (t ∷ ts) h = refl

neg-other : (ts : List Token) → Begins Comp ts → neg read ts ≡ read (At Comp) ts
neg-other [] h = refl
neg-other (Word w.Not ∷ ts) h = absurd (omega arith)
neg-other (t ∷ ts) h = refl

unary-other : (ts : List Token) → Begins Primary ts → unary read ts ≡ read (At Primary) ts
unary-other [] h = refl
unary-other (Symbol s.Minus ∷ ts) h = absurd (omega arith)
unary-other (t ∷ ts) h = refl

field_after-plain : (a : List ℕ) (rest : List Token) → Stops Primary rest → field_after a rest ≡ Some (f.Plain a, rest)
field_after-plain a [] h = refl
field_after-plain a (Symbol s.ColonColon ∷ ts) h = absurd (omega arith)
field_after-plain a (t ∷ ts) h = refl

group_after-plain : (rest : List Token) → Stops Primary rest → group_after rest ≡ Some (f.Plain group_word, rest)
group_after-plain [] h = refl
group_after-plain (Symbol s.Dot ∷ ts) h = absurd (omega arith)
group_after-plain (Symbol s.ColonColon ∷ ts) h = absurd (omega arith)
group_after-plain (t ∷ ts) h = refl

named_by-plain : (o : Option CallKind) (a : List ℕ) (rest : List Token) → Stops Primary rest → named_by o a rest ≡ refer (field_after a) rest
named_by-plain None a rest h = refl
named_by-plain (Some k) a [] h = refl
named_by-plain (Some k) a (Symbol s.Open ∷ ts) h = absurd (omega arith)
named_by-plain (Some k) a (t ∷ ts) h = refl

named_by-of : (o : Option CallKind) (a b : List ℕ) (rest : List Token) → named_by o a (Symbol s.ColonColon ∷ Ident b ∷ rest) ≡ Some (e.Ref (f.Of a b), rest)
named_by-of None a b rest = refl
named_by-of (Some k) a b rest = refl

pub field-read : {ts : List Token} {a : Field} → IsField ts a → (rest : List Token) → Stops Primary rest → field_at (ts ++ rest) ≡ Some (a, rest)
field-read (g.plain {a = a}) rest h = field_after-plain a rest h
field-read g.of rest h = refl
field-read g.group rest h = group_after-plain rest h
field-read g.group_of rest h = refl
field-read g.of_group rest h = refl
field-read g.position rest h = refl

field-goes : {ts : List Token} {a : Field} → IsField ts a → (rest : List Token) → Stops Primary rest → primary read (ts ++ rest) ≡ Some (e.Ref a, rest)
field-goes (g.plain {a = a}) rest h = named_by-plain (call_kind a) a rest h ∙ ap (λ r. and_then r (λ a us. Some (e.Ref a, us))) (field_after-plain a rest h)
field-goes (g.of {a = a} {b = b}) rest h = named_by-of (call_kind a) a b rest
field-goes g.group rest h = ap (λ r. and_then r (λ a us. Some (e.Ref a, us))) (group_after-plain rest h)
field-goes g.group_of rest h = refl
field-goes g.of_group rest h = refl
field-goes g.position rest h = refl

call-goes : (k : CallKind) (a b : List ℕ) → call_kind a ≡ Some k → (rest : List Token)
    → primary read (Ident a ∷ Symbol s.Open ∷ Ident b ∷ Symbol s.Close ∷ rest) ≡ Some (e.Call k b None, rest)
call-goes k a b is rest = ap (λ o. named_by o a (Symbol s.Open ∷ Ident b ∷ Symbol s.Close ∷ rest)) is

call_of-goes : (k : CallKind) (a b : List ℕ) (ts : List Token) (x : Field) → call_kind a ≡ Some k → IsField ts x → (rest : List Token)
    → primary read (Ident a ∷ Symbol s.Open ∷ Ident b ∷ Symbol s.Dot ∷ (ts ++ Symbol s.Close ∷ rest)) ≡ Some (e.Call k b (Some x), rest)
call_of-goes k a b ts x is d rest =
    ap (λ o. named_by o a (Symbol s.Open ∷ Ident b ∷ Symbol s.Dot ∷ (ts ++ Symbol s.Close ∷ rest))) is
    ∙ ap (λ r. and_then (and_then r (λ a us. Some (Some a, us))) (λ o. closed (e.Call k b o))) (field-read d (Symbol s.Close ∷ rest) (omega arith))

module _ (p : Part) (ts : List Token) (x : Expr) (d : Goes p ts x) where
  -- the reading of a part, and then of what stands after it
  first : {B : Type 0} (k : Expr → Reader B) (rest : List Token) → Stops p rest → and_then (read (At p) (ts ++ rest)) k ≡ k x rest
  first k rest h = ap (λ r. and_then r k) (finished p ts x d rest h)

goes : {p : Part} {ts : List Token} {x : Expr} → Derives p ts x → Goes p ts x
unfolding step
goes (g.one {l = l} {ts = ts} {x = x} d) = λ rest h.
    read-step (At (Left l)) (ts ++ rest) ∙ first (operand l) ts x (goes d) (λ x. read (After l x)) rest h
goes (g.more {l = l} {ts = ts} {us = us} t {x = x} {y = y} op d op-is d') = λ rest h.
    let low = operand-lower l in
    let e = operator-loosest l t op op-is in
    ap (read (At (Left l))) (append_assoc ts (t ∷ us) rest)
    ∙ goes d (t ∷ us ++ rest) (omega arith)
    ∙ read-step (After l x) (t ∷ us ++ rest)
    ∙ ap (after_by read l x t (us ++ rest)) op-is
    ∙ first (operand l) us y (goes d') (λ y. read (After l (combine op x y))) rest h
goes (g.not {ts = ts} {x = x} d) = λ rest h. read-step (At Neg) (Word w.Not ∷ ts ++ rest) ∙ first Neg ts x (goes d) (λ x us. Some (e.Not x, us)) rest h
goes (g.positive {ts = ts} d) = λ rest h.
    read-step (At Neg) (ts ++ rest) ∙ neg-other (ts ++ rest) (begins-append Comp ts rest (begins d)) ∙ goes d rest (stops-looser Comp Neg rest (omega arith) h)
goes (g.alone {ts = ts} {x = x} d) = λ rest h.
    read-step (At Comp) (ts ++ rest) ∙ first (Left l.Sum) ts x (goes d) (compared read) rest (stops-looser (Left l.Sum) Comp rest (omega arith) h) ∙ compared-stops x rest h
goes (g.compare {ts = ts} {us = us} {x = x} {y = y} op d d') = λ rest h.
    ap (read (At Comp)) (append_assoc ts (Symbol (s.Compare op) ∷ us) rest)
    ∙ read-step (At Comp) (ts ++ (Symbol (s.Compare op) ∷ us ++ rest))
    ∙ first (Left l.Sum) ts x (goes d) (compared read) (Symbol (s.Compare op) ∷ us ++ rest) (omega arith)
    ∙ first (Left l.Sum) us y (goes d') (λ y us. Some (e.Compare op x y, us)) rest (stops-looser (Left l.Sum) Comp rest (omega arith) h)
goes (g.minus {ts = ts} {x = x} d) = λ rest h. read-step (At Unary) (Symbol s.Minus ∷ ts ++ rest) ∙ first Unary ts x (goes d) (λ x us. Some (e.Neg x, us)) rest h
goes (g.primary {ts = ts} d) = λ rest h.
    read-step (At Unary) (ts ++ rest) ∙ unary-other (ts ++ rest) (begins-append Primary ts rest (begins d)) ∙ goes d rest (stops-looser Primary Unary rest (omega arith) h)
goes (g.number {n = n}) = λ rest h. read-step (At Primary) (Number n ∷ rest)
goes (g.literal {a = a}) = λ rest h. read-step (At Primary) (Literal a ∷ rest)
goes (g.field {ts = ts} d) = λ rest h. read-step (At Primary) (ts ++ rest) ∙ field-goes d rest h
goes (g.call {a = a} {b = b} k is) = λ rest h. read-step (At Primary) (Ident a ∷ Symbol s.Open ∷ Ident b ∷ Symbol s.Close ∷ rest) ∙ call-goes k a b is rest
goes (g.call_of {a = a} {b = b} {ts = ts} {x = x} k is d) = λ rest h.
    ap (λ us. read (At Primary) (Ident a ∷ Symbol s.Open ∷ Ident b ∷ Symbol s.Dot ∷ us)) (append_assoc ts (Symbol s.Close ∷ []) rest)
    ∙ read-step (At Primary) (Ident a ∷ Symbol s.Open ∷ Ident b ∷ Symbol s.Dot ∷ (ts ++ Symbol s.Close ∷ rest))
    ∙ call_of-goes k a b ts x is d rest
goes (g.inside {ts = ts} {x = x} d) = λ rest h.
    ap (read (At Primary)) (append_assoc (Symbol s.Open ∷ ts) (Symbol s.Close ∷ []) rest)
    ∙ read-step (At Primary) (Symbol s.Open ∷ ts ++ (Symbol s.Close ∷ rest))
    ∙ first whole ts x (goes d) (opened read) (Symbol s.Close ∷ rest) (omega arith)
goes (g.choose {ts = ts} {us = us} {vs = vs} {x = x} {y = y} {z = z} d d' d'') = λ rest h.
    let back : List Token = Symbol s.Close ∷ rest in
    let after-y : List Token = Symbol s.Colon ∷ (vs ++ (Symbol s.Close ∷ rest)) in
    let after-x : List Token = Symbol s.Question ∷ (us ++ (Symbol s.Colon ∷ (vs ++ (Symbol s.Close ∷ rest)))) in
    let same : (Symbol s.Open ∷ ts ++ Symbol s.Question ∷ us ++ Symbol s.Colon ∷ vs ++ Symbol s.Close ∷ []) ++ rest ≡ Symbol s.Open ∷ (ts ++ after-x) = simp append_assoc in
    ap (read (At Primary)) same
    ∙ read-step (At Primary) (Symbol s.Open ∷ (ts ++ after-x))
    ∙ first whole ts x (goes d) (opened read) after-x (omega arith)
    ∙ ap (λ r. and_then r (λ b us. Some (e.If x b.0 b.1, us)))
    (first whole us y (goes d') (λ y us. and_then (third read us) (λ z us. Some ((y, z), us))) after-y (omega arith)
    ∙ ap (λ r. and_then r (λ z us. Some ((y, z), us))) (first whole vs z (goes d'') closed back (omega arith)))

pub read-complete : {p : Part} {ts : List Token} {x : Expr} → Derives p ts x → (rest : List Token) → Stops p rest → read (At p) (ts ++ rest) ≡ Some (x, rest)
read-complete {p} {ts} {x} d rest h = finished p ts x (goes d) rest h

-- tokens have one reading
pub one_reading : {p : Part} {ts : List Token} {x y : Expr} → Derives p ts x → Derives p ts y → x ≡ y
one_reading {p} {ts} {x} {y} d d' =
    let a : read (At p) (ts ++ []) ≡ Some (x, []) = read-complete d [] tt in
    let b : read (At p) (ts ++ []) ≡ Some (y, []) = read-complete d' [] tt in
    same_value (sym a ∙ b)
