-- The script of a text is small, since its tokens are few and nest little.
use Rattle.std.proofs.Common.{◌≡◌, ℕ, zero, suc, ◌+◌, ◌<◌, ◌≤◌, Bool, true, false, List, [], ◌∷◌, ◌++◌, length, map, Option, Some, None, Result, Ok, Err, ℤ, refl, ap, sym, subst, ◌∙◌, arith}
use Rattle.std.specs.Prelude.{if◌then◌else◌, ◌==◌, nat_lt}
use Rattle.std.specs.List.{AllByRecursion, count_by}
use Rattle.std.proofs.lemmas.Bool.{ltb-true, ltb-false, eqb-false}
use Rattle.std.proofs.lemmas.List.{map-append, length-append, length-map}
use Rattle.std.proofs.lemmas.List.Recursion.{is_count_by}
use Rattle.nova_pig_tree.specs.declared.expression.CompareOp.{CompareOp}
use Rattle.nova_pig_tree.specs.declared.expression.CompareOp.TheVariants as compare
use Rattle.nova_pig_tree.specs.declared.expression.Field.{Field}
use Rattle.nova_pig_tree.specs.declared.expression.CallKind.{CallKind}
use Rattle.nova_pig_tree.specs.declared.expression.Expr.{Expr}
use Rattle.nova_pig_tree.specs.declared.expression.Expr.TheOpen.{Expr-F}
use Rattle.nova_pig_tree.specs.declared.expression.Expr.TheVariants as e
use Rattle.nova_pig_tree.specs.declared.expression.Expr.TheFolds.{fold-roll-Expr}
use Rattle.nova_pig_tree.specs.declared.statement.Item.{Item}
use Rattle.nova_pig_tree.specs.declared.statement.Op.{Op}
use Rattle.nova_pig_tree.specs.declared.statement.Body.{Body}
use Rattle.nova_pig_tree.specs.declared.statement.Statement.{Statement}
use Rattle.nova_pig_tree.specs.declared.token.Token.{Token}
use Rattle.nova_pig_tree.specs.declared.token.Token.TheVariants.{Ident, Word, Symbol}
use Rattle.nova_pig_tree.specs.declared.token.Word.TheVariants as w
use Rattle.nova_pig_tree.specs.declared.token.Symbol.{Symbol as SymbolOf}
use Rattle.nova_pig_tree.specs.declared.token.Symbol.TheVariants as s
use Rattle.nova_pig_tree.specs.declared.token.Placed.{Placed}
use Rattle.nova_pig_grammar.specs.declared.operators.Level.{Level}
use Rattle.nova_pig_grammar.specs.declared.operators.Level.TheVariants as l
use Rattle.nova_pig_grammar.specs.declared.operators.BinaryOp.{BinaryOp}
use Rattle.nova_pig_grammar.specs.declared.operators.BinaryOp.TheVariants as b
use Rattle.nova_pig_grammar.specs.Operators.{operator, combine}
use Rattle.nova_pig_grammar.specs.Expression as g
use Rattle.nova_pig_grammar.specs.Expression.{Part, Derives, IsField}
use Rattle.nova_pig_grammar.specs.Statement as st
use Rattle.nova_pig_grammar.specs.Statement.{Tail, Listed, IsItem, IsColumns, IsOp, IsStatement, is_semicolon}
use Rattle.nova_pig_scan.specs.declared.TheConstants.{MAX_SCRIPT_BYTES}
use Rattle.nova_pig_scan.specs.Lexemes as lex
use Rattle.nova_pig_scan.specs.Lexemes.{Text, Lexeme, IsLexeme, sign}
use Rattle.nova_pig_scan.specs.Text as scan
use Rattle.nova_pig_scan.specs.Text.{IsTokens}
use Rattle.nova_pig_parse.specs.declared.text.ParseFault.{ParseFault}
use Rattle.nova_pig_parse.specs.declared.text.ParseFault.TheVariants as fault
use Rattle.nova_pig_parse.specs.declared.limit.TheConstants.{MAX_SEMICOLONS, MAX_ASSIGNS}
use Rattle.nova_pig_parse.specs.Limits.{parts, nests, semicolons, assigns, first_deep}
use Rattle.nova_pig_parse.specs.Parse.{too_deep, deep_or, limit, cuts, statements}
use Rattle.nova_pig_parse.specs.Script.{tokens_of, spanned, IsScript, empty, store, define}
use Rattle.nova_pig_tree.specs.declared.statement.TheConstants.{MAX_FIELDS}
use Rattle.nova_pig_tree.specs.Size.{operators, operators_step, IsShallow, HasShallowItem, IsSmallOp, IsSmallBody, IsSmall}
use Rattle.nova_pig_parse.specs.Size.{ScriptsAreSmall}
use Rattle.nova_pig_parse.proofs.Deep.{deep_law}
use Rattle.nova_pig_parse.proofs.Scripts.{Reads, reads}

-- ---- the operators of each variant

operators-Num : (n : ℤ) → operators (e.Num n) ≡ 0
unfolding operators
operators-Num n = ap operators (sym (e.rolls-Num n)) ∙ fold-roll-Expr ℕ operators_step (Expr-F.Num n)

operators-Lit : (t : List ℕ) → operators (e.Lit t) ≡ 0
unfolding operators
operators-Lit t = ap operators (sym (e.rolls-Lit t)) ∙ fold-roll-Expr ℕ operators_step (Expr-F.Lit t)

operators-Ref : (f : Field) → operators (e.Ref f) ≡ 0
unfolding operators
operators-Ref f = ap operators (sym (e.rolls-Ref f)) ∙ fold-roll-Expr ℕ operators_step (Expr-F.Ref f)

operators-Call : (k : CallKind) (a : List ℕ) (f : Option Field) → operators (e.Call k a f) ≡ 0
unfolding operators
operators-Call k a f = ap operators (sym (e.rolls-Call k a f)) ∙ fold-roll-Expr ℕ operators_step (Expr-F.Call k a f)

operators-Neg : (a : Expr) → operators (e.Neg a) ≡ suc (operators a)
unfolding operators
operators-Neg a = ap operators (sym (e.rolls-Neg a)) ∙ fold-roll-Expr ℕ operators_step (Expr-F.Neg a)

operators-Not : (a : Expr) → operators (e.Not a) ≡ suc (operators a)
unfolding operators
operators-Not a = ap operators (sym (e.rolls-Not a)) ∙ fold-roll-Expr ℕ operators_step (Expr-F.Not a)

operators-Compare : (op : CompareOp) (a c : Expr) → operators (e.Compare op a c) ≡ suc (operators a + operators c)
unfolding operators
operators-Compare op a c = ap operators (sym (e.rolls-Compare op a c)) ∙ fold-roll-Expr ℕ operators_step (Expr-F.Compare op a c)

operators-If : (a c d : Expr) → operators (e.If a c d) ≡ suc (operators a + (operators c + operators d))
unfolding operators
operators-If a c d = ap operators (sym (e.rolls-If a c d)) ∙ fold-roll-Expr ℕ operators_step (Expr-F.If a c d)

operators-combine : (op : BinaryOp) (a c : Expr) → operators (combine op a c) ≡ suc (operators a + operators c)
unfolding operators
operators-combine b.Or a c = ap operators (sym (e.rolls-Or a c)) ∙ fold-roll-Expr ℕ operators_step (Expr-F.Or a c)
operators-combine b.And a c = ap operators (sym (e.rolls-And a c)) ∙ fold-roll-Expr ℕ operators_step (Expr-F.And a c)
operators-combine b.Add a c = ap operators (sym (e.rolls-Add a c)) ∙ fold-roll-Expr ℕ operators_step (Expr-F.Add a c)
operators-combine b.Sub a c = ap operators (sym (e.rolls-Sub a c)) ∙ fold-roll-Expr ℕ operators_step (Expr-F.Sub a c)
operators-combine b.Mul a c = ap operators (sym (e.rolls-Mul a c)) ∙ fold-roll-Expr ℕ operators_step (Expr-F.Mul a c)

-- ---- how many tokens of the piece nest, after these tokens and so many before them; none where they are too many
abbrev counted : ℕ → List Token → Option ℕ
counted n [] = Some n
counted n (t ∷ ts) = if parts t then counted 0 ts else (if nests t then (if n == 64 then None else counted (n + 1) ts) else counted n ts)

nested_by : (v : Bool) (o : Option ℕ) (m : ℕ) → (if v then None else o) ≡ Some m → o ≡ Some m
nested_by true o m c = absurd cc
nested_by false o m c = c

nested : (n m : ℕ) (o : Option ℕ) → (if n == 64 then None else o) ≡ Some m → o ≡ Some m
nested n m o c = nested_by (n == 64) o m c

same_count : (n m : ℕ) → Some n ≡ Some m → n ≡ m
same_count n m c = cc

abbrev Split : ℕ → List Token → List Token → ℕ → Type 0
Split n ts us m = (k : ℕ) × (counted n ts ≡ Some k) × (counted k us ≡ Some m)

split : (n : ℕ) (ts us : List Token) (m : ℕ) → counted n (ts ++ us) ≡ Some m → Split n ts us m
split n [] us m c = (n, refl, c)
split n (t ∷ ts) us m c = by (parts t) (nests t) (n == 64) c (λ k d. split k ts us m d)
  where
    by : (p q r : Bool) → (if p then counted 0 (ts ++ us) else (if q then (if r then None else counted (n + 1) (ts ++ us)) else counted n (ts ++ us))) ≡ Some m
        → ((k : ℕ) → counted k (ts ++ us) ≡ Some m → Split k ts us m)
        → (k : ℕ) × ((if p then counted 0 ts else (if q then (if r then None else counted (n + 1) ts) else counted n ts)) ≡ Some k) × (counted k us ≡ Some m)
    by true q r c go = go 0 c
    by false true true c go = absurd cc
    by false true false c go = go (n + 1) c
    by false false r c go = go n c

one_more : (n : ℕ) → n ≤ 64 → (n == 64) ≡ false → n + 1 ≤ 64
one_more n h c = by (nat_lt n 64) refl
  where
    by : (v : Bool) → nat_lt n 64 ≡ v → n + 1 ≤ 64
    by true is = let low = ltb-true n 64 is in omega (arith, low)
    by false is = let high = ltb-false n 64 is in absurd (eqb-false n 64 c (omega (arith, h, high)))

within : (n : ℕ) (ts : List Token) (m : ℕ) → n ≤ 64 → counted n ts ≡ Some m → m ≤ 64
within n [] m h c = let same = same_count n m c in omega (arith, h, same)
within n (t ∷ ts) m h c = by (parts t) (nests t) (n == 64) refl c (λ k low d. within k ts m low d)
  where
    by : (p q r : Bool) → (n == 64) ≡ r → (if p then counted 0 ts else (if q then (if r then None else counted (n + 1) ts) else counted n ts)) ≡ Some m
        → ((k : ℕ) → k ≤ 64 → counted k ts ≡ Some m → m ≤ 64) → m ≤ 64
    by true q r is c go = go 0 (omega arith) c
    by false true true is c go = absurd cc
    by false true false is c go = go (n + 1) (one_more n h is) c
    by false false r is c go = go n h c

-- tokens that aren't too deep have a count
has_count : (n : ℕ) (ps : List Placed) → too_deep n ps ≡ None → (m : ℕ) × (counted n (tokens_of ps) ≡ Some m)
unfolding too_deep
has_count n [] h = (n, refl)
has_count n (p ∷ ps) h = by (parts p.token) (nests p.token) (n == 64) h (λ k d. has_count k ps d)
  where
    by : (v q r : Bool) → (if v then too_deep 0 ps else (if q then (if r then Some p.start else too_deep (n + 1) ps) else too_deep n ps)) ≡ None
        → ((k : ℕ) → too_deep k ps ≡ None → (m : ℕ) × (counted k (tokens_of ps) ≡ Some m))
        → (m : ℕ) × ((if v then counted 0 (tokens_of ps) else (if q then (if r then None else counted (n + 1) (tokens_of ps)) else counted n (tokens_of ps))) ≡ Some m)
    by true q r h go = go 0 h
    by false true true h go = absurd cc
    by false true false h go = go (n + 1) h
    by false false r h go = go n h

-- ---- each operator of an expression is a token that nests
operator_nests : (k : Level) (t : Token) (op : BinaryOp) → operator k t ≡ Some op → (n : ℕ) (us : List Token) (m : ℕ) → counted n (t ∷ us) ≡ Some m → counted (n + 1) us ≡ Some m
operator_nests l.Or (Word w.Or) op is n us m c = nested n m (counted (n + 1) us) c
operator_nests l.And (Word w.And) op is n us m c = nested n m (counted (n + 1) us) c
operator_nests l.Sum (Symbol s.Plus) op is n us m c = nested n m (counted (n + 1) us) c
operator_nests l.Sum (Symbol s.Minus) op is n us m c = nested n m (counted (n + 1) us) c
operator_nests l.Prod (Symbol s.Star) op is n us m c = nested n m (counted (n + 1) us) c
operator_nests k t op is n us m c = absurd cc

field_counted : {ts : List Token} {a : Field} → IsField ts a → (n m : ℕ) → counted n ts ≡ Some m → n ≡ m
field_counted g.plain n m c = same_count n m c
field_counted g.of n m c = same_count n m c
field_counted g.group n m c = same_count n m c
field_counted g.group_of n m c = same_count n m c
field_counted g.of_group n m c = same_count n m c
field_counted g.position n m c = same_count n m c

-- where an expression has so many operators
has : (n m : ℕ) (x : Expr) (k : ℕ) → operators x ≡ k → n + k ≤ m → n + operators x ≤ m
has n m x k is h = subst (λ z. n + z ≤ m) (sym is) h

derived : {p : Part} {ts : List Token} {x : Expr} → Derives p ts x → (n m : ℕ) → counted n ts ≡ Some m → n + operators x ≤ m
derived (g.one d) n m c = derived d n m c
derived (g.more {l} {ts} {us} t {x} {y} op d is d') n m c =
    let (k, c1, c2) = split n ts (t ∷ us) m c in
    let h1 = derived d n k c1 in
    let h2 = derived d' (k + 1) m (operator_nests l t op is k us m c2) in
    has n m (combine op x y) (suc (operators x + operators y)) (operators-combine op x y) (omega (arith, h1, h2))
derived (g.not {ts} {x} d) n m c =
    let h = derived d (n + 1) m (nested n m (counted (n + 1) ts) c) in
    has n m (e.Not x) (suc (operators x)) (operators-Not x) (omega (arith, h))
derived (g.positive d) n m c = derived d n m c
derived (g.alone d) n m c = derived d n m c
derived (g.compare {ts} {us} {x} {y} op d d') n m c =
    let (k, c1, c2) = split n ts (Symbol (s.Compare op) ∷ us) m c in
    let h1 = derived d n k c1 in
    let h2 = derived d' (k + 1) m (nested k m (counted (k + 1) us) c2) in
    has n m (e.Compare op x y) (suc (operators x + operators y)) (operators-Compare op x y) (omega (arith, h1, h2))
derived (g.minus {ts} {x} d) n m c =
    let h = derived d (n + 1) m (nested n m (counted (n + 1) ts) c) in
    has n m (e.Neg x) (suc (operators x)) (operators-Neg x) (omega (arith, h))
derived (g.primary d) n m c = derived d n m c
derived (g.number {n = k}) n m c = let same = same_count n m c in has n m (e.Num k) 0 (operators-Num k) (omega (arith, same))
derived (g.literal {a}) n m c = let same = same_count n m c in has n m (e.Lit a) 0 (operators-Lit a) (omega (arith, same))
derived (g.field {ts} {a} d) n m c = let same = field_counted d n m c in has n m (e.Ref a) 0 (operators-Ref a) (omega (arith, same))
derived (g.call {a} {b} k is) n m c =
    let same = same_count (n + 1) m (nested n m (Some (n + 1)) c) in
    has n m (e.Call k b None) 0 (operators-Call k b None) (omega (arith, same))
derived (g.call_of {a} {b} {ts} {x} k is d) n m c =
    let (j, c1, c2) = split (n + 1) ts (Symbol s.Close ∷ []) m (nested n m (counted (n + 1) (ts ++ Symbol s.Close ∷ [])) c) in
    let same = field_counted d (n + 1) j c1 in
    let last = same_count j m c2 in
    has n m (e.Call k b (Some x)) 0 (operators-Call k b (Some x)) (omega (arith, same, last))
derived (g.inside {ts} {x} d) n m c =
    let (j, c1, c2) = split (n + 1) ts (Symbol s.Close ∷ []) m (nested n m (counted (n + 1) (ts ++ Symbol s.Close ∷ [])) c) in
    let h = derived d (n + 1) j c1 in
    let last = same_count j m c2 in
    omega (arith, h, last)
derived (g.choose {ts} {us} {vs} {x} {y} {z} d d' d'') n m c =
    let all = (ts ++ Symbol s.Question ∷ us) ++ Symbol s.Colon ∷ vs in
    let (k3, c3, e3) = split (n + 1) all (Symbol s.Close ∷ []) m (nested n m (counted (n + 1) (all ++ Symbol s.Close ∷ [])) c) in
    let (k2, c2, e2) = split (n + 1) (ts ++ Symbol s.Question ∷ us) (Symbol s.Colon ∷ vs) k3 c3 in
    let (k1, c1, e1) = split (n + 1) ts (Symbol s.Question ∷ us) k2 c2 in
    let h1 = derived d (n + 1) k1 c1 in
    let h2 = derived d' (k1 + 1) k2 (nested k1 k2 (counted (k1 + 1) us) e1) in
    let h3 = derived d'' k2 k3 e2 in
    let last = same_count k3 m e3 in
    has n m (e.If x y z) (suc (operators x + (operators y + operators z))) (operators-If x y z) (omega (arith, h1, h2, h3, last))

-- ---- items, operators, statements
item_small : {ts : List Token} {x : Item} → IsItem ts x → (n m : ℕ) → n ≤ 64 → counted n ts ≡ Some m → HasShallowItem x
item_small st.all n m h c = tt
item_small st.flatten n m h c = tt
item_small (st.value {ts} {us} {x} d d') n m h c =
    let (k, c1, c2) = split n ts us m c in
    let up = derived d n k c1 in
    let low = within n ts k h c1 in
    omega (arith, up, low)

tail_small : {ts : List Token} {xs : List Item} → Tail IsItem ts xs → (n m : ℕ) → counted n ts ≡ Some m → AllByRecursion HasShallowItem xs
tail_small st.none n m c = tt
tail_small (st.next {ts} {us} d more) n m c =
    let (k, c1, c2) = split 0 ts us m c in
    (item_small d 0 k (omega arith) c1, tail_small more k m c2)

items_small : {ts : List Token} {xs : List Item} → Listed IsItem ts xs → (n m : ℕ) → n ≤ 64 → counted n ts ≡ Some m → AllByRecursion HasShallowItem xs
items_small (st.begin {ts} {us} d more) n m h c =
    let (k, c1, c2) = split n ts us m c in
    (item_small d n k h c1, tail_small more k m c2)

-- ---- the fields of a BY list are no more than its tokens
tail_short : {ts : List Token} {fs : List Field} → Tail IsField ts fs → length fs ≤ length ts
tail_short st.none = omega arith
tail_short (st.next {ts} {us} d more) =
    let h = tail_short more in
    let l = length-append ts us in
    omega (arith, h, l)

field_tokens : {ts : List Token} {a : Field} → IsField ts a → 1 ≤ length ts
field_tokens g.plain = omega arith
field_tokens g.of = omega arith
field_tokens g.group = omega arith
field_tokens g.group_of = omega arith
field_tokens g.of_group = omega arith
field_tokens g.position = omega arith

list_short : {ts : List Token} {fs : List Field} → Listed IsField ts fs → length fs ≤ length ts
list_short (st.begin {ts} {us} d more) =
    let one = field_tokens d in
    let h = tail_short more in
    let l = length-append ts us in
    omega (arith, one, h, l)

columns_short : {ts : List Token} {fs : List Field} → IsColumns ts fs → length fs ≤ length ts
columns_short (st.single d) = field_tokens d
columns_short (st.several {ts} d) =
    let h = list_short d in
    let l = length-append ts (Symbol s.Close ∷ []) in
    omega (arith, h, l)

op_small : {ts : List Token} {o : Op} → IsOp ts o → length ts ≤ MAX_FIELDS → (n m : ℕ) → n ≤ 64 → counted n ts ≡ Some m → IsSmallOp o
op_small st.load most n m h c = tt
op_small (st.filter {ts = ts} d) most n m h c =
    let up = derived d n m c in
    let low = within n ts m h c in
    omega (arith, up, low)
op_small (st.foreach d) most n m h c = items_small d n m h c
op_small (st.group v d) most n m h c = let short = columns_short d in omega (arith, short, most)
op_small st.distinct most n m h c = tt
op_small (st.join {b = b} {ts = ts} {us = us} d d') most n m h c =
    let left = columns_short d in
    let right = columns_short d' in
    let l = length-append ts (Symbol s.Comma ∷ Ident b ∷ Word w.By ∷ us) in
    (omega (arith, left, most, l), omega (arith, right, most, l))
op_small (st.union d) most n m h c = tt

statement_small : {ts : List Token} {x : Body} → IsStatement ts x → length ts ≤ MAX_FIELDS → (n m : ℕ) → n ≤ 64 → counted n ts ≡ Some m → IsSmallBody x
statement_small (st.define {ts = ts} d) most n m h c =
    let (k, c1, c2) = split n ts (Symbol s.Semicolon ∷ []) m c in
    let l = length-append ts (Symbol s.Semicolon ∷ []) in
    op_small d (omega (arith, most, l)) n k h c1
statement_small st.store most n m h c = tt

spanned_body : (ps : List Placed) (x : Body) → (spanned ps x).body ≡ x
spanned_body [] x = refl
spanned_body (p ∷ ps) x = refl

of_placed : (ps : List Placed) → length ps ≤ MAX_FIELDS → length (tokens_of ps) ≤ MAX_FIELDS
of_placed ps most = let l = length-map ps (λ (p : Placed). p.token) in omega (arith, l, most)

each_small : {ps : List Placed} {xs : List Statement} → IsScript ps xs → length ps ≤ MAX_FIELDS → (n m : ℕ) → n ≤ 64 → counted n (tokens_of ps) ≡ Some m
    → AllByRecursion (λ s. IsSmallBody s.body) xs
each_small empty most n m h c = tt
each_small (store ps d) most n m h c = (subst IsSmallBody (sym (spanned_body ps _)) (statement_small d (of_placed ps most) n m h c), tt)
each_small (define ps rest d more) most n m h c =
    let (k, c1, c2) = split n (tokens_of ps) (tokens_of rest) m (sym (ap (counted n) (map-append (λ (p : Placed). p.token) ps rest)) ∙ c) in
    let l = length-append ps rest in (
      subst IsSmallBody (sym (spanned_body ps _)) (statement_small d (of_placed ps (omega (arith, most, l))) n k h c1),
      each_small more (omega (arith, most, l)) k m (within n (tokens_of ps) k h c1) c2,
    )

-- ---- the tokens of a text are no more than its bytes
name_bytes : (us : Text) → lex.IsName us → 1 ≤ length us
name_bytes [] is = absurd is
name_bytes (b ∷ us) is = omega arith

digit_bytes : (us : Text) → lex.IsDigits us → 1 ≤ length us
digit_bytes [] is = absurd is
digit_bytes (b ∷ us) is = omega arith

one_byte : (b : ℕ) (bs : Text) → 1 ≤ length (b ∷ bs)
one_byte b bs = omega arith

sign_bytes : (x : SymbolOf) → 1 ≤ length (sign x)
sign_bytes s.Assign = one_byte 61 []
sign_bytes (s.Compare compare.Eq) = one_byte 61 (61 ∷ [])
sign_bytes (s.Compare compare.Ne) = one_byte 33 (61 ∷ [])
sign_bytes (s.Compare compare.Lt) = one_byte 60 []
sign_bytes (s.Compare compare.Le) = one_byte 60 (61 ∷ [])
sign_bytes (s.Compare compare.Gt) = one_byte 62 []
sign_bytes (s.Compare compare.Ge) = one_byte 62 (61 ∷ [])
sign_bytes s.Plus = one_byte 43 []
sign_bytes s.Minus = one_byte 45 []
sign_bytes s.Star = one_byte 42 []
sign_bytes s.Open = one_byte 40 []
sign_bytes s.Close = one_byte 41 []
sign_bytes s.Comma = one_byte 44 []
sign_bytes s.Semicolon = one_byte 59 []
sign_bytes s.Dot = one_byte 46 []
sign_bytes s.Colon = one_byte 58 []
sign_bytes s.ColonColon = one_byte 58 (58 ∷ [])
sign_bytes s.Question = one_byte 63 []

lexeme_bytes : {us : Text} {x : Lexeme} → IsLexeme us x → 1 ≤ length us
lexeme_bytes (lex.blank b is) = omega arith
lexeme_bytes (lex.line_comment us is) = omega arith
lexeme_bytes (lex.block_comment us is) = omega arith
lexeme_bytes (lex.identifier us is other another) = name_bytes us is
lexeme_bytes (lex.keyword us k is same) = name_bytes us is
lexeme_bytes (lex.group us is same) = name_bytes us is
lexeme_bytes (lex.number us is) = digit_bytes us is
lexeme_bytes (lex.long_number us b is ends) = let l = length-append us (b ∷ []) in omega (arith, l)
lexeme_bytes (lex.position us is) = omega arith
lexeme_bytes (lex.literal spelled) = omega arith
lexeme_bytes (lex.symbol x) = sign_bytes x

tokens_few : {at : ℕ} {text : Text} {ps : List Placed} → IsTokens at text ps → length ps ≤ length text
tokens_few scan.end = omega arith
tokens_few (scan.gap {us = us} {rest = rest} x longest more) =
    let h = tokens_few more in
    let l = length-append us rest in
    omega (arith, h, l)
tokens_few (scan.token {us = us} {rest = rest} t x longest more) =
    let one = lexeme_bytes x in
    let h = tokens_few more in
    let l = length-append us rest in
    omega (arith, one, h, l)

-- the tokens of a text that is short enough
placed_few : (text : Text) (ps : List Placed) → length text ≤ MAX_SCRIPT_BYTES → IsTokens 0 text ps → length ps ≤ MAX_FIELDS
placed_few text ps short lexed =
    let h = tokens_few lexed in
    let top : length text ≤ 65536 = short in
    let few : length ps ≤ 65536 = omega (arith, h, top) in
    few

-- ---- each statement has its `;`
abbrev closes : List Token → ℕ
closes [] = 0
closes (t ∷ ts) = if is_semicolon t then 1 + closes ts else closes ts

closes_append : (ts us : List Token) → closes (ts ++ us) ≡ closes ts + closes us
closes_append [] us = omega arith
closes_append (t ∷ ts) us = by (is_semicolon t) (closes_append ts us)
  where
    by : (v : Bool) → closes (ts ++ us) ≡ closes ts + closes us
        → (if v then 1 + closes (ts ++ us) else closes (ts ++ us)) ≡ (if v then 1 + closes ts else closes ts) + closes us
    by true h = omega (arith, h)
    by false h = h

closes_all : (ps : List Placed) → closes (tokens_of ps) ≡ semicolons ps
closes_all ps = is_count_by (λ ps. closes (tokens_of ps)) (λ p. is_semicolon p.token) refl (λ p ps. refl) ps

statement_closes : {ts : List Token} {x : Body} → IsStatement ts x → 1 ≤ closes ts
statement_closes (st.define {ts = ts} d) = let h = closes_append ts (Symbol s.Semicolon ∷ []) in omega (arith, h)
statement_closes st.store = omega arith

few : {ps : List Placed} {xs : List Statement} → IsScript ps xs → length xs ≤ closes (tokens_of ps)
few empty = omega arith
few (store ps d) = statement_closes d
few (define ps rest d more) =
    let both = ap closes (map-append (λ (p : Placed). p.token) ps rest) ∙ closes_append (tokens_of ps) (tokens_of rest) in
    let one = statement_closes d in
    let later = few more in
    omega (arith, both, one, later)

small : (ps : List Placed) (xs : List Statement) → length ps ≤ MAX_FIELDS → semicolons ps ≤ MAX_SEMICOLONS → first_deep ps ≡ None → IsScript ps xs → IsSmall xs
small ps xs short most deep script =
    let c = has_count 0 ps (deep_law ps ∙ deep) in
    let all = few script in
    let is = closes_all ps in
    let top : semicolons ps ≤ 257 = most in
    let few_of : length xs ≤ 257 = omega (arith, all, is, top) in
    record { few = few_of; each = each_small script short 0 c.0 (omega arith) c.1 }

-- what is read of the tokens of a text within the limits is small
pub read_small : (text : Text) (ps : List Placed) (xs : List Statement) → length text ≤ MAX_SCRIPT_BYTES → IsTokens 0 text ps → limit ps ≡ None
    → Ok xs ≡ statements (length text) (cuts ps) → IsSmall xs
read_small text ps xs short lexed l r = by (nat_lt MAX_SEMICOLONS (semicolons ps)) refl (first_deep ps) refl l
  where
    by : (v : Bool) → nat_lt MAX_SEMICOLONS (semicolons ps) ≡ v → (d : Option ℕ) → first_deep ps ≡ d
        → (if v then Some fault.TooLong else deep_or d (if nat_lt MAX_ASSIGNS (assigns ps) then Some fault.TooLong else None)) ≡ None → IsSmall xs
    by true e d f h = absurd cc
    by false e (Some at) f h = absurd cc
    by false e None f h = small ps xs (placed_few text ps short lexed) (ltb-false _ _ e) f (subst (Reads (length text) ps) (sym r) (reads (length text) ps))

pub scripts_small : ScriptsAreSmall
scripts_small text xs r = small r.tokens xs (placed_few text r.tokens r.short r.lexed) r.within.few_semicolons r.within.shallow r.script
