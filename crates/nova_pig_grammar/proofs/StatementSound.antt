-- Statements are read exactly.
use Rattle.std.proofs.Common.{◌≡◌, ℕ, List, [], ◌∷◌, ◌++◌, Some, None, refl, ap, sym, subst, ◌∙◌, append_assoc}
use Rattle.nova_pig_tree.specs.declared.expression.Field.{Field}
use Rattle.nova_pig_tree.specs.declared.statement.Op.{Op}
use Rattle.nova_pig_tree.specs.declared.statement.Op.TheVariants as op
use Rattle.nova_pig_tree.specs.declared.token.Token.{Token}
use Rattle.nova_pig_tree.specs.declared.token.Token.TheVariants.{Ident, Word, Group, Literal, Symbol}
use Rattle.nova_pig_tree.specs.declared.token.Word.TheVariants as w
use Rattle.nova_pig_tree.specs.declared.token.Symbol.TheVariants as s
use Rattle.nova_pig_grammar.specs.declared.operators.Mark.TheVariants as m
use Rattle.nova_pig_grammar.specs.Expression.{IsField, whole}
use Rattle.nova_pig_grammar.specs.ExpressionReading.{Reading, and_then, read, At, followed, closed, field_at}
use Rattle.nova_pig_grammar.proofs.Steps.{bound, same_rest, same_value}
use Rattle.nova_pig_grammar.proofs.ExpressionSound.{read-sound, field_at-sound, joined, closed-sound}
use Rattle.nova_pig_grammar.specs.StatementReading.{listed, item_at, name_at, columns_at, name_then, op_at, two, ended, cut_at, body_of, all_of}
use Rattle.nova_pig_grammar.specs.Statement as st
use Rattle.nova_pig_grammar.specs.Statement.{Listed, IsColumns, IsName, IsOp, IsStatement}
use Rattle.nova_pig_tree.specs.declared.statement.Body.{Body}
use Rattle.nova_pig_tree.specs.declared.statement.Body.TheVariants as body
use Rattle.nova_pig_grammar.proofs.Parts.{items-sound}
use Rattle.std.proofs.Common.{Result, Ok, Err, IfOk, MatchResult}
use Rattle.nova_pig_grammar.specs.declared.fault.Fault.{Fault}
use Rattle.nova_pig_grammar.specs.declared.fault.Fault.TheVariants.{Syntax, NoMemory}
use Rattle.nova_pig_grammar.specs.StatementReading.{IsBodyOf}
use Rattle.nova_pig_grammar.proofs.StatementComplete.{cut-complete}
use Rattle.nova_pig_grammar.proofs.Listing.{Sound, listed-sound}

column-other : (ts : List Token) (fs : List Field) (rest : List Token) → and_then (field_at ts) (λ a us. Some (a ∷ [], us)) ≡ Some (fs, rest)
    → (prefix : List Token) × (ts ≡ prefix ++ rest) × IsColumns prefix fs
column-other ts fs rest eq =
    let (a, mid, e1, then) = bound (field_at ts) (λ a us. Some (a ∷ [], us)) eq in
    let (f, f-is, d) = field_at-sound ts a mid e1 in
    (f, f-is ∙ ap (λ r. f ++ r) (same_rest then), subst (λ z. IsColumns f z) (same_value then) (st.single d))

pub columns-sound : Sound columns_at IsColumns
columns-sound (Symbol s.Open ∷ ts) fs rest eq =
    let (gs, mid, e1, then) = bound (listed field_at ts) closed eq in
    let (f, f-is, d) = listed-sound field_at IsField field_at-sound ts gs mid e1 in
    let (mid-is, same) = closed-sound gs mid fs rest then in (
      Symbol s.Open ∷ f ++ Symbol s.Close ∷ [],
      ap (λ us. Symbol s.Open ∷ us) (f-is ∙ ap (λ r. f ++ r) mid-is ∙ sym (append_assoc f (Symbol s.Close ∷ []) rest)),
      subst (λ z. IsColumns (Symbol s.Open ∷ f ++ Symbol s.Close ∷ []) z) same (st.several d),
    )
columns-sound ts fs rest eq = column-other ts fs rest eq

by-sound : (ts : List Token) (a : List ℕ) (rest : List Token) → name_then m.By ts ≡ Some (a, rest) → ts ≡ Ident a ∷ Word w.By ∷ rest
by-sound (Ident n ∷ Word w.By ∷ ts) a rest eq = ap (λ us. Ident n ∷ Word w.By ∷ us) (same_rest eq) ∙ ap (λ n. Ident n ∷ Word w.By ∷ rest) (same_value eq)
by-sound _ a rest eq = absurd cc

generate-sound : (ts : List Token) (a : List ℕ) (rest : List Token) → name_then m.Generate ts ≡ Some (a, rest) → ts ≡ Ident a ∷ Word w.Generate ∷ rest
generate-sound (Ident n ∷ Word w.Generate ∷ ts) a rest eq = ap (λ us. Ident n ∷ Word w.Generate ∷ us) (same_rest eq) ∙ ap (λ n. Ident n ∷ Word w.Generate ∷ rest) (same_value eq)
generate-sound _ a rest eq = absurd cc

name-sound : Sound name_at IsName
name-sound (Ident n ∷ ts) a rest eq = (Ident n ∷ [], ap (λ us. Ident n ∷ us) (same_rest eq), subst (λ z. IsName (Ident n ∷ []) z) (same_value eq) st.name)
name-sound _ a rest eq = absurd cc

comma-sound : {A : Type 0} (x : A) (ts : List Token) (y : A) (rest : List Token) → followed m.Comma x ts ≡ Some (y, rest) → (ts ≡ Symbol s.Comma ∷ rest) × (x ≡ y)
comma-sound x (Symbol s.Comma ∷ ts) y rest eq = (ap (λ us. Symbol s.Comma ∷ us) (same_rest eq), same_value eq)
comma-sound x _ y rest eq = absurd cc

op-along : {x y : Op} (ts : List Token) → IsOp ts x → x ≡ y → IsOp ts y
op-along ts d eq = subst (λ z. IsOp ts z) eq d

two-sound : (ts f : List Token) (ns : List (List ℕ)) (mid : List Token) (o : Op) (rest : List Token) → ts ≡ f ++ mid → Listed IsName f ns → two ns mid ≡ Some (o, rest)
    → (prefix : List Token) × (Word w.Union ∷ ts ≡ prefix ++ rest) × IsOp prefix o
two-sound ts f (a ∷ b ∷ cs) mid o rest is d eq =
    (Word w.Union ∷ f, ap (λ us. Word w.Union ∷ us) (is ∙ ap (λ r. f ++ r) (same_rest eq)), op-along (Word w.Union ∷ f) (st.union d) (same_value eq))
two-sound ts f (a ∷ []) mid o rest is d eq = absurd cc
two-sound ts f [] mid o rest is d eq = absurd cc

pub op-sound : Sound op_at IsOp
op-sound (Word w.Load ∷ Literal c ∷ ts) o rest eq = (Word w.Load ∷ Literal c ∷ [], ap (λ us. Word w.Load ∷ Literal c ∷ us) (same_rest eq), op-along (Word w.Load ∷ Literal c ∷ []) st.load (same_value eq))
op-sound (Word w.Filter ∷ ts) o rest eq =
    let (a, mid, e1, then) = bound (name_then m.By ts) (λ a us. and_then (read (At whole) us) (λ x vs. Some (op.Filter a x, vs))) eq in
    let (x, end, e2, last) = bound (read (At whole) mid) (λ x vs. Some (op.Filter a x, vs)) then in
    let (f, f-is, d) = read-sound (At whole) mid x end e2 in (
      Word w.Filter ∷ Ident a ∷ Word w.By ∷ f,
      ap (λ us. Word w.Filter ∷ us) (by-sound ts a mid e1) ∙ ap (λ us. Word w.Filter ∷ Ident a ∷ Word w.By ∷ us) (f-is ∙ ap (λ r. f ++ r) (same_rest last)),
      op-along (Word w.Filter ∷ Ident a ∷ Word w.By ∷ f) (st.filter d) (same_value last),
    )
op-sound (Word w.Foreach ∷ ts) o rest eq =
    let (a, mid, e1, then) = bound (name_then m.Generate ts) (λ a us. and_then (listed item_at us) (λ x vs. Some (op.Foreach a x, vs))) eq in
    let (x, end, e2, last) = bound (listed item_at mid) (λ x vs. Some (op.Foreach a x, vs)) then in
    let (f, f-is, d) = items-sound mid x end e2 in (
      Word w.Foreach ∷ Ident a ∷ Word w.Generate ∷ f,
      ap (λ us. Word w.Foreach ∷ us) (generate-sound ts a mid e1) ∙ ap (λ us. Word w.Foreach ∷ Ident a ∷ Word w.Generate ∷ us) (f-is ∙ ap (λ r. f ++ r) (same_rest last)),
      op-along (Word w.Foreach ∷ Ident a ∷ Word w.Generate ∷ f) (st.foreach d) (same_value last),
    )
op-sound (Group b ∷ ts) o rest eq =
    let (a, mid, e1, then) = bound (name_then m.By ts) (λ a us. and_then (columns_at us) (λ x vs. Some (op.Group a x, vs))) eq in
    let (x, end, e2, last) = bound (columns_at mid) (λ x vs. Some (op.Group a x, vs)) then in
    let (f, f-is, d) = columns-sound mid x end e2 in (
      Group b ∷ Ident a ∷ Word w.By ∷ f,
      ap (λ us. Group b ∷ us) (by-sound ts a mid e1) ∙ ap (λ us. Group b ∷ Ident a ∷ Word w.By ∷ us) (f-is ∙ ap (λ r. f ++ r) (same_rest last)),
      op-along (Group b ∷ Ident a ∷ Word w.By ∷ f) (st.group b d) (same_value last),
    )
op-sound (Word w.Join ∷ ts) o rest eq =
    let (a, m1, e1, t1) = bound (name_then m.By ts) (λ a us. and_then (columns_at us) (λ fs vs. and_then (followed m.Comma fs vs) (λ fs vs. and_then (name_then m.By vs) (λ b vs. and_then (columns_at vs) (λ gs vs. Some (op.Join a fs b gs, vs)))))) eq in
    let (fs, m2, e2, t2) = bound (columns_at m1) (λ fs vs. and_then (followed m.Comma fs vs) (λ fs vs. and_then (name_then m.By vs) (λ b vs. and_then (columns_at vs) (λ gs vs. Some (op.Join a fs b gs, vs))))) t1 in
    let (fs2, m3, e3, t3) = bound (followed m.Comma fs m2) (λ fs vs. and_then (name_then m.By vs) (λ b vs. and_then (columns_at vs) (λ gs vs. Some (op.Join a fs b gs, vs)))) t2 in
    let (b, m4, e4, t4) = bound (name_then m.By m3) (λ b vs. and_then (columns_at vs) (λ gs vs. Some (op.Join a fs2 b gs, vs))) t3 in
    let (gs, m5, e5, t5) = bound (columns_at m4) (λ gs vs. Some (op.Join a fs2 b gs, vs)) t4 in
    let (f, f-is, d) = columns-sound m1 fs m2 e2 in
    let (h, h-is, d') = columns-sound m4 gs m5 e5 in
    let (m2-is, same) = comma-sound fs m2 fs2 m3 e3 in
    let tail : m2 ≡ (Symbol s.Comma ∷ Ident b ∷ Word w.By ∷ h) ++ rest = m2-is ∙ ap (λ us. Symbol s.Comma ∷ us) (by-sound m3 b m4 e4) ∙ ap (λ us. Symbol s.Comma ∷ Ident b ∷ Word w.By ∷ us) (h-is ∙ ap (λ r. h ++ r) (same_rest t5)) in (
      Word w.Join ∷ Ident a ∷ Word w.By ∷ f ++ Symbol s.Comma ∷ Ident b ∷ Word w.By ∷ h,
      ap (λ us. Word w.Join ∷ us) (by-sound ts a m1 e1) ∙ ap (λ us. Word w.Join ∷ Ident a ∷ Word w.By ∷ us) (joined f (Symbol s.Comma ∷ Ident b ∷ Word w.By ∷ h) rest f-is tail),
      op-along (Word w.Join ∷ Ident a ∷ Word w.By ∷ f ++ Symbol s.Comma ∷ Ident b ∷ Word w.By ∷ h) (st.join d d') (ap (λ fs. op.Join a fs b gs) same ∙ same_value t5),
    )
op-sound (Word w.Union ∷ ts) o rest eq =
    let (ns, mid, e1, then) = bound (listed name_at ts) two eq in
    let (f, f-is, d) = listed-sound name_at IsName name-sound ts ns mid e1 in
    two-sound ts f ns mid o rest f-is d then
op-sound (Word w.Distinct ∷ Ident a ∷ ts) o rest eq = (Word w.Distinct ∷ Ident a ∷ [], ap (λ us. Word w.Distinct ∷ Ident a ∷ us) (same_rest eq), op-along (Word w.Distinct ∷ Ident a ∷ []) st.distinct (same_value eq))
op-sound _ o rest eq = absurd cc

whole-is : {A : Type 0} (r : Reading A) (x : A) → all_of r ≡ Some x → r ≡ Some (x, [])
whole-is (Some (a, [])) x eq = cc
whole-is (Some (a, t ∷ ts)) x eq = absurd cc
whole-is None x eq = absurd cc

ended-sound : {A : Type 0} (x : A) (ts : List Token) (y : A) (rest : List Token) → ended x ts ≡ Some (y, rest) → (ts ≡ Symbol s.Semicolon ∷ rest) × (x ≡ y)
ended-sound x (Symbol s.Semicolon ∷ ts) y rest eq = (ap (λ us. Symbol s.Semicolon ∷ us) (same_rest eq), same_value eq)
ended-sound x _ y rest eq = absurd cc

cut-along : {ts us : List Token} {x y : Body} → IsStatement ts x → ts ≡ us → x ≡ y → IsStatement us y
cut-along {us = us} {x = x} d is eq = subst (λ z. IsStatement us z) eq (subst (λ vs. IsStatement vs x) is d)

read-cut : (cut : List Token) (b : Body) → cut_at cut ≡ Some (b, []) → IsStatement cut b
read-cut (Ident a ∷ Symbol s.Assign ∷ ts) b eq =
    let (o, mid, e1, then) = bound (op_at ts) (λ o. ended (body.Define a o)) eq in
    let (f, f-is, d) = op-sound ts o mid e1 in
    let (mid-is, same) = ended-sound (body.Define a o) mid b [] then in
    cut-along (st.define d) (ap (λ us. Ident a ∷ Symbol s.Assign ∷ us) (sym (f-is ∙ ap (λ r. f ++ r) mid-is))) same
read-cut (Word w.Store ∷ Ident a ∷ Word w.Into ∷ Literal c ∷ ts) b eq =
    let (ts-is, same) = ended-sound (body.Store a c) ts b [] eq in
    cut-along st.store (ap (λ us. Word w.Store ∷ Ident a ∷ Word w.Into ∷ Literal c ∷ us) (sym ts-is)) same
read-cut _ b eq = absurd cc

pub cut-sound : (cut : List Token) (b : Body) → body_of cut ≡ Some b → IsStatement cut b
cut-sound cut b eq = read-cut cut b (whole-is (cut_at cut) b eq)

pub found_cut : (cut : List Token) (r : Result Body Fault) → IsBodyOf cut r → IfOk r (λ b. IsStatement cut b)
found_cut cut (Ok b) e = cut-sound cut b e
found_cut cut (Err f) e = tt

pub given_cut : (cut : List Token) (r : Result Body Fault) → IsBodyOf cut r → (b : Body) → IsStatement cut b → MatchResult r (λ found. found ≡ b) (λ e. e ≡ NoMemory)
given_cut cut (Ok a) e b d = let k = sym e ∙ cut-complete d in cc
given_cut cut (Err Syntax) e b d = let k = sym e ∙ cut-complete d in absurd cc
given_cut cut (Err NoMemory) e b d = refl
