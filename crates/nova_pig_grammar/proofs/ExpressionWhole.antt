-- All tokens as one expression.
use Rattle.std.proofs.Common.{◌≡◌, List, [], ◌++◌, Some, Err, refl, ap, sym, subst, ◌∙◌}
use Rattle.std.proofs.lemmas.List.{append-nil}
use Rattle.nova_pig_tree.specs.declared.expression.Expr.{Expr}
use Rattle.nova_pig_tree.specs.declared.token.Token.{Token}
use Rattle.nova_pig_grammar.specs.declared.fault.Fault.{Fault}
use Rattle.nova_pig_grammar.specs.declared.fault.Fault.TheVariants.{Syntax, NoMemory}
use Rattle.nova_pig_grammar.specs.Expression.{whole, Derives}
use Rattle.nova_pig_grammar.specs.ExpressionReading.{Answers, At, read}
use Rattle.nova_pig_grammar.proofs.Steps.{same_value, same_rest}
use Rattle.nova_pig_grammar.proofs.ExpressionSound.{read-sound}
use Rattle.nova_pig_grammar.proofs.ExpressionComplete.{read-complete}

read-all : {ts : List Token} {x : Expr} → Derives whole ts x → read (At whole) ts ≡ Some (x, [])
read-all {ts} d = ap (read (At whole)) (sym (append-nil ts)) ∙ read-complete d [] tt

pub all_sound : (ts rest : List Token) (x : Expr) → read (At whole) ts ≡ Some (x, rest) → rest ≡ [] → Derives whole ts x
all_sound ts rest x e done =
    let (prefix, is, d) = read-sound (At whole) ts x rest e in
    subst (λ us. Derives whole us x) (sym (append-nil prefix) ∙ ap (λ r. prefix ++ r) (sym done) ∙ sym is) d

pub all_value : (ts rest : List Token) (y : Expr) → read (At whole) ts ≡ Some (y, rest) → (x : Expr) → Derives whole ts x → y ≡ x
all_value ts rest y e x d = same_value (sym e ∙ read-all d)

pub all_rest : (ts rest : List Token) (y : Expr) → read (At whole) ts ≡ Some (y, rest) → (x : Expr) → Derives whole ts x → rest ≡ []
all_rest ts rest y e x d = same_rest (sym e ∙ read-all d)

-- the fault of a reading that failed
pub all_fault : (ts us rest : List Token) (f : Fault) → us ≡ ts → Answers {A = Expr} (read (At whole) us) (Err f) rest → (x : Expr) → Derives whole ts x → f ≡ NoMemory
all_fault ts us rest NoMemory same a x d = refl
all_fault ts us rest Syntax same a x d = let e = read-all d in absurd cc
