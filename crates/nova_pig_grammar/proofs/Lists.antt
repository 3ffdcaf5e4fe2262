-- Lists with commas between.
use Rattle.std.proofs.Common.{◌≡◌, ℕ, zero, suc, ◌<◌, ◌≤◌, false, List, [], ◌∷◌, ◌++◌, length, Some, None, Err, refl, ap, sym, ◌∙◌, arith, append_assoc}
use Rattle.std.proofs.lemmas.List.{append-nil}
use Rattle.nova_pig_tree.specs.declared.token.Token.{Token}
use Rattle.nova_pig_tree.specs.declared.token.Token.TheVariants.{Symbol}
use Rattle.nova_pig_tree.specs.declared.token.Symbol.TheVariants as s
use Rattle.nova_pig_grammar.specs.declared.fault.Fault.{Fault}
use Rattle.nova_pig_grammar.specs.declared.fault.Fault.TheVariants.{Syntax, NoMemory}
use Rattle.nova_pig_grammar.specs.ExpressionReading.{Reading, Reader, and_then, begins_comma, Answers}
use Rattle.nova_pig_grammar.proofs.Steps.{bind-same}
use Rattle.nova_pig_grammar.specs.StatementReading.{more_by, more, listed, ahead}

-- a reader that adds no tokens
abbrev pub NoLonger : {A : Type 0} → Reader A → Type 0
NoLonger {A} r = (ts : List Token) (x : A) (rest : List Token) → r ts ≡ Some (x, rest) → length rest ≤ length ts

module _ {A : Type 0} (one : Reader A) (shrinks : NoLonger one) where
  enough : (n m : ℕ) (ts : List Token) → length ts < n → length ts < m → more_by one n ts ≡ more_by one m ts
  unfolding more_by
  enough zero m ts h k = absurd (omega arith)
  enough (suc n) zero ts h k = absurd (omega arith)
  enough (suc n) (suc m) (Symbol s.Comma ∷ ts) h k =
      bind-same (one ts) _ _ refl (λ a rest eq. let less = shrinks ts a rest eq in
      ap (λ r. and_then r (λ as' us. Some (a ∷ as', us))) (enough n m rest (omega arith) (omega arith)))
  enough (suc n) (suc m) _ h k = refl

  pub more-comma : (ts : List Token) → more one (Symbol s.Comma ∷ ts) ≡ and_then (one ts) (λ a us. and_then (more one us) (λ as' vs. Some (a ∷ as', vs)))
  unfolding more more_by
  more-comma ts =
      bind-same (one ts) _ _ refl (λ a rest eq. let less = shrinks ts a rest eq in
      ap (λ r. and_then r (λ as' us. Some (a ∷ as', us))) (enough (suc (length ts)) (suc (length rest)) rest (omega arith) (omega arith)))

  ahead_more : (prefix : List A) (a : A) (r : Reading (List A)) → ahead prefix (and_then r (λ as' vs. Some (a ∷ as', vs))) ≡ ahead (prefix ++ a ∷ []) r
  ahead_more prefix a None = refl
  ahead_more prefix a (Some p) = ap (λ xs. Some (xs, p.1)) (sym (append_assoc prefix (a ∷ []) p.0))

  pub first : (ts : List Token) (a : A) (rest : List Token) → one ts ≡ Some (a, rest) → listed one ts ≡ ahead (a ∷ []) (more one rest)
  first ts a rest e = ap (λ r. and_then r (λ a us. and_then (more one us) (λ as' vs. Some (a ∷ as', vs)))) e

  pub turn : (prefix : List A) (old mid : List Token) (a : A) (new : List Token) → old ≡ Symbol s.Comma ∷ mid → one mid ≡ Some (a, new)
      → ahead prefix (more one old) ≡ ahead (prefix ++ a ∷ []) (more one new)
  turn prefix old mid a new is e =
      ap (λ ts. ahead prefix (more one ts)) is ∙ ap (ahead prefix) (more-comma mid ∙ ap (λ r. and_then r (λ a us. and_then (more one us) (λ as' vs. Some (a ∷ as', vs)))) e)
      ∙ ahead_more prefix a (more one new)

  pub fails : (prefix : List A) (old mid : List Token) → old ≡ Symbol s.Comma ∷ mid → one mid ≡ None → ahead prefix (more one old) ≡ None
  fails prefix old mid is e =
      ap (λ ts. ahead prefix (more one ts)) is ∙ ap (ahead prefix) (more-comma mid ∙ ap (λ r. and_then r (λ a us. and_then (more one us) (λ as' vs. Some (a ∷ as', vs)))) e)

  pub fault : (prefix : List A) (ts old mid new end : List Token) (f : Fault) → listed one ts ≡ ahead prefix (more one old) → old ≡ Symbol s.Comma ∷ mid
      → Answers {A = A} (one mid) (Err f) new → Answers {A = List A} (listed one ts) (Err f) end
  fault prefix ts old mid new end Syntax e is h = e ∙ fails prefix old mid is h
  fault prefix ts old mid new end NoMemory e is h = tt

pub first_fails : {A : Type 0} (one : Reader A) (ts : List Token) → one ts ≡ None → listed one ts ≡ None
first_fails one ts e = ap (λ r. and_then r (λ a us. and_then (more one us) (λ as' vs. Some (a ∷ as', vs)))) e

pub more-stop : {A : Type 0} (one : Reader A) (ts : List Token) → begins_comma ts ≡ false → more one ts ≡ Some ([], ts)
unfolding more more_by
more-stop one [] e = refl
more-stop one (Symbol s.Comma ∷ ts) e = absurd cc
more-stop one (t ∷ ts) e = refl

pub last : {A : Type 0} (one : Reader A) (prefix : List A) (ts : List Token) → begins_comma ts ≡ false → ahead prefix (more one ts) ≡ Some (prefix, ts)
last one prefix ts e = ap (ahead prefix) (more-stop one ts e) ∙ ap (λ xs. Some (xs, ts)) (append-nil prefix)
