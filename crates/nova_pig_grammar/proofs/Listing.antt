-- Lists with commas are read exactly.
use Rattle.std.proofs.Common.{◌≡◌, ℕ, zero, suc, false, List, [], ◌∷◌, ◌++◌, length, Some, ap, subst, ◌∙◌, append_assoc}
use Rattle.nova_pig_tree.specs.declared.token.Token.{Token}
use Rattle.nova_pig_tree.specs.declared.token.Token.TheVariants.{Symbol}
use Rattle.nova_pig_tree.specs.declared.token.Symbol.TheVariants as s
use Rattle.nova_pig_grammar.specs.ExpressionReading.{Reader, and_then, begins_comma}
use Rattle.nova_pig_grammar.proofs.Steps.{bound, same_rest, same_value}
use Rattle.nova_pig_grammar.proofs.ExpressionSound.{joined}
use Rattle.nova_pig_grammar.specs.StatementReading.{more_by, more, listed}
use Rattle.nova_pig_grammar.specs.Statement.{Tail, none, next, Listed, begin}
use Rattle.nova_pig_grammar.proofs.Lists.{NoLonger, more-comma, more-stop}

abbrev pub Sound : {A : Type 0} → Reader A → (List Token → A → Type 0) → Type 0
Sound {A} r R = (ts : List Token) (x : A) (rest : List Token) → r ts ≡ Some (x, rest) → (prefix : List Token) × (ts ≡ prefix ++ rest) × R prefix x

abbrev pub Complete : {A : Type 0} → Reader A → (List Token → A → Type 0) → (List Token → Type 0) → Type 0
Complete {A} r R Stop = (ts : List Token) (x : A) → R ts x → (rest : List Token) → Stop rest → r (ts ++ rest) ≡ Some (x, rest)

module _ {A : Type 0} (one : Reader A) (One : List Token → A → Type 0) (sound : Sound one One) where
  tail-sound : (n : ℕ) → Sound (more_by one n) (Tail One)
  unfolding more_by
  tail-sound zero ts x rest eq = absurd cc
  tail-sound (suc n) (Symbol s.Comma ∷ ts) x rest eq =
      let (a, mid, e1, then) = bound (one ts) (λ a us. and_then (more_by one n us) (λ as' vs. Some (a ∷ as', vs))) eq in
      let (more', end, e2, last) = bound (more_by one n mid) (λ as' vs. Some (a ∷ as', vs)) then in
      let (f, f-is, d) = sound ts a mid e1 in
      let (g, g-is, d') = tail-sound n mid more' end e2 in (
        Symbol s.Comma ∷ f ++ g,
        ap (λ us. Symbol s.Comma ∷ us) (joined f g rest f-is (g-is ∙ ap (λ r. g ++ r) (same_rest last))),
        subst (λ z. Tail One (Symbol s.Comma ∷ f ++ g) z) (same_value last) (next d d'),
      )
  tail-sound (suc n) ts x rest eq = ([], same_rest eq, subst (λ z. Tail One [] z) (same_value eq) none)

  pub listed-sound : Sound (listed one) (Listed One)
  unfolding more
  listed-sound ts x rest eq =
      let (a, mid, e1, then) = bound (one ts) (λ a us. and_then (more one us) (λ as' vs. Some (a ∷ as', vs))) eq in
      let (more', end, e2, last) = bound (more one mid) (λ as' vs. Some (a ∷ as', vs)) then in
      let (f, f-is, d) = sound ts a mid e1 in
      let (g, g-is, d') = tail-sound (suc (length mid)) mid more' end e2 in
      (f ++ g, joined f g rest f-is (g-is ∙ ap (λ r. g ++ r) (same_rest last)), subst (λ z. Listed One (f ++ g) z) (same_value last) (begin d d'))

module _ {A : Type 0} (one : Reader A) (One : List Token → A → Type 0) (Stop : List Token → Type 0)
    (shrinks : NoLonger one) (complete : Complete one One Stop) (comma-stops : (ts : List Token) → Stop (Symbol s.Comma ∷ ts)) where
  tail-stops : (us : List Token) (as' : List A) → Tail One us as' → (rest : List Token) → Stop rest → Stop (us ++ rest)
  tail-stops us as' none rest h = h
  tail-stops us as' (next {ts = ts} {us = vs} d d') rest h = comma-stops ((ts ++ vs) ++ rest)

  tail-complete : {ts : List Token} {as' : List A} → Tail One ts as' → (rest : List Token) → Stop rest → begins_comma rest ≡ false → more one (ts ++ rest) ≡ Some (as', rest)
  tail-complete none rest h k = more-stop one rest k
  tail-complete (next {ts = ts} {us = us} {a = a} {as' = as'} d d') rest h k =
      ap (λ vs. more one (Symbol s.Comma ∷ vs)) (append_assoc ts us rest)
      ∙ more-comma one shrinks (ts ++ (us ++ rest))
      ∙ ap (λ r. and_then r (λ a us. and_then (more one us) (λ as' vs. Some (a ∷ as', vs)))) (complete ts a d (us ++ rest) (tail-stops us as' d' rest h))
      ∙ ap (λ r. and_then r (λ as' vs. Some (a ∷ as', vs))) (tail-complete d' rest h k)

  pub listed-complete : {ts : List Token} {xs : List A} → Listed One ts xs → (rest : List Token) → Stop rest → begins_comma rest ≡ false → listed one (ts ++ rest) ≡ Some (xs, rest)
  listed-complete (begin {ts = ts} {us = us} {a = a} {as' = as'} d d') rest h k =
      ap (listed one) (append_assoc ts us rest)
      ∙ ap (λ r. and_then r (λ a us. and_then (more one us) (λ as' vs. Some (a ∷ as', vs)))) (complete ts a d (us ++ rest) (tail-stops us as' d' rest h))
      ∙ ap (λ r. and_then r (λ as' vs. Some (a ∷ as', vs))) (tail-complete d' rest h k)
