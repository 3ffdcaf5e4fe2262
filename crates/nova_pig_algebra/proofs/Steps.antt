-- One step of the loops over columns.
use Rattle.std.specs.Prelude.{◌≡◌, ◌<◌, ◌+◌, ◌-◌, ℕ, zero, suc, if◌then◌else◌, Bool, List, [], ◌∷◌, ◌++◌, Option, Some, None, length, refl}
use Rattle.std.proofs.Common.{ap, sym, ◌∙◌, arith, append_assoc, get_or}
use Rattle.nova_pig_algebra.specs.declared.node.PlanExpr.{PlanExpr}
use Rattle.nova_pig_algebra.specs.declared.facts.Facts.{Facts}
use Rattle.nova_pig_algebra.specs.Keys.{unknown, unknowns, are_apart, in_arms, first_apart, columns_from, Plain, and_place, place_of, places_of}

none_of : (p : Option ℕ) → and_place p None ≡ None
none_of None = refl
none_of (Some p) = refl

pub unknowns_suc : (n : ℕ) → unknowns (suc n) ≡ unknowns n ++ unknown ∷ []
unknowns_suc zero = refl
unknowns_suc (suc n) = ap (λ os. unknown ∷ os) (unknowns_suc n)

pub unknowns_more : (n : ℕ) → unknowns (n + 1) ≡ unknowns n ++ unknown ∷ []
unknowns_more n = let is : n + 1 ≡ suc n = omega arith in ap unknowns is ∙ unknowns_suc n

pub apart_next : (arms : List Facts) (n i : ℕ) → i < n → first_apart arms i (n - i) ≡ (if are_apart (in_arms i arms) then Some i else first_apart arms (i + 1) (n - (i + 1)))
apart_next arms n i h =
    let a : n - i ≡ suc (n - (i + 1)) = omega arith in
    let b : suc i ≡ i + 1 = omega arith in
    ap (first_apart arms i) a ∙ ap (λ k. if are_apart (in_arms i arms) then Some i else first_apart arms k (n - (i + 1))) b

pub columns_next : (n i : ℕ) → i < n → columns_from i (n - i) ≡ i ∷ columns_from (i + 1) (n - (i + 1))
columns_next n i h =
    let a : n - i ≡ suc (n - (i + 1)) = omega arith in
    let b : suc i ≡ i + 1 = omega arith in
    ap (columns_from i) a ∙ ap (λ k. i ∷ columns_from k (n - (i + 1))) b

pub columns_kept : (n i k : ℕ) (whole out new : List ℕ) → i < n → whole ≡ out ++ columns_from i (n - i) → k ≡ i → new ≡ out ++ k ∷ [] → whole ≡ new ++ columns_from (i + 1) (n - (i + 1))
columns_kept n i k whole out new h e same pushed =
    e ∙ ap (λ z. out ++ z) (columns_next n i h) ∙ sym (append_assoc out (i ∷ []) (columns_from (i + 1) (n - (i + 1))))
    ∙ ap (λ z. (out ++ z ∷ []) ++ columns_from (i + 1) (n - (i + 1))) (sym same) ∙ ap (λ z. z ++ columns_from (i + 1) (n - (i + 1))) (sym pushed)

-- ---- a column that no item is
pub missing : (test : ℕ → Plain → Bool) (items : List PlanExpr) (key : List ℕ) (i : ℕ) → i < length key → place_of (test (get_or key i 0)) items ≡ None → places_of test items key ≡ None
missing test items [] i h e = absurd (omega arith)
missing test items (k ∷ ks) zero h e = ap (λ p. and_place p (places_of test items ks)) e
missing test items (k ∷ ks) (suc i) h e = ap (and_place (place_of (test k) items)) (missing test items ks i (omega arith) e) ∙ none_of (place_of (test k) items)
