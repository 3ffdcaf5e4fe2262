-- Arms that a column tells apart, each by those before it.
use Rattle.std.specs.Prelude.{◌≡◌, ◌<◌, ◌+◌, ℕ, suc, length, take, drop, Bool, true, false, not, ◌&&◌, List, [], ◌∷◌, ◌++◌, Option, Some, None, refl}
use Rattle.std.specs.Ordering.{eq_by_cmp}
use Rattle.std.specs.Cmp.Derive.{both_true as both}
use Rattle.std.proofs.Common.{ap, sym, ◌∙◌, get_or, drop-cons}
use Rattle.std.proofs.lemmas.List.{take-append-drop, take_more}
use Rattle.nova_value.specs.declared.value.Value.{Value}
use Rattle.nova_value.specs.Order.{value_cmp}
use Rattle.nova_pig_algebra.specs.declared.facts.Facts.{Facts}
use Rattle.nova_pig_algebra.specs.Keys.{all_other, are_apart, in_arms, constant_at}
use Rattle.nova_pig_algebra.specs.Steps.{each_other, facts_at, fact_at}
use Rattle.nova_pig_algebra.proofs.Sets.{both_true}

false_right : (a b : Bool) → b ≡ false → (a && b) ≡ false
false_right true b e = e
false_right false b e = refl

other_more : (v w : Value) (os : List (Option Value)) → all_other v os ≡ true → not (eq_by_cmp value_cmp v w) ≡ true → all_other v (os ++ Some w ∷ []) ≡ true
other_more v w [] h n = both n refl
other_more v w (None ∷ os) h n = absurd cc
other_more v w (Some u ∷ os) h n =
    let hs = both_true (not (eq_by_cmp value_cmp v u)) (all_other v os) h in
    both hs.0 (other_more v w os hs.1 n)

other_less : (v w : Value) (os more : List (Option Value)) → not (eq_by_cmp value_cmp v w) ≡ false → all_other v (os ++ Some w ∷ more) ≡ false
other_less v w [] more n = ap (λ b. b && all_other v more) n
other_less v w (None ∷ os) more n = refl
other_less v w (Some u ∷ os) more n = false_right (not (eq_by_cmp value_cmp v u)) (all_other v (os ++ Some w ∷ more)) (other_less v w os more n)

-- one more that none of them has
pub apart_more : (w : Value) (os : List (Option Value)) → are_apart os ≡ true → each_other w os ≡ true → are_apart (os ++ Some w ∷ []) ≡ true
apart_more w [] h e = refl
apart_more w (None ∷ os) h e = absurd cc
apart_more w (Some v ∷ os) h e =
    let hs = both_true (all_other v os) (are_apart os) h in
    let es = both_true (not (eq_by_cmp value_cmp v w)) (each_other w os) e in
    both (other_more v w os hs.0 es.0) (apart_more w os hs.1 es.1)

-- one that one of those before it has
pub apart_same : (w : Value) (os more : List (Option Value)) → each_other w os ≡ false → are_apart (os ++ Some w ∷ more) ≡ false
apart_same w [] more e = absurd cc
apart_same w (None ∷ os) more e = refl
apart_same w (Some v ∷ os) more e = step (not (eq_by_cmp value_cmp v w)) refl e (apart_same w os more)
  where
    step : (b : Bool) → not (eq_by_cmp value_cmp v w) ≡ b → (b && each_other w os) ≡ false → (each_other w os ≡ false → are_apart (os ++ Some w ∷ more) ≡ false)
        → are_apart (Some v ∷ (os ++ Some w ∷ more)) ≡ false
    step true n e go = false_right (all_other v (os ++ Some w ∷ more)) (are_apart (os ++ Some w ∷ more)) (go e)
    step false n e go = ap (λ b. b && are_apart (os ++ Some w ∷ more)) (other_less v w os more n)

-- one that isn't constant
pub apart_none : (os more : List (Option Value)) → are_apart (os ++ None ∷ more) ≡ false
apart_none [] more = refl
apart_none (None ∷ os) more = refl
apart_none (Some v ∷ os) more = false_right (all_other v (os ++ None ∷ more)) (are_apart (os ++ None ∷ more)) (apart_none os more)

-- ---- the same of arms that stand for nodes
module _ (column : ℕ) (done : List Facts) where
  seen_both : (xs ys : List ℕ) → in_arms column (facts_at done (xs ++ ys)) ≡ in_arms column (facts_at done xs) ++ in_arms column (facts_at done ys)
  seen_both [] ys = refl
  seen_both (x ∷ xs) ys = ap (λ os. constant_at (fact_at done x).constants column ∷ os) (seen_both xs ys)

  cut : (arms : List ℕ) (i : ℕ) (o : Option Value) → i < length arms → constant_at (fact_at done (get_or arms i 0)).constants column ≡ o
      → in_arms column (facts_at done arms) ≡ in_arms column (facts_at done (take i arms)) ++ o ∷ in_arms column (facts_at done (drop (suc i) arms))
  cut arms i o h e =
      sym (ap (λ z. in_arms column (facts_at done z)) (take-append-drop i arms)) ∙ seen_both (take i arms) (drop i arms)
      ∙ ap (λ z. in_arms column (facts_at done (take i arms)) ++ in_arms column (facts_at done z)) (drop-cons arms i 0 h)
      ∙ ap (λ z. in_arms column (facts_at done (take i arms)) ++ z ∷ in_arms column (facts_at done (drop (suc i) arms))) e

  -- in each of these the first equation shows a tactic what the arm is
  pub one_more : (arms : List ℕ) (i : ℕ) (w : Value) → i < length arms → constant_at (fact_at done (get_or arms i 0)).constants column ≡ Some w
      → are_apart (in_arms column (facts_at done (take i arms))) ≡ true → each_other w (in_arms column (facts_at done (take i arms))) ≡ true
      → (each_other w (in_arms column (facts_at done (take i arms))) ≡ each_other w (in_arms column (facts_at done (take i arms))))
      × (are_apart (in_arms column (facts_at done (take (i + 1) arms))) ≡ true)
  one_more arms i w h e apart other = (
    refl,
    ap (λ z. are_apart (in_arms column (facts_at done z))) (take_more arms i 0 h)
        ∙ ap are_apart (seen_both (take i arms) (get_or arms i 0 ∷ []))
        ∙ ap (λ z. are_apart (in_arms column (facts_at done (take i arms)) ++ z ∷ [])) e
        ∙ apart_more w (in_arms column (facts_at done (take i arms))) apart other,
  )

  pub not_constant : (arms : List ℕ) (i : ℕ) → i < length arms → constant_at (fact_at done (get_or arms i 0)).constants column ≡ None
      → (constant_at (fact_at done (get_or arms i 0)).constants column ≡ constant_at (fact_at done (get_or arms i 0)).constants column)
      × (are_apart (in_arms column (facts_at done arms)) ≡ false)
  not_constant arms i h e =
      (refl, ap are_apart (cut arms i None h e) ∙ apart_none (in_arms column (facts_at done (take i arms))) (in_arms column (facts_at done (drop (suc i) arms))))

  pub same_constant : (arms : List ℕ) (i : ℕ) (w : Value) → i < length arms → constant_at (fact_at done (get_or arms i 0)).constants column ≡ Some w
      → each_other w (in_arms column (facts_at done (take i arms))) ≡ false
      → (each_other w (in_arms column (facts_at done (take i arms))) ≡ each_other w (in_arms column (facts_at done (take i arms))))
      × (are_apart (in_arms column (facts_at done arms)) ≡ false)
  same_constant arms i w h e other = (
    refl,
    ap are_apart (cut arms i (Some w) h e) ∙ apart_same w (in_arms column (facts_at done (take i arms))) (in_arms column (facts_at done (drop (suc i) arms))) other,
  )
