-- The least of a list depends only on which values stand in it.
use Rattle.std.proofs.Common.{◌≡◌, ℕ, zero, suc, ◌+◌, arith, Bool, true, false, cond, ◌||◌, List, [], ◌∷◌, fold, refl, ap, sym, ◌∙◌}
use Rattle.std.specs.Prelude.{is_some, ◌⊎◌}
use Rattle.std.proofs.Common.{inl, inr}
use Rattle.std.specs.declared.cmp.Ordering.{Ordering}
use Rattle.std.specs.declared.cmp.Ordering.TheVariants.{Less, Equal, Greater}
use Rattle.std.specs.Ordering.{eq_by_cmp, is_eq, is_lt, is_gt, ordering_reverse}
use Rattle.std.specs.Cmp.{IsTotalOrder}
use Rattle.std.specs.List.{list_any}
use Rattle.std.specs.FinMap.{IsAntisymmetric, keys, contains_key-keys}
use Rattle.std.proofs.lemmas.Cmp.{tied_itself, upto}
use Rattle.nova_value.specs.declared.value.Value.{Value}
use Rattle.nova_value.specs.Order.{value_cmp}
use Rattle.nova_groups.specs.State.{number, counted, positive}
use Rattle.nova_pig_algebra.specs.Meaning.{pick, best}
use Rattle.nova_groups.proofs.Counts.{get-counted}

equal : (o : Ordering) → is_eq o ≡ true → o ≡ Equal
equal Less e = cc
equal Equal e = refl
equal Greater e = cc

module _ (R : Value → Value → Ordering) (o : IsTotalOrder R) (same : IsAntisymmetric R) where
  In : Value → List Value → Type 0
  In v vs = list_any (eq_by_cmp R v) vs ≡ true

  -- v stands in the list, and none is less
  record IsBest (v : Value) (vs : List Value) : Type 0 where
    stands : list_any (eq_by_cmp R v) vs ≡ true
    first : (w : Value) → list_any (eq_by_cmp R w) vs ≡ true → is_gt (R v w) ≡ false

  not_both : (r s : Ordering) → r ≡ ordering_reverse s → is_gt r ≡ false → is_gt s ≡ false → r ≡ Equal
  not_both Less Greater e a b = cc
  not_both Less Less e a b = cc
  not_both Less Equal e a b = cc
  not_both Equal s e a b = refl
  not_both Greater s e a b = cc

  best_unique : (v w : Value) (vs ws : List Value) → ((x : Value) → list_any (eq_by_cmp R x) vs ≡ list_any (eq_by_cmp R x) ws) → IsBest v vs → IsBest w ws → v ≡ w
  best_unique v w vs ws alike is_v is_w =
      same v w (not_both (R v w) (R w v) (o.antisymm v w) (is_v.first w (alike w ∙ is_w.stands)) (is_w.first v (sym (alike v) ∙ is_v.stands)))

  not_gt : (r : Ordering) → is_lt r ≡ false → is_gt (ordering_reverse r) ≡ false
  not_gt Less e = cc
  not_gt Equal e = refl
  not_gt Greater e = refl

  lt_not_gt : (r : Ordering) → is_lt r ≡ true → is_gt r ≡ false
  lt_not_gt Less e = refl
  lt_not_gt Equal e = cc
  lt_not_gt Greater e = cc

  eq_not_gt : (r : Ordering) → is_eq r ≡ true → is_gt r ≡ false
  eq_not_gt Less e = cc
  eq_not_gt Equal e = refl
  eq_not_gt Greater e = cc

  reverse_eq : (r : Ordering) → is_eq (ordering_reverse r) ≡ is_eq r
  reverse_eq Less = refl
  reverse_eq Equal = refl
  reverse_eq Greater = refl

  swap_or : (a b c : Bool) → (a || b || c) ≡ (b || a || c)
  swap_or true true c = refl
  swap_or true false c = refl
  swap_or false true c = refl
  swap_or false false c = refl

  own : (v : Value) → eq_by_cmp R v v ≡ true
  own v = ap is_eq (tied_itself o v)

  or_cases : (a b : Bool) → (a || b) ≡ true → (a ≡ true) ⊎ (b ≡ true)
  or_cases true b e = inl refl
  or_cases false b e = inr e

  or_right : (a b : Bool) → b ≡ true → (a || b) ≡ true
  or_right true b e = refl
  or_right false b e = e

  or_left : (a b : Bool) → a ≡ true → (a || b) ≡ true
  or_left true b e = refl
  or_left false b e = cc

  pick_or : (a b : Value) → (pick R a b ≡ a) ⊎ (pick R a b ≡ b)
  pick_or a b = elim (is_lt (R b a)) as (λ t. (cond t b a ≡ a) ⊎ (cond t b a ≡ b)) [ true ↦ inr refl | false ↦ inl refl ]

  pick_a : (a b : Value) → is_gt (R (pick R a b) a) ≡ false
  pick_a a b = elim (is_lt (R b a)) as (λ t. is_lt (R b a) ≡ t → is_gt (R (cond t b a) a) ≡ false) [ true ↦ λ e. lt_not_gt _ e | false ↦ λ e. eq_not_gt _ (own a) ] refl

  pick_b : (a b : Value) → is_gt (R (pick R a b) b) ≡ false
  pick_b a b = elim (is_lt (R b a)) as (λ t. is_lt (R b a) ≡ t → is_gt (R (cond t b a) b) ≡ false) [ true ↦ λ e. eq_not_gt _ (own b) | false ↦ λ e. ap is_gt (o.antisymm a b) ∙ not_gt _ e ] refl

  fold_best : (v : Value) (vs : List Value) → IsBest (fold (pick R) v vs) (v ∷ vs)
  fold_best v [] = record { stands = or_left _ _ (own v); first = λ w h. by_cases w (or_cases _ _ h) }
    where
      by_cases : (w : Value) → (eq_by_cmp R w v ≡ true) ⊎ (false ≡ true) → is_gt (R v w) ≡ false
      by_cases w (inl e) = eq_not_gt _ (ap is_eq (o.antisymm v w) ∙ reverse_eq (R w v) ∙ e)
      by_cases w (inr e) = cc
  fold_best v (x ∷ vs) =
      let more : IsBest (fold (pick R) (pick R v x) vs) (pick R v x ∷ vs) = fold_best (pick R v x) vs in
      let b : Value = fold (pick R) (pick R v x) vs in
      record {
        stands = here b (pick_or v x) (or_cases _ _ more.stands);
        first = λ w h. below b more.first w (or_cases _ _ h);
      }
    where
      here : (b : Value) → (pick R v x ≡ v) ⊎ (pick R v x ≡ x) → (eq_by_cmp R b (pick R v x) ≡ true) ⊎ (list_any (eq_by_cmp R b) vs ≡ true) → list_any (eq_by_cmp R b) (v ∷ x ∷ vs) ≡ true
      here b (inl e) (inl is) = or_left _ _ (ap (eq_by_cmp R b) (sym e) ∙ is)
      here b (inr e) (inl is) = or_right _ _ (or_left _ _ (ap (eq_by_cmp R b) (sym e) ∙ is))
      here b e (inr is) = or_right _ _ (or_right _ _ is)

      best_head : (b : Value) → ((w : Value) → list_any (eq_by_cmp R w) (pick R v x ∷ vs) ≡ true → is_gt (R b w) ≡ false) → (w : Value) → is_gt (R (pick R v x) w) ≡ false → is_gt (R b w) ≡ false
      best_head b h w lower = upto o b (pick R v x) w (h (pick R v x) (or_left _ _ (own (pick R v x)))) lower

      tied : (u w : Value) → eq_by_cmp R w u ≡ true → is_gt (R (pick R v x) u) ≡ false → is_gt (R (pick R v x) w) ≡ false
      tied u w e lower = ap (λ y. is_gt (R (pick R v x) y)) (same w u (equal _ e)) ∙ lower

      below : (b : Value) → ((w : Value) → list_any (eq_by_cmp R w) (pick R v x ∷ vs) ≡ true → is_gt (R b w) ≡ false) → (w : Value) → (eq_by_cmp R w v ≡ true) ⊎ (list_any (eq_by_cmp R w) (x ∷ vs) ≡ true) → is_gt (R b w) ≡ false
      below b h w (inl e) = best_head b h w (tied v w e (pick_a v x))
      below b h w (inr e) = later (or_cases _ _ e)
        where
          later : (eq_by_cmp R w x ≡ true) ⊎ (list_any (eq_by_cmp R w) vs ≡ true) → is_gt (R b w) ≡ false
          later (inl f) = best_head b h w (tied x w f (pick_b v x))
          later (inr f) = h w (or_right _ _ f)

  -- lists in which the same values stand have one best
  pub best_same : (vs ws : List Value) → ((x : Value) → list_any (eq_by_cmp R x) vs ≡ list_any (eq_by_cmp R x) ws) → best R vs ≡ best R ws
  best_same [] [] alike = refl
  best_same [] (w ∷ ws) alike = let clash = alike w ∙ or_left _ (list_any (eq_by_cmp R w) ws) (own w) in absurd cc
  best_same (v ∷ vs) [] alike = let clash = sym (alike v) ∙ or_left _ (list_any (eq_by_cmp R v) vs) (own v) in absurd cc
  best_same (v ∷ vs) (w ∷ ws) alike = best_unique _ _ (v ∷ vs) (w ∷ ws) alike (fold_best v vs) (fold_best w ws)

is_some-positive : (n : ℕ) (b : Bool) → (n ≡ 0 → b ≡ false) → (b ≡ false → n ≡ 0) → is_some (positive n) ≡ b
is_some-positive zero b none zero_of = sym (none refl)
is_some-positive (suc n) true none zero_of = refl
is_some-positive (suc n) false none zero_of = let e = zero_of refl in absurd (omega (arith, e))

any-number : (v : Value) (vs : List Value) → is_some (positive (number v vs)) ≡ list_any (eq_by_cmp value_cmp v) vs
any-number v [] = refl
any-number v (w ∷ ws) = by_test (any-number v ws) (eq_by_cmp value_cmp v w)
  where
    one_more : (n : ℕ) → is_some (positive (1 + n)) ≡ true
    one_more n = is_some-positive (1 + n) true (λ e. absurd (omega (arith, e))) (λ e. cc)

    by_test : is_some (positive (number v ws)) ≡ list_any (eq_by_cmp value_cmp v) ws → (b : Bool) → is_some (positive (cond b 1 0 + number v ws)) ≡ (b || list_any (eq_by_cmp value_cmp v) ws)
    by_test h true = one_more (number v ws)
    by_test h false = ap (λ n. is_some (positive n)) (omega arith) ∙ h

-- the keys of the counts are the values that stand
pub any-counted : (v : Value) (vs : List Value) → list_any (eq_by_cmp value_cmp v) (keys (counted vs)) ≡ list_any (eq_by_cmp value_cmp v) vs
any-counted v vs = sym (contains_key-keys (counted vs) v) ∙ ap is_some (get-counted vs v) ∙ any-number v vs
