-- Places in lists that grow at the end.
use Rattle.std.proofs.Common.{◌≡◌, ℕ, zero, suc, ◌+◌, ◌<◌, Bool, true, false, not, cond, ◌||◌, nat_lt, List, [], ◌∷◌, ◌++◌, length, Option, Some, None, option_map, IfSome, refl, ap, sym, ◌∙◌, arith, ◌⊎◌, inl, inr}
use Rattle.std.specs.List.{slice_get, position, position_or_len, list_any}
use Rattle.std.proofs.lemmas.Bool.Decides.{nat_tests}
use Rattle.nova_workflow.specs.Whole.{Each, EachOnce}

module _ {A : Type 0} where
  pub position-cons : (p : A → Bool) (x : A) (xs : List A) → position p (x ∷ xs) ≡ cond (p x) (Some 0) (option_map suc (position p xs))
  position-cons p x xs = by (p x)
    where
      lt : (m n : ℕ) (b : Bool) → nat_lt m n ≡ b → nat_lt (1 + m) (suc n) ≡ b
      lt m n true e = grind (arith, nat_tests)
      lt m n false e = grind (arith, nat_tests)

      more : (m n : ℕ) (b : Bool) → nat_lt m n ≡ b → cond (nat_lt (1 + m) (suc n)) (Some (1 + m)) None ≡ option_map suc (cond b (Some m) None)
      more m n true e = rw (lt m n true e) (ap (λ k. Some k) (omega arith))
      more m n false e = rw (lt m n false e)

      by : (b : Bool) → cond (nat_lt (cond (not b) (1 + position_or_len p xs) 0) (suc (length xs))) (Some (cond (not b) (1 + position_or_len p xs) 0)) None ≡ cond b (Some 0) (option_map suc (position p xs))
      by true = grind (arith, nat_tests)
      by false = more (position_or_len p xs) (length xs) (nat_lt (position_or_len p xs) (length xs)) refl

  pub none_any : (p : A → Bool) (xs : List A) → position p xs ≡ None → list_any p xs ≡ false
  none_any p [] e = refl
  none_any p (x ∷ xs) e = by (p x) (position p xs) (none_any p xs) (sym (position-cons p x xs) ∙ e)
    where
      by : (b : Bool) (o : Option ℕ) → (o ≡ None → list_any p xs ≡ false) → cond b (Some 0) (option_map suc o) ≡ None → (b || list_any p xs) ≡ false
      by true o go e = cc
      by false None go e = go refl
      by false (Some k) go e = cc

  -- behind a front without one
  pub found_behind : (p : A → Bool) (xs : List A) (x : A) (ys : List A) → list_any p xs ≡ false → p x ≡ true → position p (xs ++ x ∷ ys) ≡ Some (length xs)
  found_behind p [] x ys none is = position-cons p x ys ∙ ap (λ (b : Bool). cond b (Some 0) (option_map suc (position p ys))) is
  found_behind p (z ∷ zs) x ys none is = position-cons p z (zs ++ x ∷ ys) ∙ by (p z) (λ h. found_behind p zs x ys h is) none
    where
      by : (b : Bool) → (list_any p zs ≡ false → position p (zs ++ x ∷ ys) ≡ Some (length zs)) → (b || list_any p zs) ≡ false → cond b (Some 0) (option_map suc (position p (zs ++ x ∷ ys))) ≡ Some (suc (length zs))
      by true go e = cc
      by false go e = ap (option_map suc) (go e)

  -- in the front
  pub found_front : (p : A → Bool) (xs ys : List A) (k : ℕ) → position p xs ≡ Some k → position p (xs ++ ys) ≡ Some k
  found_front p [] ys k e = cc
  found_front p (x ∷ xs) ys k e = position-cons p x (xs ++ ys) ∙ by (p x) (position p xs) (found_front p xs ys) k (sym (position-cons p x xs) ∙ e)
    where
      by : (b : Bool) (o : Option ℕ) → ((j : ℕ) → o ≡ Some j → position p (xs ++ ys) ≡ Some j) → (k : ℕ) → cond b (Some 0) (option_map suc o) ≡ Some k → cond b (Some 0) (option_map suc (position p (xs ++ ys))) ≡ Some k
      by true o go k e = e
      by false None go k e = cc
      by false (Some j) go k e = ap (option_map suc) (go j refl) ∙ e

  pub any_none : (p : A → Bool) (xs : List A) → list_any p xs ≡ false → position p xs ≡ None
  any_none p [] e = refl
  any_none p (x ∷ xs) e = position-cons p x xs ∙ by (p x) (any_none p xs) e
    where
      by : (b : Bool) → (list_any p xs ≡ false → position p xs ≡ None) → (b || list_any p xs) ≡ false → cond b (Some 0) (option_map suc (position p xs)) ≡ None
      by true go e = cc
      by false go e = ap (option_map suc) (go e)

  -- not in the back
  pub found_before : (p : A → Bool) (xs ys : List A) → list_any p ys ≡ false → IfSome (position p (xs ++ ys)) (λ u. u < length xs)
  found_before p [] ys none = rw (any_none p ys none) tt
  found_before p (x ∷ xs) ys none = rw (position-cons p x (xs ++ ys)) (by (p x) (position p (xs ++ ys)) (found_before p xs ys none))
    where
      by : (b : Bool) (o : Option ℕ) → IfSome o (λ u. u < length xs) → IfSome (cond b (Some 0) (option_map suc o)) (λ u. u < suc (length xs))
      by true o h = omega arith
      by false None h = tt
      by false (Some u) h = omega arith

  pub pushed_at : (xs : List A) (x : A) (k : ℕ) (y : A) → slice_get (xs ++ x ∷ []) k ≡ Some y → (slice_get xs k ≡ Some y) ⊎ ((k ≡ length xs) × (y ≡ x))
  pushed_at [] x zero y e = let same : y ≡ x = cc in inr (refl, same)
  pushed_at [] x (suc k) y e = cc
  pushed_at (z ∷ zs) x zero y e = inl e
  pushed_at (z ∷ zs) x (suc k) y e = elim (pushed_at zs x k y e) [
    | inl h ↦ inl h
    | inr h ↦ inr (ap suc h.0, h.1)
  ]

  pub each_push : (P : ℕ → A → Type 0) (xs : List A) (x : A) → Each P xs → P (length xs) x → Each P (xs ++ x ∷ [])
  each_push P xs x all new k y e = elim (pushed_at xs x k y e) [
    | inl h ↦ all k y h
    | inr h ↦ rw (h.0, h.1) new
  ]

  pub once_push : (same : A → A → Bool) (xs : List A) (x : A) → EachOnce same xs → position (λ y. same y x) xs ≡ None → same x x ≡ true → EachOnce same (xs ++ x ∷ [])
  once_push same xs x all none is k y e = elim (pushed_at xs x k y e) [
    | inl h ↦ found_front (λ z. same z y) xs (x ∷ []) k (all k y h)
    | inr h ↦ rw (h.0, h.1) (found_behind (λ z. same z x) xs x [] (none_any (λ z. same z x) xs none) is)
  ]
