-- Members of lists.
use Rattle.std.specs.Prelude.{◌≡◌, ℕ, Bool, true, false, cond, List, [], ◌∷◌, ◌++◌, map, filter, flat_map, refl}
use Rattle.std.proofs.Common.{ap, sym, ◌∙◌, inl, inr, subst}
use Rattle.nova_value.specs.Rows.{key_at}
use Rattle.nova_pig_algebra.specs.Meaning.{Row}
use Rattle.nova_pig_algebra.specs.Statements.{In, Keyed}
use Rattle.nova_pig_algebra.proofs.Lists.{in_left, every_in}
use Rattle.nova_rowwise.specs.Rule.{Sole}

module _ {X : Type 0} where
  pub in_right : (x : X) (xs ys : List X) → In x ys → In x (xs ++ ys)
  in_right x [] ys h = h
  in_right x (y ∷ xs) ys h = inr (in_right x xs ys h)

  pub in_filter : (test : X → Bool) (x : X) (xs : List X) → In x xs → test x ≡ true → In x (filter test xs)
  in_filter test x [] h t = absurd h
  in_filter test x (y ∷ xs) h t = by_test (λ i. in_filter test x xs i t) (test y) refl h
    where
      by_test : (In x xs → In x (filter test xs)) → (b : Bool) → test y ≡ b → In x (y ∷ xs) → In x (cond b (y ∷ filter test xs) (filter test xs))
      by_test go true e (inl same) = inl same
      by_test go true e (inr rest) = inr (go rest)
      by_test go false e (inl same) = let no : true ≡ false = sym t ∙ ap test same ∙ e in absurd cc
      by_test go false e (inr rest) = go rest

module _ {X Y : Type 0} where
  pub in_map : (f : X → Y) (x : X) (xs : List X) → In x xs → In (f x) (map f xs)
  in_map f x [] h = absurd h
  in_map f x (y ∷ xs) (inl e) = inl (ap f e)
  in_map f x (y ∷ xs) (inr h) = inr (in_map f x xs h)

  pub in_flat : (f : X → List Y) (x : X) (y : Y) (xs : List X) → In x xs → In y (f x) → In y (flat_map f xs)
  in_flat f x y [] h k = absurd h
  in_flat f x y (z ∷ xs) (inl e) k = in_left y (f z) (flat_map f xs) (subst (λ w. In y (f w)) e k)
  in_flat f x y (z ∷ xs) (inr h) k = in_right y (f z) (flat_map f xs) (in_flat f x y xs h k)

pub sole_keyed : (key : List ℕ) (rows : List Row) → Keyed key rows → Sole key rows
sole_keyed key [] k x y i j e = absurd i
sole_keyed key (r ∷ rows) k x y (inl a) (inl b) e = a ∙ sym b
sole_keyed key (r ∷ rows) k x y (inl a) (inr j) e = absurd (every_in (λ z. key_at key r ≡ key_at key z → ⊥) rows y k.0 j (sym (ap (key_at key) a) ∙ e))
sole_keyed key (r ∷ rows) k x y (inr i) (inl b) e = absurd (every_in (λ z. key_at key r ≡ key_at key z → ⊥) rows x k.0 i (sym (ap (key_at key) b) ∙ sym e))
sole_keyed key (r ∷ rows) k x y (inr i) (inr j) e = sole_keyed key rows k.1 x y i j e
