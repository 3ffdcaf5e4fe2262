-- Members of lists, and lists whose places are apart.
use Rattle.std.specs.Prelude.{◌≡◌, ◌⊎◌, Bool, true, false, cond, List, [], ◌∷◌, ◌++◌, map, filter, flat_map, refl}
use Rattle.std.proofs.Common.{ap, sym, ◌∙◌, inl, inr, subst}
use Rattle.nova_pig_algebra.specs.Statements.{In, Every, Apart}

module _ {X : Type 0} where
  pub in_left : (x : X) (xs ys : List X) → In x xs → In x (xs ++ ys)
  in_left x [] ys h = absurd h
  in_left x (y ∷ xs) ys (inl e) = inl e
  in_left x (y ∷ xs) ys (inr h) = inr (in_left x xs ys h)

  pub in_either : (x : X) (xs ys : List X) → In x (xs ++ ys) → In x xs ⊎ In x ys
  in_either x [] ys h = inr h
  in_either x (y ∷ xs) ys (inl e) = inl (inl e)
  in_either x (y ∷ xs) ys (inr h) = later (in_either x xs ys h)
    where
      later : In x xs ⊎ In x ys → In x (y ∷ xs) ⊎ In x ys
      later (inl a) = inl (inr a)
      later (inr b) = inr b

  pub in_filtered : (test : X → Bool) (x : X) (xs : List X) → In x (filter test xs) → In x xs × (test x ≡ true)
  in_filtered test x [] h = absurd h
  in_filtered test x (y ∷ xs) h = by_test (λ i. in_filtered test x xs i) (test y) refl h
    where
      later : In x xs × (test x ≡ true) → In x (y ∷ xs) × (test x ≡ true)
      later p = (inr p.0, p.1)

      by_test : (In x (filter test xs) → In x xs × (test x ≡ true)) → (b : Bool) → test y ≡ b → In x (cond b (y ∷ filter test xs) (filter test xs)) → In x (y ∷ xs) × (test x ≡ true)
      by_test go true e (inl same) = (inl same, ap test same ∙ e)
      by_test go true e (inr rest) = later (go rest)
      by_test go false e rest = later (go rest)

  pub every_in : (P : X → Type 0) (xs : List X) (x : X) → Every P xs → In x xs → P x
  every_in P [] x h i = absurd i
  every_in P (y ∷ xs) x h (inl e) = subst P (sym e) h.0
  every_in P (y ∷ xs) x h (inr i) = every_in P xs x h.1 i

  pub every_of : (P : X → Type 0) (xs : List X) → ((x : X) → In x xs → P x) → Every P xs
  every_of P [] h = tt
  every_of P (x ∷ xs) h = (h x (inl refl), every_of P xs (λ y i. h y (inr i)))

  pub every_more : (P Q : X → Type 0) (xs : List X) → Every P xs → ((x : X) → In x xs → P x → Q x) → Every Q xs
  every_more P Q xs e h = every_of Q xs (λ x i. h x i (every_in P xs x e i))

  every_append : (P : X → Type 0) (xs ys : List X) → Every P xs → Every P ys → Every P (xs ++ ys)
  every_append P [] ys a b = b
  every_append P (x ∷ xs) ys a b = (a.0, every_append P xs ys a.1 b)

  pub every_filter : (P : X → Type 0) (test : X → Bool) (xs : List X) → Every P xs → Every P (filter test xs)
  every_filter P test xs e = every_of P (filter test xs) (λ x i. every_in P xs x e (in_filtered test x xs i).0)

  pub apart_filter : (R : X → X → Type 0) (test : X → Bool) (xs : List X) → Apart R xs → Apart R (filter test xs)
  apart_filter R test [] h = tt
  apart_filter R test (x ∷ xs) h = by_test (test x) (apart_filter R test xs h.1)
    where
      by_test : (b : Bool) → Apart R (filter test xs) → Apart R (cond b (x ∷ filter test xs) (filter test xs))
      by_test true a = (every_filter (R x) test xs h.0, a)
      by_test false a = a

  pub apart_within : (R S : X → X → Type 0) (xs : List X) → Apart R xs → ((x y : X) → In x xs → In y xs → R x y → S x y) → Apart S xs
  apart_within R S [] a h = tt
  apart_within R S (x ∷ xs) a h =
      (every_more (R x) (S x) xs a.0 (λ y i r. h x y (inl refl) (inr i) r), apart_within R S xs a.1 (λ y z i j r. h y z (inr i) (inr j) r))

  pub apart_append : (R : X → X → Type 0) (xs ys : List X) → Apart R xs → Apart R ys → ((x y : X) → In x xs → In y ys → R x y) → Apart R (xs ++ ys)
  apart_append R [] ys a b h = b
  apart_append R (x ∷ xs) ys a b h =
      (every_append (R x) xs ys a.0 (every_of (R x) ys (λ y i. h x y (inl refl) i)), apart_append R xs ys a.1 b (λ y z i j. h y z (inr i) j))

module _ {X Y : Type 0} where
  pub in_mapped : (f : X → Y) (y : Y) (xs : List X) → In y (map f xs) → (x : X) × In x xs × (y ≡ f x)
  in_mapped f y [] h = absurd h
  in_mapped f y (x ∷ xs) (inl e) = (x, inl refl, e)
  in_mapped f y (x ∷ xs) (inr h) = let r = in_mapped f y xs h in (r.0, inr r.1, r.2)

  pub in_flattened : (f : X → List Y) (y : Y) (xs : List X) → In y (flat_map f xs) → (x : X) × In x xs × In y (f x)
  in_flattened f y [] h = absurd h
  in_flattened f y (x ∷ xs) h = by_part (λ i. in_flattened f y xs i) (in_either y (f x) (flat_map f xs) h)
    where
      by_part : (In y (flat_map f xs) → (w : X) × In w xs × In y (f w)) → In y (f x) ⊎ In y (flat_map f xs) → (w : X) × In w (x ∷ xs) × In y (f w)
      by_part go (inl a) = (x, inl refl, a)
      by_part go (inr b) = let r = go b in (r.0, inr r.1, r.2)

  every_map : (P : Y → Type 0) (f : X → Y) (xs : List X) → Every (λ x. P (f x)) xs → Every P (map f xs)
  every_map P f [] h = tt
  every_map P f (x ∷ xs) h = (h.0, every_map P f xs h.1)

  pub apart_map : (R : Y → Y → Type 0) (f : X → Y) (xs : List X) → Apart (λ a b. R (f a) (f b)) xs → Apart R (map f xs)
  apart_map R f [] h = tt
  apart_map R f (x ∷ xs) h = (every_map (R (f x)) f xs h.0, apart_map R f xs h.1)

  pub apart_flat : (S : X → X → Type 0) (R : Y → Y → Type 0) (f : X → List Y) (xs : List X) → Apart S xs → ((x : X) → In x xs → Apart R (f x))
      → ((a b : X) → In a xs → In b xs → S a b → (p q : Y) → In p (f a) → In q (f b) → R p q) → Apart R (flat_map f xs)
  apart_flat S R f [] s each across = tt
  apart_flat S R f (x ∷ xs) s each across =
      apart_append R (f x) (flat_map f xs) (each x (inl refl)) (apart_flat S R f xs s.1 (λ y i. each y (inr i)) (λ a b i j. across a b (inr i) (inr j)))
      (λ p q i j. let r = in_flattened f q xs j in across x r.0 (inl refl) (inr r.1) (every_in (S x) xs r.0 s.0 r.1) p q i r.2)
