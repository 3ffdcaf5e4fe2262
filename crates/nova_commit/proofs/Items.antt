-- A field that is read is the field that was written, and what was written is read again.
use Rattle.std.proofs.Common.{◌≡◌, ℕ, zero, suc, ◌+◌, ◌^◌, ◌<◌, ◌≤◌, ◌==◌, Bool, true, false, cond, ltb, List, [], ◌∷◌, ◌++◌, length, get_or, take, drop, Option, Some, None, refl, sym, ap, subst, ◌∙◌, append_assoc, arith, inl, inr, if◌then◌else◌}
use Rattle.std.specs.List.{flat_map, AllByRecursion}
use Rattle.std.specs.Int.{Width, w32, w64, byte_len, from_be_bytes, to_be_bytes}
use Rattle.std.proofs.lemmas.Bool.{cases_lt, ltb-false, le-ltb, eqb-true}
use Rattle.std.proofs.lemmas.List.{take_at, drop_at, take-append-drop, length-append, length-take, get_or-drop, get_or-take, get_or_past, append-nil, nil_from_length}
use Rattle.std.proofs.lemmas.List.Concat.{flat_map-cons}
use Rattle.std.proofs.lemmas.Nat.{be_bytes_4, be_bytes_8, from_be_bytes-to_be_bytes_4, from_be_bytes-to_be_bytes_8}
use Rattle.nova_commit.specs.Fields.{◌>>=◌, number_at, pair_at, items_at, list_at, whole}

abbrev pub IsBytes : List ℕ → Type 0
IsBytes bytes = (i : ℕ) → get_or bytes i 0 < 256

bytes_drop : (n : ℕ) (bytes : List ℕ) → IsBytes bytes → IsBytes (drop n bytes)
bytes_drop n bytes h i = rw get_or-drop (h (n + i))

bytes_take : (n : ℕ) (bytes : List ℕ) → IsBytes bytes → IsBytes (take n bytes)
bytes_take n bytes h i =
    elim (cases_lt i n) [
      | inl lt ↦ rw (get_or-take n bytes i 0 lt) (h i)
      | inr le ↦ rw (get_or_past (take n bytes) i 0 (omega (arith, length-take n bytes))) (omega arith)
    ]

-- the value of a step that did not fail
pub bind_some : {A B : Type 0} (o : Option A) (f : A → Option B) (y : B) → (o >>= f) ≡ Some y → (x : A) × (o ≡ Some x) × (f x ≡ Some y)
bind_some (Some x) f y e = (x, refl, e)
bind_some None f y e = absurd cc

-- a test that did not fail
guard_some : {A : Type 0} (b : Bool) (x y : A) → cond b None (Some x) ≡ Some y → (b ≡ false) × (x ≡ y)
guard_some true x y e = absurd cc
guard_some false x y e = (refl, cc)

pub when_some : {A : Type 0} (b : Bool) (x y : A) → cond b (Some x) None ≡ Some y → (b ≡ true) × (x ≡ y)
when_some true x y e = (refl, cc)
when_some false x y e = absurd cc

pub some_is : {A : Type 0} (x y : A) → Some x ≡ Some y → x ≡ y
some_is x y e = cc

-- what a reader took from the front
pub record Takes (bytes text rest : List ℕ) : Type 0 where
  pub parts : bytes ≡ text ++ rest
  pub rest_fits : IsBytes rest

takes_then : (a x b y c : List ℕ) → Takes a x b → Takes b y c → Takes a (x ++ y) c
takes_then a x b y c p q = record { parts = p.parts ∙ ap (λ (t : List ℕ). x ++ t) q.parts ∙ sym (append_assoc x y c); rest_fits = q.rest_fits }

-- a reader of one field: what it takes is spelled so, and what is spelled so is read
pub record IsField {X : Type 0} (field : List ℕ → Option (X × List ℕ)) (spelled : X → List ℕ) (F : X → Type 0) : Type 0 where
  pub takes : (bytes : List ℕ) (a : X × List ℕ) → IsBytes bytes → field bytes ≡ Some a → Takes bytes (spelled a.0) a.1 × F a.0
  pub again : (x : X) (rest : List ℕ) → F x → field (spelled x ++ rest) ≡ Some (x, rest)

-- ---- numbers

pub record HasWidth (w : Width) (limit : ℕ) : Type 0 where
  pub len : (n : ℕ) → length (to_be_bytes w n) ≡ byte_len w
  pub back : (bytes : List ℕ) → length bytes ≡ byte_len w → IsBytes bytes → to_be_bytes w (from_be_bytes w bytes) ≡ bytes
  pub again : (n : ℕ) → n < limit → from_be_bytes w (to_be_bytes w n) ≡ n
  pub below : (bytes : List ℕ) → IsBytes bytes → from_be_bytes w bytes < limit

pub wide32 : HasWidth w32 (2 ^ 32)
wide32 = record {
  len = λ n. refl;
  back = λ bytes len fits. be_bytes_4 bytes _ len fits refl;
  again = λ n lt. from_be_bytes-to_be_bytes_4 n lt;
  below = λ bytes fits. omega (arith, fits 0, fits 1, fits 2, fits 3);
}

pub wide64 : HasWidth w64 (2 ^ 64)
wide64 = record {
  len = λ n. refl;
  back = λ bytes len fits. be_bytes_8 bytes _ len fits refl;
  again = λ n lt. from_be_bytes-to_be_bytes_8 n lt;
  below = λ bytes fits. omega (arith, fits 0, fits 1, fits 2, fits 3, fits 4, fits 5, fits 6, fits 7);
}

number_takes : (w : Width) (limit : ℕ) (wide : HasWidth w limit) (bytes : List ℕ) (n : ℕ) (rest : List ℕ) → IsBytes bytes → number_at w bytes ≡ Some (n, rest) → Takes bytes (to_be_bytes w n) rest × (n < limit)
number_takes w limit wide bytes n rest fits e =
    let g = guard_some (ltb (length bytes) (byte_len w)) (from_be_bytes w (take (byte_len w) bytes), drop (byte_len w) bytes) (n, rest) e in
    let long : byte_len w ≤ length bytes = ltb-false _ _ g.0 in
    let n-is : from_be_bytes w (take (byte_len w) bytes) ≡ n = ap (λ (p : ℕ × List ℕ). p.0) g.1 in
    let rest-is : drop (byte_len w) bytes ≡ rest = ap (λ (p : ℕ × List ℕ). p.1) g.1 in
    let front : to_be_bytes w n ≡ take (byte_len w) bytes = rw (← n-is) (wide.back (take (byte_len w) bytes) (omega (arith, length-take (byte_len w) bytes)) (bytes_take (byte_len w) bytes fits)) in
    (record { parts = rw (front, ← rest-is) (sym (take-append-drop (byte_len w) bytes)); rest_fits = rw (← rest-is) (bytes_drop (byte_len w) bytes fits) }, rw (← n-is) (wide.below (take (byte_len w) bytes) (bytes_take (byte_len w) bytes fits)))

number_again : (w : Width) (limit : ℕ) (wide : HasWidth w limit) (n : ℕ) (rest : List ℕ) → n < limit → number_at w (to_be_bytes w n ++ rest) ≡ Some (n, rest)
number_again w limit wide n rest lt =
    let len = wide.len n in
    let long : ltb (length (to_be_bytes w n ++ rest)) (byte_len w) ≡ false = le-ltb _ _ (omega (arith, length-append (to_be_bytes w n) rest)) in
    rw (long, take_at (to_be_bytes w n) rest (byte_len w) len, drop_at (to_be_bytes w n) rest (byte_len w) len, wide.again n lt) refl

pub number_field : (w : Width) (limit : ℕ) → HasWidth w limit → IsField (number_at w) (to_be_bytes w) (λ n. n < limit)
number_field w limit wide = record {
  takes = λ bytes a fits e. number_takes w limit wide bytes a.0 a.1 fits e;
  again = λ n rest lt. number_again w limit wide n rest lt;
}

pub narrow : IsField (number_at w32) (to_be_bytes w32) (λ n. n < 2 ^ 32)
narrow = number_field w32 (2 ^ 32) wide32

pub wide : IsField (number_at w64) (to_be_bytes w64) (λ n. n < 2 ^ 64)
wide = number_field w64 (2 ^ 64) wide64

-- ---- one field and then another

module _ {A B : Type 0} (first : List ℕ → Option (A × List ℕ)) (second : List ℕ → Option (B × List ℕ)) (sa : A → List ℕ) (sb : B → List ℕ) (Fa : A → Type 0) (Fb : B → Type 0) (fa : IsField first sa Fa) (fb : IsField second sb Fb) where
  pair_takes : (bytes : List ℕ) (a : (A × B) × List ℕ) → IsBytes bytes → pair_at first second bytes ≡ Some a → Takes bytes (sa a.0.0 ++ sb a.0.1) a.1 × (Fa a.0.0 × Fb a.0.1)
  pair_takes bytes a fits e =
      let x = bind_some (first bytes) (λ x. second x.1 >>= λ y. Some ((x.0, y.0), y.1)) a e in
      let y = bind_some (second x.0.1) (λ y. Some ((x.0.0, y.0), y.1)) a x.2 in
      let t0 = fa.takes bytes x.0 fits x.1 in
      let t1 = fb.takes x.0.1 y.0 t0.0.rest_fits y.1 in
      let both = takes_then bytes (sa x.0.0) x.0.1 (sb y.0.0) y.0.1 t0.0 t1.0 in
      let made : (A × B) × List ℕ = ((x.0.0, y.0.0), y.0.1) in
      subst (λ (z : (A × B) × List ℕ). Takes bytes (sa z.0.0 ++ sb z.0.1) z.1 × (Fa z.0.0 × Fb z.0.1)) (some_is made a y.2) (both, (t0.1, t1.1))

  pair_again : (x : A × B) (rest : List ℕ) → Fa x.0 × Fb x.1 → pair_at first second ((sa x.0 ++ sb x.1) ++ rest) ≡ Some (x, rest)
  pair_again x rest fits =
      ap (pair_at first second) (append_assoc (sa x.0) (sb x.1) rest)
      ∙ ap (λ o. o >>= λ a. second a.1 >>= λ b. Some ((a.0, b.0), b.1)) (fa.again x.0 (sb x.1 ++ rest) fits.0)
      ∙ ap (λ o. o >>= λ b. Some ((x.0, b.0), b.1)) (fb.again x.1 rest fits.1)

  pub pair_field : IsField (pair_at first second) (λ x. sa x.0 ++ sb x.1) (λ x. Fa x.0 × Fb x.1)
  pair_field = record { takes = pair_takes; again = pair_again }

-- ---- items

module _ {A : Type 0} (item : List ℕ → Option (A × List ℕ)) (sa : A → List ℕ) (Fa : A → Type 0) (fa : IsField item sa Fa) where
  items_take : (n : ℕ) (bytes : List ℕ) (a : List A × List ℕ) → IsBytes bytes → items_at item n bytes ≡ Some a → Takes bytes (flat_map sa a.0) a.1 × ((length a.0 ≡ n) × AllByRecursion Fa a.0)
  items_take zero bytes a fits e =
      subst (λ (z : List A × List ℕ). Takes bytes (flat_map sa z.0) z.1 × ((length z.0 ≡ 0) × AllByRecursion Fa z.0)) (some_is ([], bytes) a e) (record { parts = refl; rest_fits = fits }, (refl, tt))
  items_take (suc n) bytes a fits e =
      let x = bind_some (item bytes) (λ x. items_at item n x.1 >>= λ y. Some (x.0 ∷ y.0, y.1)) a e in
      let y = bind_some (items_at item n x.0.1) (λ y. Some (x.0.0 ∷ y.0, y.1)) a x.2 in
      let t0 = fa.takes bytes x.0 fits x.1 in
      let t1 = items_take n x.0.1 y.0 t0.0.rest_fits y.1 in
      let both = takes_then bytes (sa x.0.0) x.0.1 (flat_map sa y.0.0) y.0.1 t0.0 t1.0 in
      let made : List A × List ℕ = (x.0.0 ∷ y.0.0, y.0.1) in
      subst (λ (z : List A × List ℕ). Takes bytes (flat_map sa z.0) z.1 × ((length z.0 ≡ suc n) × AllByRecursion Fa z.0)) (some_is made a y.2) (rw flat_map-cons both, (ap suc t1.1.0, (t0.1, t1.1.1)))

  items_again : (xs : List A) (rest : List ℕ) → AllByRecursion Fa xs → items_at item (length xs) (flat_map sa xs ++ rest) ≡ Some (xs, rest)
  items_again [] rest fits = refl
  items_again (x ∷ xs) rest fits =
      let regrouped : flat_map sa (x ∷ xs) ++ rest ≡ sa x ++ (flat_map sa xs ++ rest) = ap (λ (t : List ℕ). t ++ rest) (flat_map-cons sa x xs) ∙ append_assoc (sa x) (flat_map sa xs) rest in
      ap (items_at item (suc (length xs))) regrouped
      ∙ ap (λ o. o >>= λ a. items_at item (length xs) a.1 >>= λ b. Some (a.0 ∷ b.0, b.1)) (fa.again x (flat_map sa xs ++ rest) fits.0)
      ∙ ap (λ o. o >>= λ b. Some (x ∷ b.0, b.1)) (items_again xs rest fits.1)

  module _ (w : Width) (limit : ℕ) (has_width : HasWidth w limit) where
    list_takes : (bytes : List ℕ) (a : List A × List ℕ) → IsBytes bytes → list_at w item bytes ≡ Some a → Takes bytes (to_be_bytes w (length a.0) ++ flat_map sa a.0) a.1 × ((length a.0 < limit) × AllByRecursion Fa a.0)
    list_takes bytes a fits e =
        let n = bind_some (number_at w bytes) (λ n. items_at item n.0 n.1) a e in
        let t0 = number_takes w limit has_width bytes n.0.0 n.0.1 fits n.1 in
        let t1 = items_take n.0.0 n.0.1 a t0.0.rest_fits n.2 in
        let both = takes_then bytes (to_be_bytes w n.0.0) n.0.1 (flat_map sa a.0) a.1 t0.0 t1.0 in
        (subst (λ (k : ℕ). Takes bytes (to_be_bytes w k ++ flat_map sa a.0) a.1) (sym t1.1.0) both, (subst (λ (k : ℕ). k < limit) (sym t1.1.0) t0.1, t1.1.1))

    list_again : (xs : List A) (rest : List ℕ) → (length xs < limit) × AllByRecursion Fa xs → list_at w item ((to_be_bytes w (length xs) ++ flat_map sa xs) ++ rest) ≡ Some (xs, rest)
    list_again xs rest fits =
        ap (list_at w item) (append_assoc (to_be_bytes w (length xs)) (flat_map sa xs) rest)
        ∙ ap (λ o. o >>= λ n. items_at item n.0 n.1) (number_again w limit has_width (length xs) (flat_map sa xs ++ rest) fits.0)
        ∙ items_again xs rest fits.1

    pub list_field : IsField (list_at w item) (λ xs. to_be_bytes w (length xs) ++ flat_map sa xs) (λ xs. (length xs < limit) × AllByRecursion Fa xs)
    list_field = record { takes = list_takes; again = list_again }

  -- ---- all of the bytes

  pub whole_takes : (bytes : List ℕ) (x : A) → IsBytes bytes → whole item bytes ≡ Some x → (bytes ≡ sa x) × Fa x
  whole_takes bytes x fits e =
      let a = bind_some (item bytes) (λ a. if length a.1 == 0 then Some a.0 else None) x e in
      let g = when_some (length a.0.1 == 0) a.0.0 x a.2 in
      let t = fa.takes bytes a.0 fits a.1 in
      let nothing : a.0.1 ≡ [] = nil_from_length a.0.1 (eqb-true _ _ g.0) in
      let all : bytes ≡ sa a.0.0 = t.0.parts ∙ ap (λ (r : List ℕ). sa a.0.0 ++ r) nothing ∙ append-nil (sa a.0.0) in
      subst (λ (y : A). (bytes ≡ sa y) × Fa y) g.1 (all, t.1)

  pub whole_again : (x : A) → Fa x → whole item (sa x) ≡ Some x
  whole_again x fits =
      ap (whole item) (sym (append-nil (sa x))) ∙ ap (λ o. o >>= λ a. if length a.1 == 0 then Some a.0 else None) (fa.again x [] fits)
