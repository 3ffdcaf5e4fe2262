-- Lists whose keys rise.
use Rattle.std.proofs.Common.{◌≡◌, ◌-◌, slice_get, Bool, true, false, cond, List, [], ◌∷◌, ◌++◌, length, Option, Some, None, refl, sym, ap, subst, ◌∙◌, arith}
use Rattle.std.specs.Prelude.{T, ◌&&◌}
use Rattle.std.specs.declared.cmp.Ordering.{Ordering}
use Rattle.std.specs.Ordering.{eq_by_cmp, is_eq, is_lt}
use Rattle.std.specs.Cmp.{IsTotalOrder, Equal-is, eq_by_cmp_equiv}
use Rattle.std.specs.Map.{lookup, update_all, update}
use Rattle.std.specs.BTreeMap.{is_at}
use Rattle.std.specs.FinMap.{IsAntisymmetric, entries, from_entries, from_sorted, is_sorted, same_map, get-from_entries, get-from_sorted, entries-from_sorted}
use Rattle.std.specs.FinMap.Entries.{below_all}
use Rattle.nova_delta.proofs.Conditions.{first, second, both, less}
use Rattle.nova_delta.proofs.OrderedMap.{get-seen}
use Rattle.nova_group_codec.specs.Reading.{is_above}

-- ---- the last of a list, as the code finds it

abbrev last_of : {A : Type 0} → A → List A → A
last_of d [] = d
last_of d (e ∷ es) = last_of e es

last_get : {A : Type 0} (d : A) (es : List A) → slice_get (d ∷ es) (length es) ≡ Some (last_of d es)
last_get d [] = refl
last_get d (e ∷ es) = last_get e es

above_is : {K X : Type 0} (R : K → K → Ordering) (d : K × X) (es : List (K × X)) (k : K) → is_above R (d ∷ es) k ≡ is_lt (R (last_of d es).0 k)
above_is R d [] k = refl
above_is R d (e ∷ es) k = above_is R e es k

pub above_last : {K X : Type 0} (R : K → K → Ordering) (es : List (K × X)) (k : K) (last : K × X) → Some last ≡ slice_get es (length es - 1) → is_above R es k ≡ is_lt (R last.0 k)
above_last R [] k last is = absurd cc
above_last {K = K} {X = X} R (d ∷ es) k last is =
    let n : length (d ∷ es) - 1 ≡ length es = omega arith in
    let found : Some last ≡ Some (last_of d es) = is ∙ ap (slice_get (d ∷ es)) n ∙ last_get d es in
    let same : last_of d es ≡ last = cc in
    above_is R d es k ∙ ap (λ (e : K × X). is_lt (R e.0 k)) same

-- ---- a map of pairs that rise

abbrev or_else : {X : Type 0} → Option X → Option X → Option X
or_else None r = r
or_else (Some x) r = Some x

or_cond : {X : Type 0} (b : Bool) (x : X) (rest r : Option X) → (b ≡ true → rest ≡ None) → or_else rest (cond b (Some x) r) ≡ or_else (cond b (Some x) rest) r
or_cond {X = X} true x rest r none = ap (λ (o : Option X). or_else o (Some x)) (none refl)
or_cond false x rest r none = refl

or_none : {X : Type 0} (o : Option X) → or_else o None ≡ o
or_none None = refl
or_none (Some x) = refl

module _ {K X : Type 0} {R : K → K → Ordering} (o : IsTotalOrder R) (same : IsAntisymmetric R) where
  past : (q k : K) (es : List (K × X)) → eq_by_cmp R q k ≡ true → T (below_all R k es) → lookup (is_at (R q)) es ≡ None
  past q k [] ties h = refl
  past q k (e ∷ es) ties h = ap (λ p. cond (is_eq p) (Some e.1) (lookup (is_at (R q)) es)) (o.congr q k e.0 ((Equal-is _).0 ties) ∙ less _ (first _ _ h)) ∙ past q k es ties (second _ _ h)

  -- each of them is the only one of its key
  updated : (es : List (K × X)) (f : K → Option X) → T (is_sorted R es) → (q : K) → update_all (eq_by_cmp R) f es q ≡ or_else (lookup (is_at (R q)) es) (f q)
  updated [] f h q = refl
  updated (e ∷ es) f h q =
      updated es (update (eq_by_cmp R) f e.0 (Some e.1)) (second _ _ h) q
      ∙ ap (λ b. or_else (lookup (is_at (R q)) es) (cond b (Some e.1) (f q))) ((eq_by_cmp_equiv o).symm e.0 q)
      ∙ or_cond (eq_by_cmp R q e.0) e.1 (lookup (is_at (R q)) es) (f q) (λ ties. past q e.0 es ties (first _ _ h))

  -- pairs that rise make the map that setting them in turn makes
  pub map_of_rising : (es fs : List (K × X)) → T (is_sorted R es) → ((q : K) → lookup (is_at (R q)) fs ≡ update_all (eq_by_cmp R) (λ _. None) es q) → from_entries {R = R} fs ≡ from_entries es
  map_of_rising es fs h is = same_map o same _ _ (λ q. get-seen o fs q ∙ is q ∙ updated es (λ _. None) h q ∙ or_none _ ∙ sym (get-seen o es q))

-- ---- one more

module _ {K X : Type 0} {R : K → K → Ordering} (o : IsTotalOrder R) (e : K × X) where
  -- what is below all of some is below what is above their last
  reaches : (k : K) (d : K × X) (es : List (K × X)) → T (below_all R k (d ∷ es)) → T (is_lt (R (last_of d es).0 e.0)) → T (is_lt (R k e.0))
  reaches k d [] h lt = subst (λ o. T (is_lt o)) (sym (o.trans k d.0 e.0 (less _ (first _ _ h)) (less _ lt))) tt
  reaches k d (f ∷ es) h lt = reaches k f es (second _ _ h) lt

  below_more : (k : K) (es : List (K × X)) → below_all R k (es ++ e ∷ []) ≡ (below_all R k es && is_lt (R k e.0))
  below_more k [] = one (is_lt (R k e.0))
    where
      one : (b : Bool) → (b && true) ≡ b
      one true = refl
      one false = refl
  below_more k (f ∷ es) = elim (is_lt (R k f.0)) as (λ b. (b && below_all R k (es ++ e ∷ [])) ≡ ((b && below_all R k es) && is_lt (R k e.0))) [ true ↦ below_more k es | false ↦ refl ]

  rises_last : (d : K × X) (es : List (K × X)) → T (is_sorted R (d ∷ es)) → is_sorted R ((d ∷ es) ++ e ∷ []) ≡ is_lt (R (last_of d es).0 e.0)
  rises_last d [] h = one (is_lt (R d.0 e.0))
    where
      one : (b : Bool) → ((b && true) && true) ≡ b
      one true = refl
      one false = refl
  rises_last d (f ∷ es) h =
      ap (λ b. below_all R d.0 ((f ∷ es) ++ e ∷ []) && b) (rises_last f es (second _ _ h))
      ∙ ap (λ b. b && is_lt (R (last_of f es).0 e.0)) (below_more d.0 (f ∷ es))
      ∙ all_three _ _ _ (first _ _ h) (reaches d.0 f es (first _ _ h))
    where
      all_three : (a b c : Bool) → T a → (T c → T b) → ((a && b) && c) ≡ c
      all_three true true c p q = refl
      all_three true false true p q = absurd (q tt)
      all_three true false false p q = refl
      all_three false b c p q = absurd p

  -- what rises still rises with one more exactly where its key is above that of the last one
  pub rises_more : (es : List (K × X)) → T (is_sorted R es) → is_sorted R (es ++ e ∷ []) ≡ is_above R es e.0
  rises_more [] h = refl
  rises_more (d ∷ es) h = rises_last d es h ∙ sym (above_is R d es e.0)

module _ {K X : Type 0} (R : K → K → Ordering) where
  below_prefix : (k : K) (xs ys : List (K × X)) → T (below_all R k (xs ++ ys)) → T (below_all R k xs)
  below_prefix k [] ys h = tt
  below_prefix k (x ∷ xs) ys h = both _ _ (first _ _ h) (below_prefix k xs ys (second _ _ h))

  pub rises_prefix : (xs ys : List (K × X)) → T (is_sorted R (xs ++ ys)) → T (is_sorted R xs)
  rises_prefix [] ys h = tt
  rises_prefix (x ∷ xs) ys h = both _ _ (below_prefix x.0 xs ys (first _ _ h)) (rises_prefix xs ys (second _ _ h))

-- ---- the map of a list that rises

module _ {K X : Type 0} {R : K → K → Ordering} (o : IsTotalOrder R) (same : IsAntisymmetric R) where
  pub entries_rising : (es : List (K × X)) → T (is_sorted R es) → entries (from_entries {R = R} es) ≡ es
  entries_rising es h = ap entries (same_map o same (from_entries es) (from_sorted es) (λ q. get-from_entries o es q ∙ sym (get-from_sorted R es q h))) ∙ entries-from_sorted R es h
