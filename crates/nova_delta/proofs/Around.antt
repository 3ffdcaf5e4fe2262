-- Each finite map has its values around one key.
use Rattle.std.specs.Prelude.{◌≡◌, Bool, true, false, cond, not, T, List, [], ◌∷◌, ◌++◌, map, Option, Some, None, refl}
use Rattle.std.proofs.Common.{ap, sym, subst, ◌∙◌}
use Rattle.std.specs.declared.cmp.Ordering.{Ordering}
use Rattle.std.specs.declared.cmp.Ordering.TheVariants.{Less, Equal, Greater}
use Rattle.std.specs.Ordering.{eq_by_cmp, is_eq, is_lt, ordering_reverse}
use Rattle.std.specs.Cmp.{IsTotalOrder}
use Rattle.std.proofs.lemmas.Cmp.{alike_right}
use Rattle.std.specs.FinMap.{FinMap, IsAntisymmetric, find, put, is_sorted, entries, entries_sorted, get, remove, from_sorted, get-entries, get-remove, get-from_sorted, entries-insert, entries-from_sorted, same_map}
use Rattle.std.specs.FinMap.Entries.{by_order, below_all, where_key, is_sorted-where_key, find-where_key}
use Rattle.nova_delta.specs.Around.{one, Around}
use Rattle.nova_delta.proofs.Conditions.{first, second, both, less}

-- the values of a list of pairs
abbrev pub seconds : {K X : Type 0} → List (K × X) → List X
seconds es = map (λ e. e.1) es

turned : {A : Type 0} (b : Bool) (x y : A) → cond (not b) x y ≡ cond b y x
turned true x y = refl
turned false x y = refl

module _ {K X : Type 0} (R : K → K → Ordering) (o : IsTotalOrder R) where
  -- all entries but that of k
  abbrev without : K → List (K × X) → List (K × X)
  without k = where_key R (λ x. not (eq_by_cmp R k x))

  -- the values before a key and after it, of entries in order
  pub record ListAround (k : K) (es : List (K × X)) : Type 0 where
    pub prefix : List X
    pub suffix : List X
    pub now : seconds es ≡ prefix ++ (one (find R k es) ++ suffix)
    pub put : (v : X) → seconds (put R k v es) ≡ prefix ++ v ∷ suffix
    pub gone : seconds (without k es) ≡ prefix ++ suffix

  below_less : (k x : K) (es : List (K × X)) → R k x ≡ Less → T (below_all R x es) → T (below_all R k es)
  below_less k x [] p h = tt
  below_less k x (e ∷ es) p h = both _ _ (subst (λ r. T (is_lt r)) (sym (o.trans k x e.0 p (less _ (first _ _ h)))) tt) (below_less k x es p (second _ _ h))

  -- a key that ties with one below all others is below them too
  pub below_equal : (k x : K) (es : List (K × X)) → R k x ≡ Equal → T (below_all R x es) → T (below_all R k es)
  below_equal k x [] p h = tt
  below_equal k x (e ∷ es) p h = both _ _ (subst (λ r. T (is_lt r)) (sym (o.congr k x e.0 p)) (first _ _ h)) (below_equal k x es p (second _ _ h))

  -- a key below all others is none of them
  pub missing : (k : K) (es : List (K × X)) → T (below_all R k es) → find R k es ≡ None
  missing k [] h = refl
  missing k (e ∷ es) h = ap (λ r. cond (is_eq r) (Some e.1) (find R k es)) (less _ (first _ _ h)) ∙ missing k es (second _ _ h)

  without_below : (k : K) (es : List (K × X)) → T (below_all R k es) → without k es ≡ es
  without_below k [] h = refl
  without_below k (e ∷ es) h =
      ap (λ r. cond (not (is_eq r)) (e ∷ without k es) (without k es)) (less _ (first _ _ h)) ∙ ap (λ (fs : List (K × X)). e ∷ fs) (without_below k es (second _ _ h))

  -- a list in order has its values around each key
  pub list_around : (k : K) (es : List (K × X)) → T (is_sorted R es) → ListAround k es
  list_around k [] h = record { prefix = []; suffix = []; now = refl; put = λ v. refl; gone = refl }
  list_around k (e ∷ es) h = by_place (R k e.0) refl (list_around k es (second _ _ h))
    where
      by_place : (r : Ordering) → R k e.0 ≡ r → ListAround k es → ListAround k (e ∷ es)
      by_place Less p rest =
          let below : T (below_all R k (e ∷ es)) = both _ _ (subst (λ r. T (is_lt r)) (sym p) tt) (below_less k e.0 es p (first _ _ h)) in
          record {
            prefix = [];
            suffix = seconds (e ∷ es);
            now = ap (λ (x : Option X). one x ++ seconds (e ∷ es)) (sym (missing k (e ∷ es) below));
            put = λ v. ap (λ r. seconds (by_order r ((k, v) ∷ e ∷ es) ((e.0, v) ∷ es) (e ∷ put R k v es))) p;
            gone = ap seconds (without_below k (e ∷ es) below);
          }
      by_place Equal p rest =
          let below : T (below_all R k es) = below_equal k e.0 es p (first _ _ h) in
          record {
            prefix = [];
            suffix = seconds es;
            now = ap (λ r. one (cond (is_eq r) (Some e.1) (find R k es)) ++ seconds es) (sym p);
            put = λ v. ap (λ r. seconds (by_order r ((k, v) ∷ e ∷ es) ((e.0, v) ∷ es) (e ∷ put R k v es))) p;
            gone = ap (λ r. seconds (cond (not (is_eq r)) (e ∷ without k es) (without k es))) p ∙ ap seconds (without_below k es below);
          }
      by_place Greater p rest = record {
        prefix = e.1 ∷ rest.prefix;
        suffix = rest.suffix;
        now = ap (λ (xs : List X). e.1 ∷ xs) rest.now ∙ ap (λ r. e.1 ∷ rest.prefix ++ (one (cond (is_eq r) (Some e.1) (find R k es)) ++ rest.suffix)) (sym p);
        put = λ v. ap (λ r. seconds (by_order r ((k, v) ∷ e ∷ es) ((e.0, v) ∷ es) (e ∷ put R k v es))) p ∙ ap (λ (xs : List X). e.1 ∷ xs) (rest.put v);
        gone = ap (λ r. seconds (cond (not (is_eq r)) (e ∷ without k es) (without k es))) p ∙ ap (λ (xs : List X). e.1 ∷ xs) rest.gone;
      }

  entries-remove : IsAntisymmetric R → (m : FinMap R X) (k : K) → entries (remove m k) ≡ without k (entries m)
  entries-remove same m k =
      let left = without k (entries m) in
      let sorted : T (is_sorted R left) = is_sorted-where_key R (λ x. not (eq_by_cmp R k x)) (entries m) (entries_sorted m) in
      ap entries (same_map o same (remove m k) (from_sorted left) (λ q.
      get-remove o m k q
      ∙ ap (λ b. cond b None (get m q)) (tie_back q k)
      ∙ sym (turned (eq_by_cmp R k q) (get m q) None)
      ∙ ap (λ x. cond (not (eq_by_cmp R k q)) x None) (get-entries m q)
      ∙ sym (find-where_key R (λ x. not (eq_by_cmp R k x)) q (λ x t. ap (λ r. not (is_eq r)) (sym (alike_right o q x k t))) (entries m))
      ∙ sym (get-from_sorted R left q sorted)))
      ∙ entries-from_sorted R left sorted
    where
      tie_back : (q k : K) → is_eq (R q k) ≡ is_eq (R k q)
      tie_back q k = ap is_eq (o.antisymm q k) ∙ reversed (R k q)
        where
          reversed : (r : Ordering) → is_eq (ordering_reverse r) ≡ is_eq r
          reversed Less = refl
          reversed Equal = refl
          reversed Greater = refl

  -- each map has them
  pub around : IsAntisymmetric R → (k : K) (m : FinMap R X) → Around R o k m
  around same k m =
      let a = list_around k (entries m) (entries_sorted m) in
      record {
        prefix = a.prefix;
        suffix = a.suffix;
        now = a.now ∙ ap (λ (x : Option X). a.prefix ++ (one x ++ a.suffix)) (sym (get-entries m k));
        put = λ v. ap seconds (entries-insert o m k v) ∙ a.put v;
        gone = ap seconds (entries-remove same m k) ∙ a.gone;
      }
