-- What a function makes of the values of a finite map, as a list and at each key.
use Rattle.std.specs.Prelude.{◌≡◌, Bool, true, false, cond, T, List, [], ◌∷◌, map, Option, Some, None, refl}
use Rattle.std.proofs.Common.{ap, sym, ◌∙◌}
use Rattle.std.specs.declared.cmp.Ordering.{Ordering}
use Rattle.std.specs.Ordering.{eq_by_cmp}
use Rattle.std.specs.Option.{option_and_then}
use Rattle.std.specs.List.{filter_map, cons_option}
use Rattle.std.specs.Cmp.{IsTotalOrder}
use Rattle.std.specs.FinMap.{FinMap, IsAntisymmetric, find, is_sorted, entries, entries_sorted, values, get, get-entries, get-from_sorted, entries-from_sorted, same_map}
use Rattle.std.specs.FinMap.Entries.{below_all}
use Rattle.nova_delta.proofs.Around.{missing, below_equal}
use Rattle.std.specs.Cmp.{Equal-is}
use Rattle.nova_delta.specs.Mapped.{at_key, kept_entries, mapped}
use Rattle.nova_delta.proofs.Conditions.{first, second, both}

module _ {K X Y : Type 0} (R : K → K → Ordering) (f : X → Option Y) where
  seconds-kept : (es : List (K × X)) → map (λ e. e.1) (kept_entries R f es) ≡ filter_map f (map (λ e. e.1) es)
  seconds-kept [] = refl
  seconds-kept (e ∷ es) = by_kept (f e.1) (seconds-kept es)
    where
      by_kept : (o : Option Y) → map (λ e. e.1) (kept_entries R f es) ≡ filter_map f (map (λ e. e.1) es) → map (λ e. e.1) (cons_option (at_key R f e.0 o) (kept_entries R f es)) ≡ cons_option o (filter_map f (map (λ e. e.1) es))
      by_kept None h = h
      by_kept (Some y) h = ap (λ (ys : List Y). y ∷ ys) h

  below_kept : (k : K) (es : List (K × X)) → T (below_all R k es) → T (below_all R k (kept_entries R f es))
  below_kept k [] h = tt
  below_kept k (e ∷ es) h = by_kept (f e.1) (below_kept k es (second _ _ h))
    where
      by_kept : (o : Option Y) → T (below_all R k (kept_entries R f es)) → T (below_all R k (cons_option (at_key R f e.0 o) (kept_entries R f es)))
      by_kept None rest = rest
      by_kept (Some y) rest = both _ _ (first _ _ h) rest

  sorted_kept : (es : List (K × X)) → T (is_sorted R es) → T (is_sorted R (kept_entries R f es))
  sorted_kept [] h = tt
  sorted_kept (e ∷ es) h = by_kept (f e.1) (sorted_kept es (second _ _ h))
    where
      by_kept : (o : Option Y) → T (is_sorted R (kept_entries R f es)) → T (is_sorted R (cons_option (at_key R f e.0 o) (kept_entries R f es)))
      by_kept None rest = rest
      by_kept (Some y) rest = both _ _ (below_kept e.0 es (first _ _ h)) rest

  -- its values, in the order of the keys
  pub values-mapped : (m : FinMap R X) → values (mapped R f m) ≡ filter_map f (values m)
  unfolding mapped
  values-mapped m = ap (map (λ e. e.1)) (entries-from_sorted R (kept_entries R f (entries m)) (sorted_kept (entries m) (entries_sorted m))) ∙ seconds-kept (entries m)

  module _ (o : IsTotalOrder R) where
    find-kept : (q : K) (es : List (K × X)) → T (is_sorted R es) → find R q (kept_entries R f es) ≡ option_and_then f (find R q es)
    find-kept q [] h = refl
    find-kept q (e ∷ es) h = by_kept (f e.1) refl (eq_by_cmp R q e.0) refl (find-kept q es (second _ _ h))
      where
        none_later : eq_by_cmp R q e.0 ≡ true → find R q es ≡ None
        none_later ties = missing R o q es (below_equal R o q e.0 es ((Equal-is _).0 ties) (first _ _ h))

        by_kept : (y : Option Y) → f e.1 ≡ y → (b : Bool) → eq_by_cmp R q e.0 ≡ b → find R q (kept_entries R f es) ≡ option_and_then f (find R q es)
            → find R q (cons_option (at_key R f e.0 y) (kept_entries R f es)) ≡ option_and_then f (cond b (Some e.1) (find R q es))
        by_kept None is true ties rest = rest ∙ ap (λ (x : Option X). option_and_then f x) (none_later ties) ∙ sym is
        by_kept None is false apart rest = rest
        by_kept (Some y) is true ties rest = ap (λ b. cond b (Some y) (find R q (kept_entries R f es))) ties ∙ sym is
        by_kept (Some y) is false apart rest = ap (λ b. cond b (Some y) (find R q (kept_entries R f es))) apart ∙ rest

    -- what it has at a key
    pub get-mapped : (m : FinMap R X) (q : K) → get (mapped R f m) q ≡ option_and_then f (get m q)
    unfolding mapped
    get-mapped m q =
        get-from_sorted R (kept_entries R f (entries m)) q (sorted_kept (entries m) (entries_sorted m))
        ∙ find-kept q (entries m) (entries_sorted m)
        ∙ ap (λ (x : Option X). option_and_then f x) (sym (get-entries m q))

-- two maps that keep the same at each key keep the same list
pub same_kept : {K X Z Y : Type 0} (R : K → K → Ordering) (o : IsTotalOrder R) (same : IsAntisymmetric R) (f : X → Option Y) (g : Z → Option Y) (m : FinMap R X) (n : FinMap R Z)
    → ((q : K) → option_and_then f (get m q) ≡ option_and_then g (get n q)) → filter_map f (values m) ≡ filter_map g (values n)
same_kept {Y = Y} R o same f g m n h =
    sym (values-mapped R f m)
    ∙ ap (λ (k : FinMap R Y). values k) (same_map o same (mapped R f m) (mapped R g n) (λ q. get-mapped R f o m q ∙ h q ∙ sym (get-mapped R g o n q)))
    ∙ values-mapped R g n
