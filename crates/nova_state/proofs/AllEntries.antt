-- What holds of a map at each key holds of each of its entries.
use Rattle.std.specs.Prelude.{◌≡◌, ℕ, ◌+◌, ◌≤◌, Bool, true, false, cond, T, List, [], ◌∷◌, ◌++◌, length, is_some, Option, Some, None, refl}
use Rattle.std.proofs.Common.{ap, sym, ◌∙◌, arith}
use Rattle.std.proofs.lemmas.Cmp.{tied_itself}
use Rattle.std.specs.Cmp.{IsTotalOrder, Equal-is}
use Rattle.std.specs.declared.cmp.Ordering.{Ordering}
use Rattle.std.specs.List.{AllByRecursion}
use Rattle.std.specs.Ordering.{eq_by_cmp, is_eq}
use Rattle.std.specs.FinMap.{FinMap, find, is_sorted, get, len, empty, entries, entries_sorted, from_entries, insert, contains_key, get-entries, len-empty, len-insert}
use Rattle.std.specs.FinMap.Entries.{below_all}
use Rattle.nova_delta.specs.Tabulated.{entry_at, pairs, tabulated}
use Rattle.nova_delta.proofs.Around.{below_equal, missing}
use Rattle.nova_delta.proofs.Conditions.{first, second}

module _ {K X : Type 0} {R : K → K → Ordering} (o : IsTotalOrder R) (P : K × X → Type 0) where
  all_of : (es : List (K × X)) → T (is_sorted R es) → ((k : K) (x : X) → find R k es ≡ Some x → P (k, x)) → AllByRecursion P es
  all_of [] h found = tt
  all_of (e ∷ es) h found = (
    found e.0 e.1 (ap (λ r. cond (is_eq r) (Some e.1) (find R e.0 es)) (tied_itself o e.0)),
    all_of es (second (below_all R e.0 es) (is_sorted R es) h) (λ k x is. by_test k x is (eq_by_cmp R k e.0) refl),
  )
    where
      by_test : (k : K) (x : X) → find R k es ≡ Some x → (b : Bool) → eq_by_cmp R k e.0 ≡ b → P (k, x)
      by_test k x is true ties =
          let none : find R k es ≡ None = missing R o k es (below_equal R o k e.0 es ((Equal-is _).0 ties) (first (below_all R e.0 es) (is_sorted R es) h)) in
          let no : ◌≡◌ {A = Option X} None (Some x) = sym none ∙ is in
          absurd cc
      by_test k x is false apart = found k x (ap (λ b. cond b (Some e.1) (find R k es)) apart ∙ is)

  pub all_entries : (m : FinMap R X) → ((k : K) (x : X) → get m k ≡ Some x → P (k, x)) → AllByRecursion P (entries m)
  all_entries m found = all_of (entries m) (entries_sorted m) (λ k x is. found k x (get-entries m k ∙ is))

one_more : (b : Bool) (n : ℕ) → cond b n (n + 1) ≤ n + 1
one_more true n = omega arith
one_more false n = omega arith

module _ {K X : Type 0} {R : K → K → Ordering} (o : IsTotalOrder R) where
  entries_short : (es : List (K × X)) → len (from_entries {R = R} es) ≤ length es
  entries_short [] = let none = len-empty R X in omega (arith, none)
  entries_short (e ∷ es) =
      let m : FinMap R X = from_entries es in
      let is = len-insert o m e.0 e.1 in
      let more = one_more (contains_key m e.0) (len m) in
      let rest = entries_short es in
      omega (arith, is, more, rest)

  pairs_short : (ks : List K) (f : K → Option X) → length (pairs ks f) ≤ length ks
  pairs_short [] f = omega arith
  pairs_short (k ∷ ks) f = go (f k) (pairs_short ks f)
    where
      go : (x : Option X) → length (pairs ks f) ≤ length ks → length (entry_at k x ++ pairs ks f) ≤ length (k ∷ ks)
      go None h = omega (arith, h)
      go (Some x) h = omega (arith, h)

  -- a tabulated map has at most one entry for each listed key
  pub tabulated_short : (ks : List K) (f : K → Option X) → len (tabulated {R = R} ks f) ≤ length ks
  tabulated_short ks f = let a = entries_short (pairs ks f) in let b = pairs_short ks f in omega (arith, a, b)
