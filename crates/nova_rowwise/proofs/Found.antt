-- Finding a row by its key, in a list and in a table.
use Rattle.std.specs.Prelude.{◌≡◌, ℕ, Bool, true, false, cond, T, ◌&&◌, List, [], ◌∷◌, Option, Some, None, refl}
use Rattle.std.proofs.Common.{ap, sym, ◌∙◌, inl, inr}
use Rattle.std.specs.declared.cmp.Ordering.{Ordering}
use Rattle.std.specs.declared.cmp.Ordering.TheVariants.{Less, Equal, Greater}
use Rattle.std.specs.Ordering.{eq_by_cmp, is_eq, is_lt}
use Rattle.std.specs.FinMap as fin
use Rattle.std.specs.FinMap.{find, is_sorted, get-from_entries}
use Rattle.std.specs.FinMap.Entries.{below_all}
use Rattle.nova_value.specs.Order.{key_cmp}
use Rattle.nova_value.specs.Orders.{keys_total, same_keys}
use Rattle.nova_value.specs.Rows.{Shape, key_at}
use Rattle.nova_delta.specs.Seen.{keyed, table_of}
use Rattle.nova_pig_algebra.specs.Meaning.{Row}
use Rattle.nova_pig_algebra.specs.Statements.{In}
use Rattle.nova_rowwise.specs.Rule.{Sole}
use Rattle.nova_rowwise.specs.Derived.{found}
use Rattle.nova_rowwise.specs.Sources.{Key}

-- what a table of rows has at a key
pub get-table_of : (s : Shape) (rows : List Row) (q : Key) → fin.get (table_of s rows).rows q ≡ found s.key q rows
get-table_of s rows q = get-from_entries keys_total (keyed s.key rows) q ∙ each rows
  where
    each : (rs : List Row) → find key_cmp q (keyed s.key rs) ≡ found s.key q rs
    each [] = refl
    each (r ∷ rs) = ap (cond (eq_by_cmp key_cmp q (key_at s.key r)) (Some r)) (each rs)

-- it is one of them, and has that key
pub found_is : (key : List ℕ) (q : Key) (rows : List Row) (x : Row) → found key q rows ≡ Some x → In x rows × (key_at key x ≡ q)
found_is key q [] x e = absurd cc
found_is key q (r ∷ rs) x e = by_test (λ f. found_is key q rs x f) (eq_by_cmp key_cmp q (key_at key r)) refl e
  where
    by_test : (found key q rs ≡ Some x → In x rs × (key_at key x ≡ q)) → (b : Bool) → eq_by_cmp key_cmp q (key_at key r) ≡ b → cond b (Some r) (found key q rs) ≡ Some x → In x (r ∷ rs) × (key_at key x ≡ q)
    by_test go true ties f = let same : r ≡ x = cc in (inl (sym same), ap (key_at key) (sym same) ∙ sym ((same_keys q (key_at key r)).0 ties))
    by_test go false apart f = let p = go f in (inr p.0, p.1)

-- a row that is the only one with its key is found
pub found_in : (key : List ℕ) (q : Key) (rows : List Row) (x : Row) → Sole key rows → In x rows → key_at key x ≡ q → found key q rows ≡ Some x
found_in key q [] x sole i e = absurd i
found_in key q (r ∷ rs) x sole i e = by_test (λ j. found_in key q rs x (λ y z a b. sole y z (inr a) (inr b)) j e) (eq_by_cmp key_cmp q (key_at key r)) refl i
  where
    by_test : (In x rs → found key q rs ≡ Some x) → (b : Bool) → eq_by_cmp key_cmp q (key_at key r) ≡ b → In x (r ∷ rs) → cond b (Some r) (found key q rs) ≡ Some x
    by_test go true ties j = ap Some (sole r x (inl refl) i (sym ((same_keys q (key_at key r)).0 ties) ∙ sym e))
    by_test go false apart (inl same) = let no : true ≡ false = sym ((same_keys q (key_at key r)).1 (sym e ∙ ap (key_at key) same)) ∙ apart in absurd cc
    by_test go false apart (inr j) = go j

-- two lists that have the same rows at a key
pub found_same : (key : List ℕ) (q : Key) (xs ys : List Row) → Sole key xs → Sole key ys
    → ((x : Row) → key_at key x ≡ q → In x xs → In x ys) → ((x : Row) → key_at key x ≡ q → In x ys → In x xs) → found key q xs ≡ found key q ys
found_same key q xs ys sx sy there back = go (found key q xs) (found key q ys) refl refl
  where
    go : (a b : Option Row) → found key q xs ≡ a → found key q ys ≡ b → found key q xs ≡ found key q ys
    go (Some x) b e f = let p = found_is key q xs x e in e ∙ sym (found_in key q ys x sy (there x p.1 p.0) p.1)
    go None (Some y) e f = let p = found_is key q ys y f in found_in key q xs y sx (back y p.1 p.0) p.1 ∙ sym f
    go None None e f = e ∙ sym f

first_part : (a b : Bool) → T (a && b) → T a
first_part true b p = tt
first_part false b p = absurd p

second_part : (a b : Bool) → T (a && b) → T b
second_part true b p = p
second_part false b p = absurd p

less : (o : Ordering) → T (is_lt o) → o ≡ Less
less Less p = refl
less Equal p = absurd p
less Greater p = absurd p

module _ {X : Type 0} where
  below : (k : Key) (es : List (Key × X)) (p : Key × X) → T (below_all key_cmp k es) → In p es → key_cmp k p.0 ≡ Less
  below k [] p h i = absurd i
  below k (e ∷ es) p h (inl same) = ap (λ (w : Key × X). key_cmp k w.0) same ∙ less _ (first_part _ _ h)
  below k (e ∷ es) p h (inr i) = below k es p (second_part _ _ h) i

  pub find_in : (es : List (Key × X)) (p : Key × X) → T (is_sorted key_cmp es) → In p es → find key_cmp p.0 es ≡ Some p.1
  find_in [] p h i = absurd i
  find_in (e ∷ es) p h (inl same) = ap (λ b. cond b (Some e.1) (find key_cmp p.0 es)) ((same_keys p.0 e.0).1 (ap (λ (w : Key × X). w.0) same)) ∙ ap (λ (w : Key × X). Some w.1) (sym same)
  find_in (e ∷ es) p h (inr i) = ap (λ b. cond b (Some e.1) (find key_cmp p.0 es)) (not_tied (eq_by_cmp key_cmp p.0 e.0) refl) ∙ find_in es p (second_part _ _ h) i
    where
      not_tied : (b : Bool) → eq_by_cmp key_cmp p.0 e.0 ≡ b → eq_by_cmp key_cmp p.0 e.0 ≡ false
      not_tied false f = f
      not_tied true f =
          let same : p.0 ≡ e.0 = (same_keys p.0 e.0).0 f in
          let lt : key_cmp e.0 p.0 ≡ Less = below e.0 es p (first_part _ _ h) i in
          let tied : is_eq (key_cmp e.0 p.0) ≡ true = (same_keys e.0 p.0).1 (sym same) in
          let no : is_eq Less ≡ true = ap is_eq (sym lt) ∙ tied in absurd cc

  pub in_found : (es : List (Key × X)) (k : Key) (x : X) → find key_cmp k es ≡ Some x → (p : Key × X) × In p es × (p.1 ≡ x) × (p.0 ≡ k)
  in_found [] k x e = absurd cc
  in_found (e ∷ es) k x f = by_test (λ g. in_found es k x g) (eq_by_cmp key_cmp k e.0) refl f
    where
      by_test : (find key_cmp k es ≡ Some x → (p : Key × X) × In p es × (p.1 ≡ x) × (p.0 ≡ k)) → (b : Bool) → eq_by_cmp key_cmp k e.0 ≡ b → cond b (Some e.1) (find key_cmp k es) ≡ Some x → (p : Key × X) × In p (e ∷ es) × (p.1 ≡ x) × (p.0 ≡ k)
      by_test go true ties g = let same : e.1 ≡ x = cc in (e, inl refl, same, sym ((same_keys k e.0).0 ties))
      by_test go false apart g = let r = go g in (r.0, inr r.1, r.2, r.3)
