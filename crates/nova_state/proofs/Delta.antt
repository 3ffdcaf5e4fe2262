-- The delta of a grouping plan takes the table of the old rows to that of the new rows.
use Rattle.std.proofs.Common.{◌≡◌, ℕ, Bool, true, false, cond, ◌||◌, List, [], ◌∷◌, ◌++◌, map, flat_map, Option, Some, None, refl, ap, sym, ◌∙◌}
use Rattle.std.specs.Prelude.{is_some, ◌⊎◌}
use Rattle.std.proofs.Common.{inl, inr}
use Rattle.std.specs.Ordering.{eq_by_cmp}
use Rattle.std.specs.List.{filter_map, cons_option, list_any}
use Rattle.std.specs.FinMap.{get, values, find, from_entries, entries, get-entries, get-from_entries, contains_key-keys}
use Rattle.std.specs.FinMap.Entries.{is_some-find}
use Rattle.nova_value.specs.declared.value.Value.{Value}
use Rattle.nova_value.specs.declared.schema.Entry.{Entry}
use Rattle.nova_value.specs.declared.schema.Entry.TheVariants.{Put, Removal}
use Rattle.nova_value.specs.Order.{key_cmp}
use Rattle.nova_value.specs.Orders.{exact_keys, keys_total, same_keys}
use Rattle.nova_value.specs.Rows.{key_at}
use Rattle.nova_delta.specs.ActionLaws.{list_any-append}
use Rattle.nova_delta.specs.Merge.{RowMap, EntryMap, after, merged}
use Rattle.nova_delta.specs.ActionLaws.{get-merged, same_rows}
use Rattle.nova_delta.specs.Seen.{row_map, keyed}
use Rattle.nova_groups.specs.State.{and_then, row_put}
use Rattle.nova_delta.proofs.Mapped.{same_kept}
use Rattle.nova_pig_algebra.specs.Tree.{rising, members}
use Rattle.nova_pig_algebra.specs.Meaning.{Calls}
use Rattle.nova_state.specs.Rule.{GroupRule, row_of, rows_made, bys, touched, entry_of, row_at, changes}
use Rattle.nova_state.proofs.Rows.{is_cons, row_at-members}

abbrev pub eq : List Value → List Value → Bool
eq = eq_by_cmp key_cmp

pub eq_is : (q k : List Value) → eq q k ≡ true → q ≡ k
eq_is q k e = (same_keys q k).0 e

pub own : (k : List Value) → eq k k ≡ true
own k = (same_keys k k).1 refl

or_right : (a b : Bool) → b ≡ true → (a || b) ≡ true
or_right true b e = refl
or_right false b e = e

or_left : (a b : Bool) → a ≡ true → (a || b) ≡ true
or_left true b e = refl
or_left false b e = cc

or_first : (a b : Bool) → (a || b) ≡ false → a ≡ false
or_first true b e = e
or_first false b e = refl

or_second : (a b : Bool) → (a || b) ≡ false → b ≡ false
or_second true b e = cc
or_second false b e = e

pub or_cases : (a b : Bool) → (a || b) ≡ true → (a ≡ true) ⊎ (b ≡ true)
or_cases true b e = inl refl
or_cases false b e = inr e

abbrev pair : {Z : Type 0} → List Value → Option Z → Option (List Value × Z)
pair k None = None
pair k (Some z) = Some (k, z)

-- entries at keys that a function makes, where another takes the keys back
module _ {Z : Type 0} (key_of by_of : List Value → List Value) (f : List Value → Option Z) (q : List Value) where
  abbrev at_q : Option Z
  at_q = cond (eq q (key_of (by_of q))) (f (by_of q)) None

  pub find-made : (gs : List (List Value)) → ((g : List Value) → list_any (eq g) gs ≡ true → by_of (key_of g) ≡ g) → find key_cmp q (filter_map (λ g. pair (key_of g) (f g)) gs) ≡ cond (list_any (eq (by_of q)) gs) at_q None
  find-made [] back = refl
  find-made (g ∷ gs) back = by_value (f g) refl (eq (by_of q) g) refl (eq q (key_of g)) refl (find-made gs (λ h any. back h (or_right _ _ any)))
    where
      found : Option Z
      found = find key_cmp q (filter_map (λ h. pair (key_of h) (f h)) gs)

      none_here : (x : Option Z) → at_q ≡ x → (b : Bool) → cond b at_q None ≡ cond b x None
      none_here x e b = ap (λ y. cond b y None) e

      nothing : (b : Bool) → ◌≡◌ {A = Option Z} (cond b None None) None
      nothing true = refl
      nothing false = refl

      by_value : (o : Option Z) → f g ≡ o → (b : Bool) → eq (by_of q) g ≡ b → (c : Bool) → eq q (key_of g) ≡ c
          → found ≡ cond (list_any (eq (by_of q)) gs) at_q None
          → find key_cmp q (cons_option (pair (key_of g) o) (filter_map (λ h. pair (key_of h) (f h)) gs)) ≡ cond (b || list_any (eq (by_of q)) gs) at_q None
      by_value None is true same c at rest =
          let none : at_q ≡ None = ap (λ h. cond (eq q (key_of h)) (f h) None) (eq_is _ _ same) ∙ ap (cond (eq q (key_of g)) (f g)) refl ∙ ap (λ x. cond (eq q (key_of g)) x None) is ∙ nothing (eq q (key_of g)) in
          rest ∙ none_here None none (list_any (eq (by_of q)) gs) ∙ nothing (list_any (eq (by_of q)) gs) ∙ sym none
      by_value None is false apart c at rest = rest
      by_value (Some z) is true same true at rest =
          ap (λ b. cond b (Some z) found) at ∙ sym (ap (λ h. cond (eq q (key_of h)) (f h) None) (eq_is _ _ same) ∙ ap (λ b. cond b (f g) None) at ∙ is)
      by_value (Some z) is true same false at rest =
          let none : at_q ≡ None = ap (λ h. cond (eq q (key_of h)) (f h) None) (eq_is _ _ same) ∙ ap (λ b. cond b (f g) None) at in
          ap (λ b. cond b (Some z) found) at ∙ rest ∙ none_here None none (list_any (eq (by_of q)) gs) ∙ nothing (list_any (eq (by_of q)) gs) ∙ sym none
      by_value (Some z) is false apart true at rest =
          let same : by_of q ≡ g = ap by_of (eq_is _ _ at) ∙ back g (or_left _ _ (own g)) in
          let clash : true ≡ false = sym (own g) ∙ ap (λ h. eq h g) (sym same) ∙ apart in
          absurd cc
      by_value (Some z) is false apart false at rest = ap (λ b. cond b (Some z) found) at ∙ rest

pub map-made : {Z : Type 0} (key_of : List Value → List Value) (f : List Value → Z) (gs : List (List Value)) → map (λ g. (key_of g, f g)) gs ≡ filter_map (λ g. pair (key_of g) (Some (f g))) gs
map-made key_of f [] = refl
map-made {Z = Z} key_of f (g ∷ gs) = ap (λ (es : List (List Value × Z)). (key_of g, f g) ∷ es) (map-made key_of f gs)

pub any-keys : (g : List Value) (bs : List (List Value)) → list_any (eq g) (rising bs) ≡ list_any (eq g) bs
any-keys g bs =
    sym (contains_key-keys (from_entries {R = key_cmp} (map (λ by. (by, by)) bs)) g)
    ∙ ap is_some (get-from_entries keys_total (map (λ by. (by, by)) bs) g)
    ∙ is_some-find key_cmp g (map (λ by. (by, by)) bs)
    ∙ firsts bs
  where
    firsts : (bs : List (List Value)) → list_any (eq g) (map (λ (e : List Value × List Value). e.0) (map (λ by. (by, by)) bs)) ≡ list_any (eq g) bs
    firsts [] = refl
    firsts (b ∷ bs) = ap (λ x. eq g b || x) (firsts bs)

-- what an element of a flattened list is of
pub any_in : {X : Type 0} (g : List Value) (h : X → List (List Value)) (Q : Type 0) → ((k : X) → list_any (eq g) (h k) ≡ true → Q) → (ks : List X) → list_any (eq g) (flat_map h ks) ≡ true → Q
any_in g h Q step [] any = absurd cc
any_in g h Q step (k ∷ ks) any = by_part (any_in g h Q step ks) (or_cases _ _ (sym (list_any-append (eq g) (h k) (flat_map h ks)) ∙ any))
  where
    by_part : (list_any (eq g) (flat_map h ks) ≡ true → Q) → (list_any (eq g) (h k) ≡ true) ⊎ (list_any (eq g) (flat_map h ks) ≡ true) → Q
    by_part later (inl here) = step k here
    by_part later (inr there) = later there

none_in : (g : List Value) (h : List Value × Entry → List (List Value)) (es : List (List Value × Entry)) (k : List Value) (e : Entry) → list_any (eq g) (flat_map h es) ≡ false → find key_cmp k es ≡ Some e → list_any (eq g) (h (k, e)) ≡ false
none_in g h [] k e none found = absurd cc
none_in g h (f ∷ es) k e none found =
    let split = sym (list_any-append (eq g) (h f) (flat_map h es)) ∙ none in
    by_test (none_in g h es k e (or_second (list_any (eq g) (h f)) _ split)) (or_first _ _ split) (eq k f.0) refl found
  where
    by_test : (find key_cmp k es ≡ Some e → list_any (eq g) (h (k, e)) ≡ false) → list_any (eq g) (h f) ≡ false → (b : Bool) → eq k f.0 ≡ b → cond b (Some f.1) (find key_cmp k es) ≡ Some e → list_any (eq g) (h (k, e)) ≡ false
    by_test later here true same is =
        let first : k ≡ f.0 = eq_is _ _ same in
        let second : f.1 ≡ e = cc in
        ap (λ (x : List Value × Entry). list_any (eq g) (h x)) (λ i. (first i, sym second i)) ∙ here
    by_test later here false apart is = later is

module _ (p : GroupRule) (key : List ℕ) (key_of by_of : List Value → List Value)
    (back : (row : List Value) → by_of (key_of (key_at p.columns row)) ≡ key_at p.columns row)
    (at_key : (by : List Value) (f : Calls) (row : List Value) → p.finish by f ≡ Some row → key_at key row ≡ key_of by) where
  IsBack : List Value → Type 0
  IsBack g = by_of (key_of g) ≡ g

  back-row : (g row : List Value) → eq g (key_at p.columns row) ≡ true → by_of (key_of g) ≡ g
  back-row g row e = let is = eq_is _ _ e in ap (λ h. by_of (key_of h)) is ∙ back row ∙ sym is

  back-rows : (g : List Value) (rows : List (List Value)) → list_any (eq g) (map (key_at p.columns) rows) ≡ true → by_of (key_of g) ≡ g
  back-rows g [] any = absurd cc
  back-rows g (row ∷ rows) any = by_part (back-rows g rows) (or_cases _ _ any)
    where
      by_part : (list_any (eq g) (map (key_at p.columns) rows) ≡ true → by_of (key_of g) ≡ g) → (eq g (key_at p.columns row) ≡ true) ⊎ (list_any (eq g) (map (key_at p.columns) rows) ≡ true) → by_of (key_of g) ≡ g
      by_part later (inl here) = back-row g row here
      by_part later (inr there) = later there

  pub back-bys : (g : List Value) (o : Option (List Value)) → list_any (eq g) (bys p o) ≡ true → by_of (key_of g) ≡ g
  back-bys g o any = by_row (and_then o p.chain) any
    where
      by_row : (o : Option (List Value)) → list_any (eq g) (elim o as (λ _. List (List Value)) [ None ↦ [] | Some row ↦ key_at p.columns row ∷ [] ]) ≡ true → by_of (key_of g) ≡ g
      by_row None any = absurd cc
      by_row (Some row) any = by_part (or_cases _ _ any)
        where
          by_part : (eq g (key_at p.columns row) ≡ true) ⊎ (false ≡ true) → by_of (key_of g) ≡ g
          by_part (inl here) = back-row g row here
          by_part (inr there) = absurd cc

  keyed-made : (f : List Value → Option (List Value)) → ((g row : List Value) → f g ≡ Some row → key_at key row ≡ key_of g) → (gs : List (List Value)) → keyed key (filter_map f gs) ≡ filter_map (λ g. pair (key_of g) (f g)) gs
  keyed-made f at [] = refl
  keyed-made f at (g ∷ gs) = by_value (f g) refl (keyed-made f at gs)
    where
      by_value : (o : Option (List Value)) → f g ≡ o → keyed key (filter_map f gs) ≡ filter_map (λ h. pair (key_of h) (f h)) gs → keyed key (cons_option o (filter_map f gs)) ≡ cons_option (pair (key_of g) o) (filter_map (λ h. pair (key_of h) (f h)) gs)
      by_value None is h = h
      by_value (Some row) is h = λ i. (at g row is i, row) ∷ h i

  -- the table of the plan's rows, at each key
  pub get-made : (m : RowMap) (q : List Value) → get (row_map (keyed key (rows_made p m))) q ≡ cond (eq q (key_of (by_of q))) (row_at p m (by_of q)) None
  get-made m q =
      let rows = filter_map p.chain (values m) in
      let row : List Value → Option (List Value) = λ by. row_of p by (members p.columns rows by) in
      let all : List (List Value) = map (key_at p.columns) rows in
      get-from_entries keys_total (keyed key (rows_made p m)) q
      ∙ ap (find key_cmp q) (keyed-made row (λ g r is. at_key g _ r is) (rising all))
      ∙ find-made key_of by_of row q (rising all) (λ g any. back-rows g rows (sym (any-keys g all) ∙ any))
      ∙ ap (λ b. cond b (cond (eq q (key_of (by_of q))) (row (by_of q)) None) None) (any-keys (by_of q) all)
      ∙ swap (list_any (eq (by_of q)) all) (eq q (key_of (by_of q))) (row (by_of q))
    where
      swap : (a b : Bool) (x : Option (List Value)) → cond a (cond b x None) None ≡ cond b (cond a x None) None
      swap true true x = refl
      swap true false x = refl
      swap false true x = refl
      swap false false x = refl

  -- the delta, at each key
  pub get-changes : (m : RowMap) (d : EntryMap) (q : List Value) → get (changes p key_of m d) q ≡ cond (list_any (eq (by_of q)) (touched p m (entries d))) (cond (eq q (key_of (by_of q))) (Some (entry_of (key_of (by_of q)) (row_at p (merged m d) (by_of q)))) None) None
  unfolding changes
  get-changes m d q =
      get-from_entries keys_total (map (λ by. (key_of by, entry_of (key_of by) (row_at p (merged m d) by))) (touched p m (entries d))) q
      ∙ ap (find key_cmp q) (map-made key_of (λ by. entry_of (key_of by) (row_at p (merged m d) by)) (touched p m (entries d)))
      ∙ find-made key_of by_of (λ by. Some (entry_of (key_of by) (row_at p (merged m d) by))) q (touched p m (entries d))
      (λ g any. any_in g (λ (e : List Value × Entry). bys p (get m e.0) ++ bys p (row_put e.1)) (by_of (key_of g) ≡ g)
      (λ e here. both g (get m e.0) (row_put e.1) (or_cases _ _ (sym (list_any-append (eq g) (bys p (get m e.0)) (bys p (row_put e.1))) ∙ here))) (entries d) any)
    where
      both : (g : List Value) (a b : Option (List Value)) → (list_any (eq g) (bys p a) ≡ true) ⊎ (list_any (eq g) (bys p b) ≡ true) → by_of (key_of g) ≡ g
      both g a b (inl here) = back-bys g a here
      both g a b (inr here) = back-bys g b here

  -- the row, if it is in this group
  abbrev kept_if : List Value → Option (List Value) → Option (List Value)
  kept_if g None = None
  kept_if g (Some row) = cond (eq g (key_at p.columns row)) (Some row) None

  abbrev in_group : List Value → List Value → Option (List Value)
  in_group g row = kept_if g (p.chain row)

  members-kept : (g : List Value) (rows : List (List Value)) → members p.columns (filter_map p.chain rows) g ≡ filter_map (in_group g) rows
  members-kept g [] = refl
  members-kept g (row ∷ rows) = by_chain (p.chain row) (members-kept g rows)
    where
      by_chain : (o : Option (List Value)) → members p.columns (filter_map p.chain rows) g ≡ filter_map (in_group g) rows → members p.columns (cons_option o (filter_map p.chain rows)) g ≡ cons_option (kept_if g o) (filter_map (in_group g) rows)
      by_chain None h = h
      by_chain (Some r) h =
          elim (eq g (key_at p.columns r)) as (λ b. cond b (r ∷ members p.columns (filter_map p.chain rows) g) (members p.columns (filter_map p.chain rows) g) ≡ cons_option (cond b (Some r) None) (filter_map (in_group g) rows)) [
            | true ↦ ap (λ (rs : List (List Value)). r ∷ rs) h
            | false ↦ h
          ]

  out_of : (g : List Value) (o : Option (List Value)) → list_any (eq g) (bys p o) ≡ false → and_then o (in_group g) ≡ None
  out_of g None none = refl
  out_of g (Some row) none = by_chain (p.chain row) none
    where
      by_chain : (o : Option (List Value)) → list_any (eq g) (elim o as (λ _. List (List Value)) [ None ↦ [] | Some row ↦ key_at p.columns row ∷ [] ]) ≡ false → kept_if g o ≡ None
      by_chain None none = refl
      by_chain (Some r) none = ap (λ b. cond b (Some r) None) (or_first _ _ none)

  -- the members of a group that no written key had or has
  untouched : (m : RowMap) (d : EntryMap) (g : List Value) → list_any (eq g) (touched p m (entries d)) ≡ false → members p.columns (filter_map p.chain (values m)) g ≡ members p.columns (filter_map p.chain (values (merged m d))) g
  untouched m d g none =
      members-kept g (values m)
      ∙ same_kept key_cmp keys_total exact_keys (in_group g) (in_group g) m (merged m d) (λ k. at k (get d k) refl ∙ ap (λ (o : Option (List Value)). and_then o (in_group g)) (sym (get-merged m d k)))
      ∙ sym (members-kept g (values (merged m d)))
    where
      at : (k : List Value) (o : Option Entry) → get d k ≡ o → and_then (get m k) (in_group g) ≡ and_then (after o (get m k)) (in_group g)
      at k None is = refl
      at k (Some e) is =
          let here = none_in g (λ (f : List Value × Entry). bys p (get m f.0) ++ bys p (row_put f.1)) (entries d) k e none (sym (get-entries d k) ∙ is) in
          let parts = sym (list_any-append (eq g) (bys p (get m k)) (bys p (row_put e))) ∙ here in
          let new = or_second (list_any (eq g) (bys p (get m k))) _ parts in
          out_of g (get m k) (or_first _ _ parts) ∙ sym (after_put e (get m k) ∙ out_of g (row_put e) new)
        where
          after_put : (e : Entry) (r : Option (List Value)) → and_then (after (Some e) r) (in_group g) ≡ and_then (row_put e) (in_group g)
          after_put (Put row) r = refl
          after_put (Removal key) r = refl

  row_at-untouched : (m : RowMap) (d : EntryMap) (g : List Value) → list_any (eq g) (touched p m (entries d)) ≡ false → row_at p m g ≡ row_at p (merged m d) g
  row_at-untouched m d g none =
      row_at-members p m g
      ∙ ap (λ (ms : List (List Value)). cond (is_cons ms) (row_of p g ms) None) (untouched m d g none)
      ∙ sym (row_at-members p (merged m d) g)

  -- merged into the table of the old rows it gives the table of the new rows
  pub made-changes : (m : RowMap) (d : EntryMap) → merged (row_map (keyed key (rows_made p m))) (changes p key_of m d) ≡ row_map (keyed key (rows_made p (merged m d)))
  made-changes m d = same_rows _ _ (λ q.
      get-merged (row_map (keyed key (rows_made p m))) (changes p key_of m d) q
      ∙ ap (λ (o : Option Entry). after o (get (row_map (keyed key (rows_made p m))) q)) (get-changes m d q)
      ∙ ap (after (cond (list_any (eq (by_of q)) (touched p m (entries d))) (cond (eq q (key_of (by_of q))) (Some (entry_of (key_of (by_of q)) (row_at p (merged m d) (by_of q)))) None) None)) (get-made m q)
      ∙ by_test (by_of q) (eq q (key_of (by_of q))) (list_any (eq (by_of q)) (touched p m (entries d))) refl
      ∙ sym (get-made (merged m d) q))
    where
      put : (k : List Value) (o r : Option (List Value)) → after (Some (entry_of k o)) r ≡ o
      put k None r = refl
      put k (Some row) r = refl

      by_test : (g : List Value) (b c : Bool) → list_any (eq g) (touched p m (entries d)) ≡ c
          → after (cond c (cond b (Some (entry_of (key_of g) (row_at p (merged m d) g))) None) None) (cond b (row_at p m g) None) ≡ cond b (row_at p (merged m d) g) None
      by_test g true true is = put (key_of g) (row_at p (merged m d) g) (row_at p m g)
      by_test g true false is = row_at-untouched m d g is
      by_test g false true is = refl
      by_test g false false is = refl
