-- The delta of changed groups has at each key that was written the row of the new table, or a removal.
use Rattle.std.specs.Prelude.{◌≡◌, Bool, true, false, cond, ◌&&◌, ◌⊎◌, List, [], ◌∷◌, ◌++◌, map, is_some, Option, Some, None, refl}
use Rattle.std.proofs.Common.{ap, sym, ◌∙◌, inl, inr}
use Rattle.std.specs.List.{list_any}
use Rattle.std.specs.FinMap.{get, find, entries}
use Rattle.std.specs.FinMap.Entries.{is_some-find}
use Rattle.nova_value.specs.declared.schema.Entry.{Entry}
use Rattle.nova_value.specs.Order.{key_cmp}
use Rattle.nova_value.specs.Orders.{exact_keys, keys_total}
use Rattle.nova_delta.specs.Tabulated.{tabulated}
use Rattle.nova_delta.specs.ActionLaws.{get-tabulated_listed, list_any-append, same_entries}
use Rattle.nova_delta.specs.Merge.{RowMap, EntryMap, DeltaValue, merged}
use Rattle.nova_delta.specs.Seen.{row_map, keyed}
use Rattle.nova_pig_algebra.specs.Meaning.{Row}
use Rattle.nova_pig_algebra.specs.Plan.{Plan}
use Rattle.nova_admit.specs.Shaped.{IsGroupPlan}
use Rattle.nova_groups.specs.State.{row_put}
use Rattle.nova_state.specs.Plan.{rule_of, out_key}
use Rattle.nova_state.specs.Rule.{rows_made, bys, touched, entry_of, row_at, changes}
use Rattle.nova_state.specs.Advance.{stored, written, delta_of}
use Rattle.nova_state.specs.Statements.{GroupsMerge}
use Rattle.nova_state.proofs.ByPlaces.{by_of, by_back, given_key}
use Rattle.nova_state.proofs.Delta.{eq, eq_is, or_cases, any_in, back-bys, find-made, map-made, get-made, get-changes, made-changes}
use Rattle.nova_state.proofs.GroupKeys.{keys_written}
use Rattle.nova_state.proofs.Tables.{rows_are_grouped}

firsts : {Z : Type 0} (key_of : Row → Row) (f : Row → Z) (gs : List Row) → map (λ (e : Row × Z). e.0) (map (λ g. (key_of g, f g)) gs) ≡ map key_of gs
firsts key_of f [] = refl
firsts key_of f (g ∷ gs) = ap (λ (ks : List Row). key_of g ∷ ks) (firsts key_of f gs)

some_made : {Z : Type 0} (b c : Bool) (z : Z) → is_some (cond b (cond c (Some z) None) None) ≡ (b && c)
some_made true true z = refl
some_made true false z = refl
some_made false c z = refl

module _ (p : Plan) (is : IsGroupPlan p) where
  abbrev Groups : RowMap → EntryMap → List Row
  Groups m d = touched (rule_of p) m (entries d)

  touched_back : (m : RowMap) (d : EntryMap) (g : Row) → list_any (eq g) (Groups m d) ≡ true → by_of p (out_key p g) ≡ g
  touched_back m d g any =
      any_in g (λ (e : Row × Entry). bys (rule_of p) (get m e.0) ++ bys (rule_of p) (row_put e.1)) (by_of p (out_key p g) ≡ g)
      (λ e here. both (get m e.0) (row_put e.1) (or_cases _ _ (sym (list_any-append (eq g) (bys (rule_of p) (get m e.0)) (bys (rule_of p) (row_put e.1))) ∙ here))) (entries d) any
    where
      both : (a b : Option Row) → (list_any (eq g) (bys (rule_of p) a) ≡ true) ⊎ (list_any (eq g) (bys (rule_of p) b) ≡ true) → by_of p (out_key p g) ≡ g
      both a b (inl here) = back-bys (rule_of p) p.output.key (out_key p) (by_of p) (by_back p is) (given_key p is) g a here
      both a b (inr here) = back-bys (rule_of p) p.output.key (out_key p) (by_of p) (by_back p is) (given_key p is) g b here

  -- whether a key was written
  any_written : (m : RowMap) (d : EntryMap) (q : Row) → list_any (eq q) (written p m (entries d)) ≡ (list_any (eq (by_of p q)) (Groups m d) && eq q (out_key p (by_of p q)))
  any_written m d q =
      let f : Row → Bool = λ g. true in
      ap (list_any (eq q)) (keys_written p is m (entries d) ∙ sym (firsts (out_key p) f (Groups m d)))
      ∙ sym (is_some-find key_cmp q (map (λ g. (out_key p g, f g)) (Groups m d)))
      ∙ ap is_some (ap (find key_cmp q) (map-made (out_key p) f (Groups m d)) ∙ find-made (out_key p) (by_of p) (λ g. Some (f g)) q (Groups m d) (touched_back m d))
      ∙ some_made (list_any (eq (by_of p q)) (Groups m d)) (eq q (out_key p (by_of p q))) true

  get-stored : (m : RowMap) (q : Row) → get (stored p m).rows q ≡ cond (eq q (out_key p (by_of p q))) (row_at (rule_of p) m (by_of p q)) None
  get-stored m q =
      ap (λ (rs : List Row). get (row_map (keyed p.output.key rs)) q) (rows_are_grouped p is.shape m)
      ∙ get-made (rule_of p) p.output.key (out_key p) (by_of p) (by_back p is) (given_key p is) m q

  pub changes_block : (m : RowMap) (d : EntryMap) → changes (rule_of p) (out_key p) m d ≡ tabulated (written p m (entries d)) (λ q. Some (entry_of q (get (stored p (merged m d)).rows q)))
  changes_block m d = same_entries _ _ (λ q.
      let n = merged m d in
      let by = by_of p q in
      get-changes (rule_of p) p.output.key (out_key p) (by_of p) (by_back p is) (given_key p is) m d q
      ∙ by_test q (list_any (eq by) (Groups m d)) (eq q (out_key p by)) refl
      ∙ sym (get-tabulated_listed exact_keys q (λ k. Some (entry_of k (get (stored p n).rows k))) keys_total (written p m (entries d))
      ∙ (λ i. cond (any_written m d q i) (Some (entry_of q (get-stored n q i))) None)))
    where
      by_test : (q : Row) (b c : Bool) → eq q (out_key p (by_of p q)) ≡ c
          → cond b (cond c (Some (entry_of (out_key p (by_of p q)) (row_at (rule_of p) (merged m d) (by_of p q)))) None) None ≡ cond (b && c) (Some (entry_of q (cond c (row_at (rule_of p) (merged m d) (by_of p q)) None))) None
      by_test q true true e = ap (λ (k : Row). let o : Option Entry = Some (entry_of k (row_at (rule_of p) (merged m d) (by_of p q))) in o) (sym (eq_is _ _ e))
      by_test q true false e = refl
      by_test q false c e = refl

  pub delta_is : (m : RowMap) (d : EntryMap) → record { schema = p.output; entries = changes (rule_of p) (out_key p) m d } ≡ delta_of p m d
  unfolding delta_of
  delta_is m d = let es = changes_block m d in λ i. record { schema = p.output; entries = es i }

  stored_is_made : (m : RowMap) → (stored p m).rows ≡ row_map (keyed p.output.key (rows_made (rule_of p) m))
  stored_is_made m = ap (λ (rs : List Row). row_map (keyed p.output.key rs)) (rows_are_grouped p is.shape m)

pub groups_merge : GroupsMerge
groups_merge p is m d =
    let delta : (delta_of p m d).entries ≡ changes (rule_of p) (out_key p) m d = ap (λ (e : DeltaValue). e.entries) (sym (delta_is p is m d)) in
    let rows : merged (stored p m).rows (delta_of p m d).entries ≡ (stored p (merged m d)).rows =
    (λ i. merged (stored_is_made p is m i) (delta i))
    ∙ made-changes (rule_of p) p.output.key (out_key p) (by_of p) (by_back p is) (given_key p is) m d
    ∙ sym (stored_is_made p is (merged m d)) in
    λ i. record { schema = p.output; rows = rows i }
