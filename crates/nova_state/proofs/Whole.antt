-- What the code does, entry after entry, is the rule over whole tables.
use Rattle.std.proofs.Common.{◌≡◌, ◌+◌, ◌<◌, ◌^◌, false, cond, List, [], ◌∷◌, ◌++◌, map, flat_map, Option, Some, None, refl, ap, sym, ◌∙◌}
use Rattle.std.specs.declared.cmp.Ordering.{Ordering}
use Rattle.std.specs.declared.cmp.Ordering.TheVariants.{Less, Equal, Greater}
use Rattle.std.specs.Ordering.{eq_by_cmp, is_eq, ordering_reverse}
use Rattle.std.specs.List.{AllByRecursion}
use Rattle.std.specs.List.Sorted.{IsStrictlySortedBy}
use Rattle.std.specs.Map.{keys_of}
use Rattle.std.specs.Prelude.{Bool, true, if◌then◌else◌}
use Rattle.std.specs.FinMap.{get, insert, entries, entries_sorted, len}
use Rattle.nova_value.specs.Rows.{Shape}
use Rattle.nova_value.specs.Entries.{entry_key}
use Rattle.nova_delta.specs.Merge.{DeltaValue}
use Rattle.nova_delta.specs.Seen.{with_entry}
use Rattle.nova_pig_algebra.specs.Meaning.{Row}
use Rattle.nova_groups.specs.State.{GroupMap}
use Rattle.nova_state.specs.Advance.{fits_entry, answered, answer_entry, answer_all, answer_of}
use Rattle.nova_value.specs.declared.value.Value.{Value}
use Rattle.nova_value.specs.declared.schema.Entry.{Entry}
use Rattle.nova_value.specs.Order.{key_cmp}
use Rattle.nova_value.specs.Orders.{keys_total}
use Rattle.nova_value.specs.Rows.{key_at}
use Rattle.nova_delta.specs.Merge.{RowMap, EntryMap, merged}
use Rattle.nova_groups.specs.declared.group.Share.{Share}
use Rattle.nova_pig_tree.specs.declared.expression.CallKind.{CallKind}
use Rattle.nova_groups.specs.State.{ShareMap, StateValue, and_then, share_map, state_of, put_share, moved, moved_all, row_put, by_list, touches}
use Rattle.nova_state.specs.Rule.{GroupRule, bys, touched, answers, share_of, passed, kepts}
use Rattle.nova_groups.proofs.Steps.{get-share_map, get-put_share}
use Rattle.nova_groups.proofs.Deltas.{strict, states_follow_deltas}

append_assoc : {X : Type 0} (xs ys zs : List X) → (xs ++ ys) ++ zs ≡ xs ++ (ys ++ zs)
append_assoc [] ys zs = refl
append_assoc {X = X} (x ∷ xs) ys zs = ap (λ (us : List X). x ∷ us) (append_assoc xs ys zs)

reverse_less : (o p : Ordering) → p ≡ ordering_reverse o → o ≡ Less → is_eq p ≡ false
reverse_less Less Greater e h = refl
reverse_less Less Less e h = cc
reverse_less Less Equal e h = cc
reverse_less Equal p e h = cc
reverse_less Greater p e h = cc

module _ (share : List Value → Option Share) (ks : List CallKind) where
  abbrev seen_at : ShareMap → List Value × Entry → List (List Value)
  seen_at shares e = by_list (get shares e.0) ++ by_list (and_then (row_put e.1) share)

  -- one key's share is nothing to keys above it
  unmoved : (shares : ShareMap) (k : List Value) (o : Option Share) (es : List (List Value × Entry)) → AllByRecursion (λ y. key_cmp k y ≡ Less) (keys_of es) → flat_map (seen_at (put_share shares k o)) es ≡ flat_map (seen_at shares) es
  unmoved shares k o [] h = refl
  unmoved shares k o (e ∷ es) h =
      let apart : eq_by_cmp key_cmp e.0 k ≡ false = reverse_less (key_cmp k e.0) (key_cmp e.0 k) (keys_total.antisymm e.0 k) h.0 in
      let same : get (put_share shares k o) e.0 ≡ get shares e.0 = get-put_share shares k o e.0 ∙ ap (λ b. cond b o (get shares e.0)) apart in
      let rest = unmoved shares k o es h.1 in
      λ i. (by_list (same i) ++ by_list (and_then (row_put e.1) share)) ++ rest i

  pub touches-flat : (st : StateValue) (es : List (List Value × Entry)) → IsStrictlySortedBy key_cmp (keys_of es) → touches share ks st es ≡ flat_map (seen_at st.shares) es
  unfolding IsStrictlySortedBy
  touches-flat st [] h = refl
  touches-flat st (e ∷ es) h =
      let new = and_then (row_put e.1) share in
      ap (λ (bs : List (List Value)). by_list (get st.shares e.0) ++ (by_list new ++ bs)) (touches-flat (moved ks st e.0 new) es h.1 ∙ unmoved st.shares e.0 new es h.0)
      ∙ sym (append_assoc (by_list (get st.shares e.0)) (by_list new) (flat_map (seen_at st.shares) es))

bys-list : (p : GroupRule) (o : Option (List Value)) → by_list (and_then o (share_of p)) ≡ bys p o
bys-list p None = refl
bys-list p (Some row) = by_chain (p.chain row)
  where
    by_chain : (o : Option (List Value)) → by_list (passed p o) ≡ elim o as (λ _. List (List Value)) [ None ↦ [] | Some row ↦ key_at p.columns row ∷ [] ]
    by_chain None = refl
    by_chain (Some r) = refl

touched-seen : (p : GroupRule) (m : RowMap) (es : List (List Value × Entry)) → flat_map (seen_at (share_of p) (kepts p) (share_map (share_of p) m)) es ≡ touched p m es
touched-seen p m [] = refl
touched-seen p m (e ∷ es) =
    let old = ap by_list (get-share_map (share_of p) m e.0) ∙ bys-list p (get m e.0) in
    let new = bys-list p (row_put e.1) in
    let rest = touched-seen p m es in
    λ i. (old i ++ new i) ++ rest i

pub map-same : {A B : Type 0} (f g : A → B) → ((x : A) → f x ≡ g x) → (xs : List A) → map f xs ≡ map g xs
map-same f g h [] = refl
map-same f g h (x ∷ xs) = λ i. h x i ∷ map-same f g h xs i

-- the state of the changed table
pub state_changes : (p : GroupRule) (m : RowMap) (d : EntryMap) → len (share_map (share_of p) m) + len d < 2 ^ 64
    → moved_all (share_of p) (kepts p) (state_of (share_of p) (kepts p) m) (entries d) ≡ state_of (share_of p) (kepts p) (merged m d)
state_changes p m d h = states_follow_deltas (share_of p) (kepts p) m d h

-- the groups that it touches
pub touched_changes : (p : GroupRule) (m : RowMap) (d : EntryMap) → touches (share_of p) (kepts p) (state_of (share_of p) (kepts p) m) (entries d) ≡ touched p m (entries d)
touched_changes p m d = touches-flat (share_of p) (kepts p) (state_of (share_of p) (kepts p) m) (entries d) (strict (entries d) (entries_sorted d)) ∙ touched-seen p m (entries d)

-- ---- the answer
-- each of these entries fits, at the key of its group
abbrev pub AllAnswered : Shape → GroupRule → (Row → Row) → GroupMap → List Row → Type 0
AllAnswered s p key_of gs bys = AllByRecursion (λ by. (fits_entry s (answer_entry p key_of gs by) ≡ true) × (entry_key s (answer_entry p key_of gs by) ≡ key_of by)) bys

pub answer_is : (s : Shape) (p : GroupRule) (key_of : Row → Row) (gs : GroupMap) (bys : List Row) → AllAnswered s p key_of gs bys
    → answer_of s p key_of gs bys ≡ record { schema = s; entries = answers p key_of gs bys }
answer_is s p key_of gs [] all = refl
answer_is s p key_of gs (by ∷ bys) all =
    let e = answer_entry p key_of gs by in
    ap (λ (d : DeltaValue). answered d e) (answer_is s p key_of gs bys all.1)
    ∙ ap (λ b. if b then with_entry (record { schema = s; entries = answers p key_of gs bys }) e else record { schema = s; entries = answers p key_of gs bys }) all.0.0
    ∙ (λ i. record { schema = s; entries = insert (answers p key_of gs bys) (all.0.1 i) e })

pub answer_all-push : (s : Shape) (p : GroupRule) (key_of : Row → Row) (gs : GroupMap) (d : DeltaValue) (bys : List Row) (by : Row)
    → answer_all s p key_of gs d (bys ++ by ∷ []) ≡ answer_all s p key_of gs (answered d (answer_entry p key_of gs by)) bys
answer_all-push s p key_of gs d [] by = refl
answer_all-push s p key_of gs d (b ∷ bys) by = ap (λ (e : DeltaValue). answered e (answer_entry p key_of gs b)) (answer_all-push s p key_of gs d bys by)

-- the schema stays
answered_schema : (d : DeltaValue) (e : Entry) → (answered d e).schema ≡ d.schema
answered_schema d e = go (fits_entry d.schema e)
  where
    go : (b : Bool) → (if b then with_entry d e else d).schema ≡ d.schema
    go true = refl
    go false = refl

pub answer_schema : (s : Shape) (p : GroupRule) (key_of : Row → Row) (gs : GroupMap) (bys : List Row) → (answer_of s p key_of gs bys).schema ≡ s
answer_schema s p key_of gs [] = refl
answer_schema s p key_of gs (by ∷ bys) = answered_schema (answer_of s p key_of gs bys) (answer_entry p key_of gs by) ∙ answer_schema s p key_of gs bys
