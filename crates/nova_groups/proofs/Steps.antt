-- The state of a table, when one entry is merged into it, and when all of a delta are.
use Rattle.std.proofs.Common.{◌≡◌, suc, ◌+◌, ◌<◌, ◌≤◌, ◌^◌, length, arith, Bool, true, false, cond, List, [], ◌∷◌, ◌++◌, Option, Some, None, refl, ap, sym, ◌∙◌}
use Rattle.std.specs.Prelude.{is_some}
use Rattle.std.specs.Ordering.{eq_by_cmp}
use Rattle.std.specs.List.{filter_map, cons_option}
use Rattle.std.specs.List.Sorted.{IsStrictlySortedBy}
use Rattle.std.specs.Map.{keys_of}
use Rattle.std.specs.FinMap.{get, keys, values, insert, remove, get-insert, get-remove, same_map, contains_key-keys}
use Rattle.std.proofs.lemmas.List.Elements.{filter_map-append}
use Rattle.std.proofs.lemmas.List.{length-append}
use Rattle.nova_value.specs.declared.value.Value.{Value}
use Rattle.nova_value.specs.declared.schema.Entry.{Entry}
use Rattle.nova_value.specs.declared.schema.Entry.TheVariants.{Put, Removal}
use Rattle.nova_value.specs.Order.{key_cmp}
use Rattle.nova_value.specs.Orders.{exact_keys, keys_total}
use Rattle.nova_delta.specs.ActionLaws.{get-tabulated}
use Rattle.nova_delta.specs.Merge.{RowMap, merged}
use Rattle.nova_delta.specs.Seen.{step, entry_map}
use Rattle.nova_delta.proofs.InTurn.{applied, applied-merged}
use Rattle.nova_delta.specs.Around.{one}
use Rattle.nova_delta.proofs.Around.{around}
use Rattle.nova_pig_tree.specs.declared.expression.CallKind.{CallKind}
use Rattle.nova_groups.specs.declared.group.Share.{Share}
use Rattle.nova_groups.specs.State.{ShareMap, GroupMap, StateValue, and_then, groups, shares_of, share_map, state_of, join, leave, put_share, moved, moved_all, row_put}
use Rattle.nova_groups.proofs.Groups.{groups-join, groups-leave}

none_of : {X : Type 0} (o : Option X) → is_some o ≡ false → o ≡ None
none_of None e = refl
none_of (Some x) e = cc

pub get-share_map : (share : List Value → Option Share) (rows : RowMap) (k : List Value) → get (share_map share rows) k ≡ and_then (get rows k) share
unfolding share_map
get-share_map share rows k =
    get-tabulated exact_keys k (λ q. and_then (get rows q) share) keys_total (keys rows)
    (λ none. ap (λ (o : Option (List Value)). and_then o share) (none_of _ (contains_key-keys rows k ∙ none)))

pub get-put_share : (m : ShareMap) (k : List Value) (o : Option Share) (q : List Value) → get (put_share m k o) q ≡ cond (eq_by_cmp key_cmp q k) o (get m q)
get-put_share m k None q = get-remove keys_total m k q
get-put_share m k (Some s) q = get-insert keys_total m k s q

get-step : (m : RowMap) (k : List Value) (e : Entry) (q : List Value) → get (step m k e) q ≡ cond (eq_by_cmp key_cmp q k) (row_put e) (get m q)
get-step m k (Put row) q = get-insert keys_total m k row q
get-step m k (Removal key) q = get-remove keys_total m k q

module _ (share : List Value → Option Share) (ks : List CallKind) where
  and_then_cond : (b : Bool) (x y : Option (List Value)) → and_then (cond b x y) share ≡ cond b (and_then x share) (and_then y share)
  and_then_cond true x y = refl
  and_then_cond false x y = refl

  share_map-step : (rows : RowMap) (k : List Value) (e : Entry) → share_map share (step rows k e) ≡ put_share (share_map share rows) k (and_then (row_put e) share)
  share_map-step rows k e = same_map keys_total exact_keys _ _ (λ q.
      get-share_map share (step rows k e) q
      ∙ ap (λ (o : Option (List Value)). and_then o share) (get-step rows k e q)
      ∙ and_then_cond (eq_by_cmp key_cmp q k) (row_put e) (get rows q)
      ∙ ap (cond (eq_by_cmp key_cmp q k) (and_then (row_put e) share)) (sym (get-share_map share rows q))
      ∙ sym (get-put_share (share_map share rows) k (and_then (row_put e) share) q))

  pub filter_map-one : (front back : List (List Value)) (o : Option (List Value)) → filter_map share (front ++ (one o ++ back)) ≡ filter_map share front ++ (one (and_then o share) ++ filter_map share back)
  filter_map-one front back None = filter_map-append share front back
  filter_map-one front back (Some row) =
      filter_map-append share front (row ∷ back) ∙ ap (λ (ss : List Share). filter_map share front ++ ss) (shared (share row))
    where
      shared : (o : Option Share) → cons_option o (filter_map share back) ≡ one o ++ filter_map share back
      shared None = refl
      shared (Some s) = refl

  leave-one : (front back : List Share) (o : Option Share) → leave ks (groups ks (front ++ (one o ++ back))) o ≡ groups ks (front ++ back)
  leave-one front back None = refl
  leave-one front back (Some s) = groups-leave ks s front back

  join-one : (front back : List Share) (o : Option Share) → length (front ++ back) + 1 < 2 ^ 64 → join ks (groups ks (front ++ back)) o ≡ groups ks (front ++ (one o ++ back))
  join-one front back None short = refl
  join-one front back (Some s) short = groups-join ks s front back short

  values-step : (rows : RowMap) (k : List Value) (front back : List (List Value)) → ((row : List Value) → values (insert rows k row) ≡ front ++ row ∷ back) → values (remove rows k) ≡ front ++ back
      → (e : Entry) → values (step rows k e) ≡ front ++ (one (row_put e) ++ back)
  values-step rows k front back puts gone (Put row) = puts row
  values-step rows k front back puts gone (Removal key) = gone

  around_short : {X : Type 0} (front back : List X) (o : Option X) → length (front ++ back) ≤ length (front ++ (one o ++ back))
  around_short front back None = omega arith
  around_short front back (Some x) = omega (arith, length-append front back, length-append front (x ∷ back))

  step_short : {X : Type 0} (front back : List X) (o n : Option X) → length (front ++ (one n ++ back)) ≤ length (front ++ (one o ++ back)) + 1
  step_short front back o None = omega (arith, around_short front back o)
  step_short front back o (Some x) = omega (arith, around_short front back o, length-append front back, length-append front (x ∷ back))

  -- what the rows give around a key, before an entry and behind it
  shares_were : (rows : RowMap) (k : List Value) → (let a = around key_cmp keys_total exact_keys k rows in
      shares_of share rows ≡ filter_map share a.prefix ++ (one (get (share_map share rows) k) ++ filter_map share a.suffix))
  shares_were rows k =
      let a = around key_cmp keys_total exact_keys k rows in
      ap (filter_map share) a.now ∙ filter_map-one a.prefix a.suffix (get rows k)
      ∙ ap (λ (o : Option Share). filter_map share a.prefix ++ (one o ++ filter_map share a.suffix)) (sym (get-share_map share rows k))

  shares_become : (rows : RowMap) (k : List Value) (e : Entry) → (let a = around key_cmp keys_total exact_keys k rows in
      shares_of share (step rows k e) ≡ filter_map share a.prefix ++ (one (and_then (row_put e) share) ++ filter_map share a.suffix))
  shares_become rows k e =
      let a = around key_cmp keys_total exact_keys k rows in
      ap (filter_map share) (values-step rows k a.prefix a.suffix a.put a.gone e) ∙ filter_map-one a.prefix a.suffix (row_put e)

  shares_short : (rows : RowMap) (k : List Value) (e : Entry) → length (shares_of share (step rows k e)) ≤ length (shares_of share rows) + 1
  shares_short rows k e =
      let a = around key_cmp keys_total exact_keys k rows in
      let before = ap (λ (ss : List Share). length ss) (shares_were rows k) in
      let behind = ap (λ (ss : List Share). length ss) (shares_become rows k e) in
      omega (arith, step_short (filter_map share a.prefix) (filter_map share a.suffix) (get (share_map share rows) k) (and_then (row_put e) share), before, behind)

  groups-step : (rows : RowMap) (k : List Value) (e : Entry) → length (shares_of share rows) + 1 < 2 ^ 64
      → groups ks (shares_of share (step rows k e)) ≡ join ks (leave ks (groups ks (shares_of share rows)) (get (share_map share rows) k)) (and_then (row_put e) share)
  groups-step rows k e short =
      let a = around key_cmp keys_total exact_keys k rows in
      let front = filter_map share a.prefix in
      let back = filter_map share a.suffix in
      let old = get (share_map share rows) k in
      let before = ap (λ (ss : List Share). length ss) (shares_were rows k) in
      ap (groups ks) (shares_become rows k e)
      ∙ sym (join-one front back (and_then (row_put e) share) (omega (arith, short, before, around_short front back old)))
      ∙ ap (λ (gs : GroupMap). join ks gs (and_then (row_put e) share))
      (sym (ap (λ (ss : List Share). leave ks (groups ks ss) old) (shares_were rows k) ∙ leave-one front back old))

  -- one entry
  pub state_step : (rows : RowMap) (k : List Value) (e : Entry) → length (shares_of share rows) + 1 < 2 ^ 64 → state_of share ks (step rows k e) ≡ moved ks (state_of share ks rows) k (and_then (row_put e) share)
  state_step rows k e short =
      let shares = share_map-step rows k e in
      let grouped = groups-step rows k e short in
      λ i. record { shares = shares i; groups = grouped i }

  -- entries in turn
  pub state_applied : (rows : RowMap) (es : List (List Value × Entry)) → length (shares_of share rows) + length es < 2 ^ 64 → state_of share ks (applied rows es) ≡ moved_all share ks (state_of share ks rows) es
  state_applied rows [] short = refl
  state_applied rows (e ∷ es) short =
      state_applied (step rows e.0 e.1) es (omega (arith, short, shares_short rows e.0 e.1))
      ∙ ap (λ (st : StateValue). moved_all share ks st es) (state_step rows e.0 e.1 (omega (arith, short)))

  -- a whole delta
  pub state_merged : (rows : RowMap) (es : List (List Value × Entry)) → IsStrictlySortedBy key_cmp (keys_of es) → length (shares_of share rows) + length es < 2 ^ 64 → moved_all share ks (state_of share ks rows) es ≡ state_of share ks (merged rows (entry_map es))
  state_merged rows es sorted short = sym (state_applied rows es short) ∙ ap (state_of share ks) (applied-merged rows es sorted)
