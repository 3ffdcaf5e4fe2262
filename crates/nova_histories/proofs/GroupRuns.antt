-- Runs of grouping tasks make their delta.
use Rattle.std.proofs.Common.{◌≡◌, inr, ℕ, ◌<◌, Bool, true, false, cond, List, [], ◌∷◌, ◌++◌, flat_map, length, map, Option, Some, None, is_some, refl, ap, sym, ◌∙◌, subst, arith}
use Rattle.std.proofs.lemmas.List.{nil_from_length}
use Rattle.std.specs.List.{filter_map}
use Rattle.std.specs.List.Sorted.{IsStrictlySortedBy}
use Rattle.std.specs.FinMap as fin
use Rattle.std.specs.FinMap.{entries_sorted, get, get-empty, get-entries}
use Rattle.nova_value.specs.declared.value.Value.{Value}
use Rattle.nova_value.specs.declared.schema.Entry.{Entry}
use Rattle.nova_value.specs.declared.schema.Entry.TheVariants.{Removal}
use Rattle.nova_value.specs.Order.{key_cmp}
use Rattle.nova_value.specs.Orders.{exact_keys, keys_total}
use Rattle.nova_value.specs.Rows.{Shape}
use Rattle.nova_delta.specs.ActionLaws.{get-tabulated_listed, same_rows}
use Rattle.nova_delta.specs.Merge.{EntryMap, RowMap, TableValue, merge_of, merged}
use Rattle.nova_delta.specs.Seen.{table_of}
use Rattle.nova_delta.proofs.OrderedMap.{entries-seen}
use Rattle.nova_pig_algebra.specs.Meaning.{Row}
use Rattle.nova_pig_algebra.specs.Plan.{Plan, rows_of}
use Rattle.nova_pig_algebra.specs.Statements.{In}
use Rattle.nova_pig_algebra.specs.Tree.{members, rising}
use Rattle.nova_pig_algebra.proofs.Lists.{in_flattened}
use Rattle.nova_pig_pattern.specs.OutputKeys.{group_keys}
use Rattle.nova_pig_pattern.specs.declared.task.PatternKind.{PatternKind}
use Rattle.nova_pig_pattern.specs.declared.task.PatternKind.TheVariants.{Stateful}
use Rattle.nova_admit.specs.Shaped.{IsGroupPlan}
use Rattle.nova_machine.specs.Workflow.{main_place, output_in, plan_in, schema_in, task_in}
use Rattle.nova_machine.specs.Versions.{Version, block, has, rows_in, written}
use Rattle.nova_machine.specs.Versions as machine
use Rattle.nova_machine.specs.State.{Capture, State, done_at, kept_at}
use Rattle.nova_machine.specs.Due.{cursor, last_of, seen_at}
use Rattle.nova_machine.specs.Keeping.{KeepsAll}
use Rattle.nova_machine.specs.Reachable.{IsReachable}
use Rattle.nova_machine.specs.Results.{captured_rows, result_of, result_rows}
use Rattle.nova_machine.specs.Writing.{groups_at, made_version, written_keys}
use Rattle.nova_machine.specs.Writing as writing
use Rattle.nova_machine.proofs.Blocks.{get-block, merge_block}
use Rattle.nova_machine.proofs.Kept.{last_push}
use Rattle.nova_groups.specs.State.{row_put}
use Rattle.nova_state.specs.Advance.{delta_of, row_list, stored}
use Rattle.nova_state.specs.Advance as state
use Rattle.nova_state.specs.Plan.{rule_of}
use Rattle.nova_state.specs.Rule.{rows_made, entry_of, grouped, row_of}
use Rattle.nova_state.proofs.Blocks.{groups_merge}
use Rattle.nova_state.proofs.Tables.{rows_are_grouped}
use Rattle.nova_rowwise.specs.Runs.{IsNextRun, main_channel}
use Rattle.nova_rowwise.proofs.Found.{find_in, get-table_of, in_found}
use Rattle.nova_rowwise.proofs.Members.{in_flat}
use Rattle.nova_rowwise.proofs.LookupRuns.{last_up_to}
use Rattle.nova_histories.specs.Made.{IsCurrent, group_delta}
use Rattle.nova_histories.specs.Planned.{IsPlannedFlow}
use Rattle.nova_histories.specs.Statements.{IsMadeBy, IsWhole, no_table}
use Rattle.nova_histories.proofs.Fitting.{any_in, in_any}
use Rattle.nova_histories.proofs.Follow.{main_keeps, runs_follow}
use Rattle.nova_histories.proofs.Leading.{made_rows}
use Rattle.nova_histories.proofs.OneInput.{captured_one, front_whole}
use Rattle.nova_histories.proofs.Planned.{group_task}

-- ---- the keys of a delta of groups are those that a run writes

same_list : (o : Option Row) → writing.row_list o ≡ row_list o
same_list None = refl
same_list (Some row) = refl

put_back : (q : List Value) (o : Option Row) → row_put (machine.entry_of q o) ≡ o
put_back q None = refl
put_back q (Some row) = refl

module _ (p : Plan) (vs : List Version) (i j : ℕ) (q : List Value) where
  abbrev d : EntryMap
  d = block vs i j

  -- what a key wrote
  abbrev of_key : List Value → List (List Value)
  of_key key = groups_at p (rows_in vs i) key ++ groups_at p (rows_in vs j) key

  -- what an entry writes
  abbrev of_entry : Row × Entry → List (List Value)
  of_entry e = group_keys p (row_list (get (rows_in vs i) e.0)) ++ group_keys p (row_list (row_put e.1))

  abbrev entry : List Value → Entry
  entry key = machine.entry_of key (get (rows_in vs j) key)

  same_keys : (key : List Value) → of_key key ≡ of_entry (key, entry key)
  same_keys key =
      let old = same_list (get (rows_in vs i) key) in
      let new = same_list (get (rows_in vs j) key) ∙ ap row_list (sym (put_back key (get (rows_in vs j) key))) in
      λ z. group_keys p (old z) ++ group_keys p (new z)

  there : In q (flat_map of_key (written vs i j)) → In q (flat_map of_entry (fin.entries d))
  there at =
      let r = in_flattened of_key q (written vs i j) at in
      let got : get d r.0 ≡ Some (entry r.0) = get-block vs i j r.0 ∙ ap (λ b. cond b (Some (entry r.0)) None) (in_any r.0 (written vs i j) r.1) in
      let e = in_found (fin.entries d) r.0 (entry r.0) (sym (get-entries d r.0) ∙ got) in
      let is : e.0 ≡ (r.0, entry r.0) = λ z. (e.3 z, e.2 z) in
      in_flat of_entry e.0 q (fin.entries d) e.1 (subst (λ x. In q (of_entry x)) (sym is) (subst (In q) (same_keys r.0) r.2))

  back : In q (flat_map of_entry (fin.entries d)) → In q (flat_map of_key (written vs i j))
  back at =
      let r = in_flattened of_entry q (fin.entries d) at in
      let got : get d (r.0).0 ≡ Some (r.0).1 = get-entries d (r.0).0 ∙ find_in (fin.entries d) r.0 (entries_sorted d) r.1 in
      let w = by (r.0).0 (r.0).1 (has (written vs i j) (r.0).0) refl (sym (get-block vs i j (r.0).0) ∙ got) in
      let is : r.0 ≡ ((r.0).0, entry (r.0).0) = λ z. ((r.0).0, w.1 z) in
      in_flat of_key (r.0).0 q (written vs i j) (any_in (r.0).0 (written vs i j) w.0) (subst (In q) (sym (same_keys (r.0).0)) (subst (λ x. In q (of_entry x)) is r.2))
    where
      by : (key : List Value) (e : Entry) (b : Bool) → has (written vs i j) key ≡ b → cond b (Some (entry key)) None ≡ Some e → (has (written vs i j) key ≡ true) × (e ≡ entry key)
      by key e true h f = let same : entry key ≡ e = cc in (h, sym same)
      by key e false h f = absurd cc

  same_has : has (flat_map of_key (written vs i j)) q ≡ has (state.written p (rows_in vs i) (fin.entries d)) q
  same_has = go (has (flat_map of_key (written vs i j)) q) (has (flat_map of_entry (fin.entries d)) q) refl refl
    where
      go : (a b : Bool) → has (flat_map of_key (written vs i j)) q ≡ a → has (flat_map of_entry (fin.entries d)) q ≡ b → has (flat_map of_key (written vs i j)) q ≡ has (flat_map of_entry (fin.entries d)) q
      go true true f g = f ∙ sym g
      go false false f g = f ∙ sym g
      go true false f g = f ∙ sym (in_any q (flat_map of_entry (fin.entries d)) (there (any_in q (flat_map of_key (written vs i j)) f)))
      go false true f g = in_any q (flat_map of_key (written vs i j)) (back (any_in q (flat_map of_entry (fin.entries d)) g)) ∙ sym g

-- what a delta of groups has at a key
get-group : (p : Plan) (m : RowMap) (d : EntryMap) (q : List Value)
    → get (delta_of p m d).entries q ≡ cond (has (state.written p m (fin.entries d)) q) (Some (entry_of q (get (stored p (merged m d)).rows q))) None
unfolding delta_of
get-group p m d q = get-tabulated_listed exact_keys q (λ k. Some (entry_of k (get (stored p (merged m d)).rows k))) keys_total (state.written p m (fin.entries d))

is_there : (b : Bool) (e : Entry) → b ≡ is_some (cond b (Some e) None)
is_there true e = refl
is_there false e = refl

group_removes : (b : Bool) (q k : List Value) (o : Option Row) → cond b (Some (entry_of q o)) None ≡ Some (Removal k) → k ≡ q
group_removes false q k o e = absurd cc
group_removes true q k None e = let same : Removal q ≡ Removal k = cc in let is : q ≡ k = cc in sym is
group_removes true q k (Some row) e = absurd cc

-- ---- no rows, no groups

rising_none : rising [] ≡ []
unfolding IsStrictlySortedBy
rising_none = ap (map (λ (e : Row × Row). e.0)) (entries-seen keys_total exact_keys [] tt)

pub stored_none : (p : Plan) → IsGroupPlan p → stored p fin.empty ≡ no_table p.output
stored_none p is =
    let none : fin.values (fin.empty {X = Row} {R = key_cmp}) ≡ [] = ap (map (λ (e : Row × Row). e.1)) (nil_from_length (fin.entries (fin.empty {X = Row} {R = key_cmp})) (sym (fin.len-entries (fin.empty {X = Row} {R = key_cmp})) ∙ fin.len-empty key_cmp Row)) in
    let no_rows : rows_of p (fin.values (fin.empty {X = Row} {R = key_cmp}) ∷ []) ≡ [] = rows_are_grouped p is.shape fin.empty ∙ grouped_none none in
    ap (table_of p.output) no_rows
    ∙ ap (λ (m : RowMap). record { schema = p.output; rows = m }) (same_rows _ _ (λ q. get-table_of p.output [] q ∙ sym (get-empty key_cmp q)))
  where
    grouped_none : fin.values (fin.empty {X = Row} {R = key_cmp}) ≡ [] → rows_made (rule_of p) fin.empty ≡ []
    grouped_none none =
        ap (λ (rs : List Row). grouped (rule_of p) (filter_map (rule_of p).chain rs)) none
        ∙ ap (λ (bys : List Row). filter_map (λ by. row_of (rule_of p) by (members (rule_of p).columns [] by)) bys) rising_none

module _ (s : State) (planned : IsPlannedFlow s.flow) (at : IsReachable s) (keeps : KeepsAll s) (t : ℕ) (lt : t < length s.flow.tasks) (groups : (plan_in s.flow t).pattern ≡ Stateful) where
  abbrev p : Plan
  p = (plan_in s.flow t).plan

  abbrev k : ℕ
  k = main_place (task_in s.flow t).inputs

  abbrev vs : List Version
  vs = (kept_at s (main_channel s t)).versions

  abbrev out : Shape
  out = schema_in s.flow (output_in s.flow t)

  pub is_group : IsGroupPlan p
  is_group = (group_task s.flow planned t lt groups).0

  pub one : length (task_in s.flow t).inputs ≡ 1
  one = (group_task s.flow planned t lt groups).1

  first : k ≡ 0
  first = (group_task s.flow planned t lt groups).2

  pub place : k < length (task_in s.flow t).inputs
  place = let e = one in let z = first in omega (arith, e, z)

  -- a run's result is what the plan stores of the table that it captured
  pub result_is : (before : List Capture) (run : Capture) → IsWhole s t run → stored p (rows_in vs (seen_at run k)) ≡ result_of s t before run
  result_is before run whole =
      ap (λ ts. table_of p.output (rows_of p ts)) (sym (captured_one s t run one first whole))
      ∙ ap (λ o. table_of o (rows_of p (captured_rows s t run))) (planned.tasks t lt).schemas.output
      ∙ ap (λ (kind : PatternKind). table_of out (result_rows kind s t before run)) (sym groups)

  pub nothing_is : stored p (rows_in vs 0) ≡ no_table out
  nothing_is = stored_none p is_group ∙ ap no_table (planned.tasks t lt).schemas.output

  merges : (before : List Capture) (run : Capture) → IsNextRun s t before run → merge_of (stored p (rows_in vs (seen_at (last_of before) k))) (group_delta s t before run) ≡ result_of s t before run
  merges before run next =
      let i = seen_at (last_of before) k in
      let j = seen_at run k in
      groups_merge p is_group (rows_in vs i) (block vs i j)
      ∙ ap (stored p) (merge_block vs i j (inr (main_keeps s planned keeps t place)) (last_up_to k before run next.rise) next.there)
      ∙ result_is before run (front_whole s t before run next.whole).1

  first_merges : (run : Capture) → IsNextRun s t [] run → merge_of (no_table out) (group_delta s t [] run) ≡ result_of s t [] run
  first_merges run next = ap (λ (m : TableValue). merge_of m (group_delta s t [] run)) (sym nothing_is) ∙ merges [] run next

  next_merges : (before : List Capture) (last run : Capture) → IsNextRun s t (before ++ last ∷ []) run
      → merge_of (result_of s t before last) (group_delta s t (before ++ last ∷ []) run) ≡ result_of s t (before ++ last ∷ []) run
  next_merges before last run next =
      let whole = (front_whole s t before last (front_whole s t (before ++ last ∷ []) run next.whole).0).1 in
      let old : stored p (rows_in vs (seen_at (last_of (before ++ last ∷ [])) k)) ≡ result_of s t before last =
      ap (λ (r : Capture). stored p (rows_in vs (seen_at r k))) (last_push before last) ∙ result_is before last whole in
      ap (λ (m : TableValue). merge_of m (group_delta s t (before ++ last ∷ []) run)) (sym old) ∙ merges (before ++ last ∷ []) run next

  wrote_is : (run : Capture) → (made_version s t run).wrote ≡ written_keys Stateful p k vs (cursor s t k) (seen_at run k) (result_of s t (done_at s t).runs run).rows
  unfolding made_version
  wrote_is run = ap (λ (kind : PatternKind). written_keys kind p k vs (cursor s t k) (seen_at run k) (result_of s t (done_at s t).runs run).rows) groups

  pub groups_made : (run : Capture) → IsCurrent s t run → IsMadeBy s t run (group_delta s t (done_at s t).runs run).entries
  groups_made run current =
      let next = runs_follow s planned at t lt run current in
      let i = cursor s t k in
      let j = seen_at run k in
      record {
        rows = made_rows s t (λ before. group_delta s t before run) run
            (λ e. first_merges run (subst (λ rs. IsNextRun s t rs run) e next))
            (λ before last e. next_merges before last run (subst (λ rs. IsNextRun s t rs run) e next))
            planned at lt;
        keys = λ q.
            ap (λ ks. has ks q) (wrote_is run) ∙ same_has p vs i j q
            ∙ is_there (has (state.written p (rows_in vs i) (fin.entries (block vs i j))) q) (entry_of q (get (stored p (merged (rows_in vs i) (block vs i j))).rows q))
            ∙ sym (ap is_some (get-group p (rows_in vs i) (block vs i j) q));
        removes = λ q k' has_it. group_removes (has (state.written p (rows_in vs i) (fin.entries (block vs i j))) q) q k' (get (stored p (merged (rows_in vs i) (block vs i j))).rows q)
            (sym (get-group p (rows_in vs i) (block vs i j) q) ∙ has_it);
      }
