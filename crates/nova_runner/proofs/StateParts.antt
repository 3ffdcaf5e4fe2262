-- The state that a grouping task keeps, as states go on.
use Rattle.std.proofs.Common.{◌≡◌, ◌≢◌, ◌⊎◌, inl, inr, ℕ, zero, suc, ◌<◌, ◌≤◌, ◌^◌, ◌==◌, Bool, true, false, cond, List, [], ◌∷◌, ◌++◌, length, flat_map, Option, Some, None, refl, ap, sym, ◌∙◌, subst, arith}
use Rattle.std.specs.Prelude.{slice_index_or, slice_set}
use Rattle.std.specs.FinMap.{FinMap, empty, entries, get, len, retain_keys, get-empty, len-entries, same_map}
use Rattle.std.specs.List.{AllByRecursion}
use Rattle.std.proofs.lemmas.List.{get_or-set_same, length-append, length-map}
use Rattle.std.proofs.lemmas.List.Concat.{flat_map-cons}
use Rattle.std.proofs.Math.ListN.{get_or-map}
use Rattle.nova_outside.specs.Disk.{Files}
use Rattle.nova_value.specs.declared.value.Kind.{Kind}
use Rattle.nova_value.specs.declared.value.Kind.TheVariants as kind
use Rattle.nova_value.specs.declared.value.Value.{Value}
use Rattle.nova_value.specs.declared.value.Value.TheVariants.{Long, Text}
use Rattle.nova_value.specs.Order.{key_cmp}
use Rattle.nova_value.specs.Orders.{exact_keys, keys_total}
use Rattle.nova_value.specs.Rows.{FitKinds, IsShape, Shape, key_at, key_kinds, kinds}
use Rattle.nova_path.proofs.Paths.{same_number}
use Rattle.nova_row_codec.specs.Spelling.{eight, two, value_bytes, values_bytes}
use Rattle.nova_delta.specs.Merge.{IsTable, TableValue}
use Rattle.nova_pig_algebra.specs.Plan.{Plan}
use Rattle.nova_pig_pattern.specs.declared.task.PatternKind.TheVariants.{Stateful}
use Rattle.nova_groups.specs.declared.group.Share.{Share}
use Rattle.nova_groups.specs.Kinds.{Group}
use Rattle.nova_groups.specs.Parts.{part, part_of}
use Rattle.nova_groups.specs.State.{StateValue, and_then}
use Rattle.nova_groups.proofs.Slots.{first_is_whole, get-kept}
use Rattle.nova_groups.proofs.Steps.{get-share_map}
use Rattle.nova_group_codec.specs.Spelling.{group_bytes, list_bytes, share_bytes, state_bytes}
use Rattle.nova_state.specs.Advance.{state_of}
use Rattle.nova_state.specs.Plan.{rule_of}
use Rattle.nova_state.specs.Rule.{share_of}
use Rattle.nova_state.specs.Sorts.{plan_sorts}
use Rattle.nova_state.proofs.AllEntries.{all_entries}
use Rattle.nova_state.proofs.StatesFit.{states_fit, values_fit}
use Rattle.nova_state_part.specs.Files.{HoldsPart}
use Rattle.nova_channel.specs.Reading.{block_file}
use Rattle.nova_rowwise.specs.Runs.{main_channel}
use Rattle.nova_path.specs.Lists.{IsOneOf}
use Rattle.nova_meta.specs.Named.{State as StatePart}
use Rattle.nova_machine.specs.Workflow.{input_in, main_place, output_in, plan_in, schema_in, task_in}
use Rattle.nova_machine.specs.Versions.{Version}
use Rattle.nova_machine.specs.State.{State, Capture, Done, done_at, ended, kept_at, landed, newest, nothing_done, table_at}
use Rattle.nova_machine.specs.Due.{cursor, last_of, seen_at}
use Rattle.nova_machine.specs.Writing.{made_version}
use Rattle.nova_machine.specs.Steps.{add_run, add_version, with_run}
use Rattle.nova_machine.specs.Reachable.{IsReachable}
use Rattle.nova_machine.proofs.Ended.{task_count}
use Rattle.nova_machine.proofs.Growth.{at_set}
use Rattle.nova_machine.proofs.History.{extends_version, rows_stay}
use Rattle.nova_histories.specs.Made.{IsCurrent}
use Rattle.nova_histories.specs.Planned.{IsPlannedFlow}
use Rattle.nova_histories.specs.Statements.{IsThere, IsWhole}
use Rattle.nova_histories.proofs.Captures.{captures_rise, current_risen}
use Rattle.nova_histories.proofs.Follow.{seen_there}
use Rattle.nova_histories.proofs.GroupRuns.{place}
use Rattle.nova_histories.proofs.Planned.{input_there, owned, shaped}
use Rattle.nova_histories.proofs.Standing.{groups_are_kept}
use Rattle.nova_histories.proofs.Writes.{channels_keep}
use Rattle.nova_execution.specs.Groups.{no_state, state_at}
use Rattle.nova_runner.specs.Files.{IsStored, bytes_of, kept_state}

-- the first part is all of it
pub first_part : (s : State) (t : ℕ) → bytes_of s (StatePart t 0) ≡ state_bytes (kept_state s t)
first_part s t = ap state_bytes (first_is_whole (kept_state s t))

-- the last of runs is the one that came last
last_pushed : (runs : List Capture) (run : Capture) → last_of (runs ++ run ∷ []) ≡ run
last_pushed [] run = refl
last_pushed (r ∷ []) run = refl
last_pushed (r ∷ (next ∷ runs)) run = last_pushed (next ∷ runs) run

-- ---- a cursor isn't above the newest version

in_or_past : (n m : ℕ) → (n < m) ⊎ (m ≤ n)
in_or_past n m = grind arith

none_past : (xs : List ℕ) (k : ℕ) → length xs ≤ k → slice_index_or xs k 0 ≡ 0
none_past [] k le = refl
none_past (x ∷ xs) zero le = absurd (omega (arith, le))
none_past (x ∷ xs) (suc k) le = none_past xs k (omega (arith, le))

nothing_past : (ds : List Done) (t : ℕ) → length ds ≤ t → slice_index_or ds t nothing_done ≡ nothing_done
nothing_past [] t le = refl
nothing_past (d ∷ ds) zero le = absurd (omega (arith, le))
nothing_past (d ∷ ds) (suc t) le = nothing_past ds t (omega (arith, le))

module _ (s : State) (t k : ℕ) where
  one_low : (run : Capture) → IsWhole s t run → IsThere s t run → seen_at run k ≤ newest s (input_in s.flow t k).channel
  one_low run whole there = elim (in_or_past k (length (task_in s.flow t).inputs)) as (λ _. seen_at run k ≤ newest s (input_in s.flow t k).channel) [
    | inl lt ↦ there k lt
    | inr le ↦ let none : seen_at run k ≡ 0 = none_past run.versions k (omega (arith, whole, le)) in omega (arith, none)
  ]

  last_low : (runs : List Capture) → AllByRecursion (IsWhole s t) runs → ((run : Capture) → IsOneOf runs run → IsThere s t run) → seen_at (last_of runs) k ≤ newest s (input_in s.flow t k).channel
  last_low [] whole there = omega arith
  last_low (run ∷ []) whole there = one_low run whole.0 (there run (inl refl))
  last_low (run ∷ (next ∷ runs)) whole there = last_low (next ∷ runs) whole.1 (λ r is. there r (inr is))

  pub cursor_low : IsPlannedFlow s.flow → IsReachable s → cursor s t k ≤ newest s (input_in s.flow t k).channel
  cursor_low planned reached = elim (in_or_past t (length s.flow.tasks)) as (λ _. cursor s t k ≤ newest s (input_in s.flow t k).channel) [
    | inl lt ↦ let risen = captures_rise s planned reached t lt in last_low (done_at s t).runs risen.whole risen.there
    | inr le ↦
        let many = task_count s reached in
        let none : cursor s t k ≡ 0 = ap (λ (d : Done). seen_at (last_of d.runs) k) (nothing_past s.tasks t (omega (arith, many, le))) in
        omega (arith, none)
  ]

-- ---- what stays

-- it is the same whatever is in flight
pub kept_ended : (s : State) (t : ℕ) → kept_state (ended s) t ≡ kept_state s t
kept_ended s t =
    ap (λ (d : Done). state_at s t (seen_at (last_of d.runs) (main_place (task_in s.flow t).inputs))) (get_or-map landed s.tasks t nothing_done)

pub part_ended : (s : State) (t number : ℕ) → bytes_of (ended s) (StatePart t number) ≡ bytes_of s (StatePart t number)
part_ended s t number = ap (λ (st : StateValue). state_bytes (part_of part number st)) (kept_ended s t)

module _ (s : State) (planned : IsPlannedFlow s.flow) (reached : IsReachable s) (t : ℕ) where
  -- what a version below the newest gives stays
  state_stays : (c : ℕ) (v : Version) (n : ℕ) → n ≤ newest s (main_channel s t) → state_at (add_version s c v) t n ≡ state_at s t n
  state_stays c v n low =
      let main = main_channel s t in
      ap (state_of (plan_in s.flow t).plan) (rows_stay (kept_at s main).versions (kept_at (add_version s c v) main).versions n (extends_version s c v main) low)

  -- a version more of a channel is none that it is of
  pub kept_stays : (c : ℕ) (v : Version) → kept_state (add_version s c v) t ≡ kept_state s t
  kept_stays c v = state_stays c v (cursor s t (main_place (task_in s.flow t).inputs)) (cursor_low s t (main_place (task_in s.flow t).inputs) planned reached)

  pub part_stays : (number c : ℕ) (v : Version) → bytes_of (add_version s c v) (StatePart t number) ≡ bytes_of s (StatePart t number)
  part_stays number c v = ap (λ (st : StateValue). state_bytes (part_of part number st)) (kept_stays c v)

  -- a run of another task leaves its cursor where it stands
  pub kept_stays_behind : (u : ℕ) (run : Capture) → t ≢ u → kept_state (add_run s u run) t ≡ kept_state s t
  kept_stays_behind u run apart =
      let c = output_in s.flow u in
      let v = made_version s u run in
      ap (λ (runs : List Capture). state_at (add_version s c v) t (seen_at (last_of runs) (main_place (task_in s.flow t).inputs)))
      (at_set (λ n (d : Done). n ≢ u → d.runs ≡ (done_at s n).runs) s.tasks u (with_run (done_at s u) run) nothing_done (λ n ne. refl) (λ ne. absurd (ne refl)) t apart)
      ∙ kept_stays c v

  -- a run of its own moves it to what the run captured
  pub kept_moves : t < length s.flow.tasks → (run : Capture) → IsCurrent s t run → kept_state (add_run s t run) t ≡ state_at s t (seen_at run (main_place (task_in s.flow t).inputs))
  kept_moves lt run current =
      let k = main_place (task_in s.flow t).inputs in
      let c = output_in s.flow t in
      let v = made_version s t run in
      let many = task_count s reached in
      let risen = current_risen s (owned s.flow planned) reached t lt run current in
      let done : (slice_index_or (slice_set s.tasks t (with_run (done_at s t) run)) t nothing_done) ≡ with_run (done_at s t) run = get_or-set_same s.tasks t (with_run (done_at s t) run) nothing_done (omega (arith, many, lt)) in
      ap (λ (d : Done). state_at (add_version s c v) t (seen_at (last_of d.runs) k)) done
      ∙ ap (λ (r : Capture). state_at (add_version s c v) t (seen_at r k)) (last_pushed (done_at s t).runs run)
      ∙ state_stays c v (seen_at run k) (seen_there s t run risen.0 risen.2 k)

-- ---- parts

-- a test that nothing passes keeps nothing
none_kept : {X : Type 0} (m : FinMap key_cmp X) (test : List Value → Bool) → ((q : List Value) → test q ≡ false) → retain_keys m test ≡ empty
none_kept m test none = same_map keys_total exact_keys _ _ (λ q. get-kept test m q ∙ ap (λ b. cond b (get m q) None) (none q) ∙ sym (get-empty key_cmp q))

empty_kept : {X : Type 0} (test : List Value → Bool) → retain_keys (let m : FinMap key_cmp X = empty in m) test ≡ empty
empty_kept test = same_map keys_total exact_keys _ _ (λ q. get-kept test empty q ∙ ap (λ o. cond (test q) o None) (get-empty key_cmp q) ∙ nothing (test q) ∙ sym (get-empty key_cmp q))
  where
    nothing : {X : Type 0} (b : Bool) → cond b None None ≡ (let o : Option X = None in o)
    nothing true = refl
    nothing false = refl

-- no state has nothing in any part
pub nothing_apart : (number : ℕ) → part_of part number no_state ≡ no_state
nothing_apart number =
    let shares = empty_kept {X = Share} (λ k. part k == number) in
    let groups = empty_kept {X = Group} (λ k. part k == number) in
    λ i. record { shares = shares i; groups = groups i }

not_first : (number : ℕ) → (0 == suc number) ≡ false
not_first number = go (0 == suc number) refl
  where
    go : (b : Bool) → (0 == suc number) ≡ b → (0 == suc number) ≡ false
    go true e = let same = same_number 0 (suc number) e in absurd (omega (arith, same))
    go false e = e

-- behind the first part is nothing
pub nothing_behind : (number : ℕ) (st : StateValue) → part_of part (suc number) st ≡ no_state
nothing_behind number st =
    let shares = none_kept st.shares (λ k. part k == suc number) (λ q. not_first number) in
    let groups = none_kept st.groups (λ k. part k == suc number) (λ q. not_first number) in
    λ i. record { shares = shares i; groups = groups i }

-- ---- the file of the part

one_of_value : (v : Value) → 1 ≤ length (value_bytes v)
unfolding value_bytes
one_of_value (Long n) = omega arith
one_of_value (Text text) = omega (arith, length-append (two (length text)) text)

some_bytes : (ks : List Kind) (vs : List Value) → 1 ≤ length ks → FitKinds ks vs → 1 ≤ length (values_bytes vs)
some_bytes [] vs some fit = absurd (omega (arith, some))
some_bytes (k ∷ ks) [] some fit = absurd fit
some_bytes (k ∷ ks) (v ∷ vs) some fit =
    let n = ap (λ (b : List ℕ). length b) (flat_map-cons value_bytes v vs) ∙ length-append (value_bytes v) (values_bytes vs) in
    omega (arith, n, one_of_value v)

-- a contribution has at least one byte
one_byte : (ks : List Kind) (e : List Value × Share) → 1 ≤ length ks → FitKinds ks e.0 → 1 ≤ length (share_bytes e)
one_byte ks e some fit =
    let two = some_bytes ks e.0 some fit in
    let long = length-append (values_bytes e.0) (values_bytes e.1.by ++ values_bytes e.1.args) in
    omega (arith, two, long)

all_bytes : (ks : List Kind) (es : List (List Value × Share)) → 1 ≤ length ks → AllByRecursion (λ (e : List Value × Share). FitKinds ks e.0) es → length es ≤ length (flat_map share_bytes es)
all_bytes ks [] some fit = omega arith
all_bytes ks (e ∷ es) some fit =
    let long = ap (λ (b : List ℕ). length b) (flat_map-cons share_bytes e es) ∙ length-append (share_bytes e) (flat_map share_bytes es) in
    omega (arith, long, one_byte ks e some fit.0, all_bytes ks es some fit.1)

-- so a state has no more contributions than bytes
pub few_shares : (s : Shape) (t : TableValue) (p : Plan) → IsShape s → t.schema ≡ s → IsTable t → len (state_of p t.rows).shares ≤ length (state_bytes (state_of p t.rows))
few_shares s t p shape schema table =
    let m = (state_of p t.rows).shares in
    let fit = all_entries keys_total (λ (e : List Value × Share). FitKinds (key_kinds s) e.0) m (λ k x has. of_row k (get t.rows k) refl (sym (get-share_map (share_of (rule_of p)) t.rows k) ∙ has)) in
    let keys = length-map s.key (λ q. slice_index_or (kinds s.columns) q kind.Long) in
    let shares = all_bytes (key_kinds s) (entries m) (omega (arith, shape.some_key, keys)) fit in
    let first = length-append (eight (length (entries m))) (flat_map share_bytes (entries m)) in
    let both = length-append (list_bytes share_bytes (entries m)) (list_bytes group_bytes (entries (state_of p t.rows).groups)) in
    let count = len-entries m in
    omega (arith, shares, first, both, count)
  where
    of_row : (k : List Value) {x : Share} → (o : Option (List Value)) → get t.rows k ≡ o → and_then o (share_of (rule_of p)) ≡ Some x → FitKinds (key_kinds s) k
    of_row k None is e = absurd cc
    of_row k (Some row) is e =
        let each = table.each k row is in
        let own = subst (λ (z : Shape). FitKinds (kinds z.columns) row) schema each.0 in
        subst (FitKinds (key_kinds s)) (ap (λ (z : Shape). key_at z.key row) (sym schema) ∙ each.1) (values_fit (kinds s.columns) row s.key own)

module _ (s : State) (planned : IsPlannedFlow s.flow) (reached : IsReachable s) (t : ℕ) (lt : t < length s.flow.tasks) (grouping : (plan_in s.flow t).pattern ≡ Stateful) where
  abbrev p : Plan
  p = (plan_in s.flow t).plan

  shape : IsShape (schema_in s.flow (main_channel s t))
  shape =
      let k = main_place (task_in s.flow t).inputs in
      shaped s.flow planned (main_channel s t) (input_there s.flow planned t k lt (place s planned reached (channels_keep s planned reached) t lt grouping))

  -- a file of so many bytes that has those of the state spells it
  pub part_spelled : (files : Files) (block size : ℕ) → size < 2 ^ 64 → IsStored files (ended s) (record { content = StatePart t 0; block = block; size = size }) → HoldsPart (plan_sorts p) size (files (block_file block)) (kept_state s t)
  part_spelled files block size wide is =
      let n = cursor s t (main_place (task_in s.flow t).inputs) in
      let keeps = groups_are_kept s planned reached t lt grouping in
      let input = keeps.inputs n in
      let bytes : bytes_of (ended s) (StatePart t 0) ≡ state_bytes (kept_state s t) = part_ended s t 0 ∙ first_part s t in
      let long = is.long ∙ ap length bytes in
      let few = few_shares (table_at s (main_channel s t) n).schema (table_at s (main_channel s t) n) p shape refl input.table in
      (state_bytes (kept_state s t), is.file ∙ ap (λ (b : List ℕ). Some b) bytes, sym long, states_fit p (planned.tasks t lt).plan keeps.plan (table_at s (main_channel s t) n) input (omega (arith, wide, long, few)))
