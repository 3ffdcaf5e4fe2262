-- The state of a table of a plan's input is one of the plan's sorts.
use Rattle.std.specs.Prelude.{◌≡◌, ℕ, zero, suc, pos, ◌≤◌, ◌<◌, ◌+◌, ◌^◌, Bool, true, false, cond, ◌||◌, List, [], ◌∷◌, map, filter, flat_map, length, Option, Some, None, refl}
use Rattle.std.proofs.Common.{ap, sym, ◌∙◌, subst, arith}
use Rattle.std.proofs.lemmas.List.Sums.{length-filter, count_by-le-length}
use Rattle.std.specs.Cmp.{Equal-is}
use Rattle.std.specs.List.{AllByRecursion, filter_map, cons_option}
use Rattle.std.specs.Ordering.{eq_by_cmp}
use Rattle.std.specs.FinMap.{FinMap, get, empty, entries, keys, values, len, get-empty, len-entries, len-empty, same_map}
use Rattle.nova_value.proofs.Wrapped.{wrapped_is}
use Rattle.nova_value.specs.declared.value.Kind.{Kind}
use Rattle.nova_value.specs.declared.value.Kind.TheVariants as kind
use Rattle.nova_value.specs.declared.value.Value.{Value}
use Rattle.nova_value.specs.declared.value.Value.TheVariants.{Long}
use Rattle.nova_value.specs.Order.{value_cmp, key_cmp}
use Rattle.nova_value.specs.Orders.{exact_keys, exact_values, keys_total, values_total}
use Rattle.nova_value.specs.Rows.{Shape, IsOf, FitKinds, kinds, key_kinds, value_at, key_at}
use Rattle.nova_delta.proofs.Listed.{rows_fit}
use Rattle.nova_delta.specs.Merge.{RowMap, TableValue}
use Rattle.nova_pig_tree.specs.declared.expression.CallKind.{CallKind}
use Rattle.nova_pig_tree.specs.declared.expression.CallKind.TheVariants as call
use Rattle.nova_pig_algebra.specs.Meaning.{Row, Call}
use Rattle.nova_pig_algebra.specs.Plan.{Plan, IsPlan, tree_of_plan}
use Rattle.nova_admit.specs.Shaped.{IsGroupPlan}
use Rattle.nova_pig_rows.specs.ChainRows.{chain_row}
use Rattle.nova_groups.specs.declared.group.Share.{Share}
use Rattle.nova_groups.specs.declared.item.Item.{Item}
use Rattle.nova_groups.specs.Kinds.{Group}
use Rattle.nova_groups.specs.State.{ShareMap, StateValue, and_then, counted, groups, head, item, items, long_of, number, of_group, positive, rest, share_map, shares_of, shown, tally, total}
use Rattle.nova_groups.proofs.Counts.{get-counted, number-length}
use Rattle.nova_groups.proofs.Deltas.{shares_counted}
use Rattle.nova_groups.proofs.Groups.{get-groups}
use Rattle.nova_groups.proofs.Steps.{get-share_map}
use Rattle.nova_group_codec.specs.declared.sorts.Kept.{Kept}
use Rattle.nova_group_codec.specs.Sorts.{SortsValue, argument_kinds}
use Rattle.nova_group_codec.specs.Pieces.{kind_at, kind_of, kept_by, kept_of, sorts_of}
use Rattle.nova_group_codec.specs.Spelling.{FitsCount, FitItems, FitsShare, FitsGroup, IsCount, state_bytes}
use Rattle.nova_group_codec.specs.Written.{SpellsState}
use Rattle.nova_state.specs.Plan.{Parts, parts, or_nothing, calls_in, rule_of, rule_by}
use Rattle.nova_state.specs.Rule.{GroupRule, argument, argument_at, arguments, is_kept_kind, kept, kepts, passed, share_from, share_of}
use Rattle.nova_state.specs.Advance.{IsInputTable, state_of}
use Rattle.nova_state.specs.Sorts.{chain_kinds, first_input, plan_sorts, sorts_over}
use Rattle.nova_state.specs.Statements.{NoRowsNoState, StatesFit}
use Rattle.nova_state.proofs.AllEntries.{all_entries, tabulated_short}
use Rattle.nova_state.proofs.KindsOfCalls.{AllSum, all_in}
use Rattle.nova_state.proofs.SourcesFit.{IsSound, sources_fit}

-- ---- values at columns
pub value_fits : (ks : List Kind) (row : Row) (c : ℕ) → FitKinds ks row → IsOf (kind_at ks c) (value_at row c)
value_fits [] [] c fit = omega arith
value_fits [] (v ∷ row) c fit = absurd fit
value_fits (k ∷ ks) [] c fit = absurd fit
value_fits (k ∷ ks) (v ∷ row) zero fit = fit.0
value_fits (k ∷ ks) (v ∷ row) (suc c) fit = value_fits ks row c fit.1

pub values_fit : (ks : List Kind) (row : Row) (cs : List ℕ) → FitKinds ks row → FitKinds (map (kind_at ks) cs) (key_at cs row)
values_fit ks row [] fit = tt
values_fit ks row (c ∷ cs) fit = (value_fits ks row c fit, values_fit ks row cs fit)

argument_fits : (ks : List Kind) (row : Row) (column : Option ℕ) → FitKinds ks row → IsOf (kind_of ks column) (argument_at column row)
argument_fits ks row None fit = omega arith
argument_fits ks row (Some c) fit = value_fits ks row c fit

-- ---- the arguments of the kept calls
module _ (ks : List Kind) where
  abbrev Keeps : List Call → List Kept
  Keeps cs = filter_map (kept_of ks) cs

  pub arguments_fit : (cs : List Call) → AllSum ks cs → (row : Row) → FitKinds ks row → FitKinds (argument_kinds (Keeps cs)) (arguments (kept cs) row)
  arguments_fit [] all row fit = tt
  arguments_fit (c ∷ cs) all row fit = by_kind c.kind refl (arguments_fit cs all.1 row fit)
    where
      by_kind : (k : CallKind) → c.kind ≡ k → FitKinds (argument_kinds (Keeps cs)) (arguments (kept cs) row)
          → FitKinds (argument_kinds (cons_option (kept_by k (kind_of ks c.column)) (Keeps cs))) (arguments (cond (is_kept_kind k) (c ∷ kept cs) (kept cs)) row)
      by_kind call.Count is others = others
      by_kind call.Sum is others = (subst (λ k. IsOf k (argument c row)) (all.0 is) (argument_fits ks row c.column fit), others)
      by_kind call.Min is others = (argument_fits ks row c.column fit, others)
      by_kind call.Max is others = (argument_fits ks row c.column fit, others)

-- ---- what is kept of a group
one_stands : (v : Value) (vs : List Value) (n : ℕ) → positive (number v vs) ≡ Some n → (n ≡ number v vs) × (1 ≤ n)
one_stands v vs n e = go (number v vs) e
  where
    go : (m : ℕ) → positive m ≡ Some n → (n ≡ m) × (1 ≤ n)
    go zero f = absurd cc
    go (suc m) f = let same : suc m ≡ n = cc in (sym same, omega (arith, same))

stands_of : (k : Kind) (v : Value) (vs : List Value) → AllByRecursion (IsOf k) vs → 1 ≤ number v vs → IsOf k v
stands_of k v [] all h = absurd (omega (arith, h))
stands_of k v (w ∷ vs) all h = by_test (eq_by_cmp value_cmp v w) refl h (stands_of k v vs all.1)
  where
    by_test : (b : Bool) → eq_by_cmp value_cmp v w ≡ b → 1 ≤ cond b 1 0 + number v vs → (1 ≤ number v vs → IsOf k v) → IsOf k v
    by_test true ties more later = subst (IsOf k) (sym (exact_values v w ((Equal-is _).0 ties))) all.0
    by_test false apart more later = later (omega (arith, more))

counted_fit : (k : Kind) (vs : List Value) → AllByRecursion (IsOf k) vs → length vs < 2 ^ 64 → AllByRecursion (FitsCount k) (entries (counted vs)) × (length (entries (counted vs)) < 2 ^ 64)
unfolding counted
counted_fit k vs all few = (
  all_entries values_total (FitsCount k) (counted vs) (λ v n has.
      let one = one_stands v vs n (sym (get-counted vs v) ∙ has) in
      let least = number-length v vs in
      (stands_of k v vs all (omega (arith, one.0, one.1)), (one.1, omega (arith, one.0, least, few)))),
  (let short = tabulated_short values_total vs (λ v. positive (number v vs)) in let same = len-entries (counted vs) in omega (arith, short, same, few)),
)

heads_of : (k : Kind) (ks : List Kind) (argss : List (List Value)) → AllByRecursion (FitKinds (k ∷ ks)) argss → AllByRecursion (IsOf k) (map head argss) × AllByRecursion (FitKinds ks) (map rest argss)
heads_of k ks [] all = (tt, tt)
heads_of k ks ([] ∷ argss) all = absurd all.0
heads_of k ks ((v ∷ vs) ∷ argss) all = let others = heads_of k ks argss all.1 in ((all.0.0, others.0), (all.0.1, others.1))

length_map : {A B : Type 0} (f : A → B) (xs : List A) → length (map f xs) ≡ length xs
length_map f [] = refl
length_map f (x ∷ xs) = ap suc (length_map f xs)

module _ (ks : List Kind) where
  pub items_fit : (cs : List Call) (argss : List (List Value)) → length argss < 2 ^ 64 → AllByRecursion (FitKinds (argument_kinds (Keeps ks cs))) argss → FitItems (Keeps ks cs) (items (map (λ c. c.kind) (kept cs)) argss)
  items_fit [] argss few all = tt
  items_fit (c ∷ cs) argss few all = by_kind c.kind all (λ others. items_fit cs (map rest argss) (let same = length_map rest argss in omega (arith, same, few)) others) (items_fit cs argss few)
    where
      by_kind : (k : CallKind) → AllByRecursion (FitKinds (argument_kinds (cons_option (kept_by k (kind_of ks c.column)) (Keeps ks cs)))) argss
          → (AllByRecursion (FitKinds (argument_kinds (Keeps ks cs))) (map rest argss) → FitItems (Keeps ks cs) (items (map (λ d. d.kind) (kept cs)) (map rest argss)))
          → (AllByRecursion (FitKinds (argument_kinds (Keeps ks cs))) argss → FitItems (Keeps ks cs) (items (map (λ d. d.kind) (kept cs)) argss))
          → FitItems (cons_option (kept_by k (kind_of ks c.column)) (Keeps ks cs)) (items (map (λ d. d.kind) (cond (is_kept_kind k) (record { kind = k; column = c.column } ∷ kept cs) (kept cs))) argss)
      by_kind call.Count fit later same = same fit
      by_kind call.Sum fit later same =
          let h = heads_of kind.Long (argument_kinds (Keeps ks cs)) argss fit in
          let is = wrapped_is (total (map head argss)) in
          (is.long, later h.1)
      by_kind call.Min fit later same =
          let h = heads_of (kind_of ks c.column) (argument_kinds (Keeps ks cs)) argss fit in
          (counted_fit (kind_of ks c.column) (map head argss) h.0 (let long = length_map head argss in omega (arith, long, few)), later h.1)
      by_kind call.Max fit later same =
          let h = heads_of (kind_of ks c.column) (argument_kinds (Keeps ks cs)) argss fit in
          (counted_fit (kind_of ks c.column) (map head argss) h.0 (let long = length_map head argss in omega (arith, long, few)), later h.1)

-- ---- the whole state, of a rule over rows of these kinds
module _ (s : Shape) (g : Parts) (p : GroupRule) (chain : p.chain ≡ chain_row g.source) (columns : p.columns ≡ g.columns) (same_calls : p.calls ≡ calls_in g.items) (sound : IsSound (kinds s.columns) g) where
  abbrev Ks : List Kind
  Ks = chain_kinds (kinds s.columns) g.source

  abbrev By : List Kind
  By = map (kind_at Ks) p.columns

  abbrev Args : List Kind
  Args = argument_kinds (Keeps Ks p.calls)

  abbrev IsFit : Share → Type 0
  IsFit x = FitKinds By x.by × FitKinds Args x.args

  all_sum : AllSum Ks p.calls
  all_sum = subst (AllSum Ks) (sym same_calls) (all_in Ks g.items sound.1)

  share_fits : (row : Row) (x : Share) → FitKinds (kinds s.columns) row → share_of p row ≡ Some x → IsFit x
  share_fits row x fit e = by_chain (p.chain row) refl e
    where
      by_chain : (o : Option Row) → p.chain row ≡ o → passed p o ≡ Some x → IsFit x
      by_chain None is f = absurd cc
      by_chain (Some r) is f =
          let made : share_from p r ≡ x = cc in
          let own = sound.0 row r fit (ap (λ (c : Row → Option Row). c row) (sym chain) ∙ is) in
          subst IsFit made (values_fit Ks r p.columns own, arguments_fit Ks p.calls all_sum r own)

  shares_fit : (rows : List Row) → AllByRecursion (FitKinds (kinds s.columns)) rows → AllByRecursion IsFit (filter_map (share_of p) rows)
  shares_fit [] all = tt
  shares_fit (row ∷ rows) all = by_share (share_of p row) refl (shares_fit rows all.1)
    where
      by_share : (o : Option Share) → share_of p row ≡ o → AllByRecursion IsFit (filter_map (share_of p) rows) → AllByRecursion IsFit (cons_option o (filter_map (share_of p) rows))
      by_share None is others = others
      by_share (Some x) is others = (share_fits row x all.0 is, others)

  -- the members of a group
  members_fit : (by : Row) (ss : List Share) → AllByRecursion IsFit ss → AllByRecursion (FitKinds Args) (map (λ x. x.args) (of_group by ss)) × (1 ≤ length (of_group by ss) → FitKinds By by)
  members_fit by [] all = (tt, λ some. absurd (omega (arith, some)))
  members_fit by (x ∷ ss) all = by_test (eq_by_cmp key_cmp by x.by) refl (members_fit by ss all.1)
    where
      by_test : (b : Bool) → eq_by_cmp key_cmp by x.by ≡ b → AllByRecursion (FitKinds Args) (map (λ y. y.args) (of_group by ss)) × (1 ≤ length (of_group by ss) → FitKinds By by)
          → AllByRecursion (FitKinds Args) (map (λ y. y.args) (cond b (x ∷ of_group by ss) (of_group by ss))) × (1 ≤ length (cond b (x ∷ of_group by ss) (of_group by ss)) → FitKinds By by)
      by_test true ties others = ((all.0.1, others.0), λ some. subst (FitKinds By) (sym (exact_keys by x.by ((Equal-is _).0 ties))) all.0.0)
      by_test false apart others = others

  fewer : (by : Row) (ss : List Share) → length (of_group by ss) ≤ length ss
  fewer by ss = let a = length-filter (λ (x : Share). eq_by_cmp key_cmp by x.by) ss in let b = count_by-le-length (λ (x : Share). eq_by_cmp key_cmp by x.by) ss in omega (arith, a, b)

  abbrev Sorted : SortsValue
  Sorted = sorts_of (key_kinds s) Ks p.columns p.calls

  group_fits : (ss : List Share) → AllByRecursion IsFit ss → length ss < 2 ^ 64 → (by : Row) (x : Group) → shown (tally (kepts p) (of_group by ss)) ≡ Some x → FitsGroup Sorted (by, x)
  group_fits ss all few by x e = go (of_group by ss) (fewer by ss) (members_fit by ss all) e
    where
      go : (ms : List Share) → length ms ≤ length ss → AllByRecursion (FitKinds Args) (map (λ y. y.args) ms) × (1 ≤ length ms → FitKinds By by) → shown (tally (kepts p) ms) ≡ Some x → FitsGroup Sorted (by, x)
      go [] short fit f = absurd cc
      go (m ∷ ms) short fit f =
          let made : tally (kepts p) (m ∷ ms) ≡ x = cc in
          let long = length_map (λ (y : Share). y.args) (m ∷ ms) in
          subst (λ z. FitsGroup Sorted (by, z)) made
          (fit.1 (omega arith), ((omega arith, omega (arith, short, few)), items_fit Ks p.calls (map (λ y. y.args) (m ∷ ms)) (omega (arith, long, short, few)) fit.0))

  pub state_fits : (t : TableValue) → t.schema ≡ s → AllByRecursion (FitKinds (kinds s.columns)) (values t.rows) → ((k : Row) (row : Row) → get t.rows k ≡ Some row → FitKinds (kinds s.columns) row × (key_at s.key row ≡ k))
      → len (share_map (share_of p) t.rows) < 2 ^ 64
      → AllByRecursion (FitsShare Sorted) (entries (share_map (share_of p) t.rows)) × AllByRecursion (FitsGroup Sorted) (entries (groups (kepts p) (shares_of (share_of p) t.rows)))
      × (length (entries (share_map (share_of p) t.rows)) < 2 ^ 64) × (length (entries (groups (kepts p) (shares_of (share_of p) t.rows))) < 2 ^ 64)
  unfolding groups
  state_fits t schema rows each few = (shares, group_entries, few_shares, few_groups)
    where
      ss : List Share
      ss = shares_of (share_of p) t.rows

      all : AllByRecursion IsFit ss
      all = shares_fit (values t.rows) rows

      counted_shares : length ss < 2 ^ 64
      counted_shares = let same = shares_counted (share_of p) t.rows in omega (arith, same, few)

      shares : AllByRecursion (FitsShare Sorted) (entries (share_map (share_of p) t.rows))
      shares = all_entries keys_total (FitsShare Sorted) (share_map (share_of p) t.rows) (λ k x has. at k x (get t.rows k) refl (sym (get-share_map (share_of p) t.rows k) ∙ has))
        where
          at : (k : Row) (x : Share) → (o : Option Row) → get t.rows k ≡ o → and_then o (share_of p) ≡ Some x → FitsShare Sorted (k, x)
          at k x None is e = absurd cc
          at k x (Some row) is e =
              let own = each k row is in
              let fit = share_fits row x own.0 e in
              (subst (FitKinds (key_kinds s)) own.1 (values_fit (kinds s.columns) row s.key own.0), (fit.0, fit.1))

      group_entries : AllByRecursion (FitsGroup Sorted) (entries (groups (kepts p) ss))
      group_entries = all_entries keys_total (FitsGroup Sorted) (groups (kepts p) ss) (λ by x has. group_fits ss all counted_shares by x (sym (get-groups (kepts p) ss by) ∙ has))

      few_shares : length (entries (share_map (share_of p) t.rows)) < 2 ^ 64
      few_shares = let same = len-entries (share_map (share_of p) t.rows) in omega (arith, same, few)

      few_groups : length (entries (groups (kepts p) ss)) < 2 ^ 64
      few_groups =
          let short = tabulated_short keys_total (map (λ x. x.by) ss) (λ by. shown (tally (kepts p) (of_group by ss))) in
          let long = length_map (λ (x : Share). x.by) ss in
          let same = len-entries (groups (kepts p) ss) in
          omega (arith, short, long, same, counted_shares)

pub states_fit : StatesFit
unfolding rule_of plan_sorts
states_fit p is group t input few =
    let s = first_input p.inputs in
    let g = or_nothing (parts (tree_of_plan p)) in
    let schema : t.schema ≡ s = ap first_input (sym input.schema) in
    let rows : AllByRecursion (FitKinds (kinds s.columns)) (values t.rows) = subst (λ (x : Shape). AllByRecursion (FitKinds (kinds x.columns)) (values t.rows)) schema (rows_fit t input.table) in
    let each : (k : Row) (row : Row) → get t.rows k ≡ Some row → FitKinds (kinds s.columns) row × (key_at s.key row ≡ k) =
    subst (λ (x : Shape). (k : Row) (row : Row) → get t.rows k ≡ Some row → FitKinds (kinds x.columns) row × (key_at x.key row ≡ k)) schema input.table.each in
    let fit = state_fits s g (rule_of p) refl refl refl (sources_fit p is group.shape) t schema rows each few in
    record { shares = fit.0; groups = fit.1; few_shares = fit.2; few_groups = fit.3; is = refl }

-- ---- no rows
no_values : {X : Type 0} (xs : List X) → length xs ≡ 0 → xs ≡ []
no_values [] e = refl
no_values (x ∷ xs) e = absurd (omega (arith, e))

no_groups : (ks : List CallKind) → groups ks [] ≡ empty
unfolding groups
no_groups ks = refl

pub no_rows_no_state : NoRowsNoState
no_rows_no_state p =
    let share = share_of (rule_of p) in
    let none : RowMap = empty in
    let shares : share_map share none ≡ empty = same_map keys_total exact_keys (share_map share none) empty (λ q. get-share_map share none q ∙ ap (λ (o : Option Row). and_then o share) (get-empty key_cmp q) ∙ sym (get-empty key_cmp q)) in
    let rows : values none ≡ [] = ap (map (λ (e : Row × Row). e.1)) (no_values (entries none) (let a = len-entries none in let b = len-empty key_cmp Row in omega (arith, a, b))) in
    let all : groups (kepts (rule_of p)) (shares_of share none) ≡ empty = ap (λ (rs : List Row). groups (kepts (rule_of p)) (filter_map share rs)) rows ∙ no_groups (kepts (rule_of p)) in
    λ i. record { shares = shares i; groups = all i }
