-- A lookup task's runs: each main key follows the run that took up its last write.
use Rattle.std.specs.Prelude.{◌≡◌, ◌⊎◌, ℕ, zero, suc, ◌<◌, ◌≤◌, nat_le, Bool, true, false, cond, ◌||◌, if◌then◌else◌, List, [], ◌∷◌, ◌++◌, map, flat_map, length, slice_set, slice_index_or, Option, Some, None, refl}
use Rattle.std.proofs.Common.{ap, sym, ◌∙◌, inl, inr, subst, arith}
use Rattle.std.proofs.lemmas.Bool.Decides.{nat_tests}
use Rattle.std.proofs.lemmas.List.{nil_from_length}
use Rattle.std.specs.List.{AllByRecursion}
use Rattle.std.specs.FinMap as fin
use Rattle.std.specs.FinMap.{get, get-empty, get-entries, entries_sorted}
use Rattle.nova_value.specs.declared.schema.Entry.{Entry}
use Rattle.nova_value.specs.declared.schema.Entry.TheVariants.{Put}
use Rattle.nova_value.specs.Order.{key_cmp}
use Rattle.nova_value.specs.Rows.{Shape, IsShape, FitsRow, key_at}
use Rattle.nova_delta.specs.Merge.{RowMap, EntryMap, TableValue, IsTable, IsDelta, after, merge_of}
use Rattle.nova_delta.specs.ActionLaws.{get-merged, same_rows}
use Rattle.nova_delta.specs.Seen.{table_of}
use Rattle.nova_delta.specs.Listed as delta
use Rattle.nova_delta.proofs.Listed.{rows_fit, rows_rise-rows_of}
use Rattle.nova_pig_algebra.specs.Meaning.{Row}
use Rattle.nova_pig_algebra.specs.Keys.{shape_at}
use Rattle.nova_pig_algebra.specs.Plan.{Plan, tree_of_plan, rows_of}
use Rattle.nova_pig_algebra.specs.Tree.{rows}
use Rattle.nova_pig_algebra.specs.Statements.{In, AreRowsOf, AreTables}
use Rattle.nova_pig_pattern.specs.declared.task.PatternKind.{PatternKind}
use Rattle.nova_pig_pattern.specs.declared.task.PatternKind.TheVariants.{Lookup}
use Rattle.nova_workflow.specs.declared.flow.Input.{Input}
use Rattle.nova_machine.specs.Workflow.{no_input, task_in, plan_in, output_in, schema_in, main_place}
use Rattle.nova_machine.specs.Versions.{Version, Keeps, has, version_in, rows_in, wrote_by, written, entry_of, block}
use Rattle.nova_machine.specs.State.{State, Capture, kept_at, table_at}
use Rattle.nova_machine.specs.Due.{last_of, seen_at}
use Rattle.nova_machine.specs.Results.{inputs_at, captured_rows, last_write, taken_up, rows_by, looked_up, result_rows, result_of}
use Rattle.nova_machine.specs.RunLaws.{Rise}
use Rattle.nova_machine.proofs.Blocks.{get-block, written-wrote, wrote_none, has_more, merge_block}
use Rattle.nova_machine.proofs.Kept.{last_push}
use Rattle.nova_machine.proofs.Running.{last_writes}
use Rattle.nova_rowwise.specs.Derived.{main_of, with_main, plan_keys, derived_by}
use Rattle.nova_rowwise.specs.Rule.{Sole, Rule}
use Rattle.nova_rowwise.specs.Runs.{without, IsRowTask, HasTables, main_channel, IsNextRun, run_delta, LookupMerges}
use Rattle.nova_rowwise.specs.Sources.{Key}
use Rattle.nova_rowwise.specs.Statements.{main_shape}
use Rattle.nova_rowwise.proofs.Found.{get-table_of, find_in}
use Rattle.nova_rowwise.proofs.Given.{one_row, risen_keyed}
use Rattle.nova_rowwise.proofs.Merges.{rule_merges, row_got, entry_got}
use Rattle.nova_rowwise.proofs.RowPlans.{keys_tell, row_rule}
use Rattle.nova_rowwise.proofs.RowsFit.{all_fit}

-- ---- which run took up a version
module _ (k : ℕ) where
  abbrev Below : ℕ → List Capture → Type 0
  Below w runs = AllByRecursion (λ (r : Capture). seen_at r k < w) runs

  abbrev UpTo : ℕ → List Capture → Type 0
  UpTo w runs = AllByRecursion (λ (r : Capture). seen_at r k ≤ w) runs

  rise_behind : (run : Capture) (runs : List Capture) → Rise k (run ∷ runs) → Rise k runs
  rise_behind run runs rise zero j low within = omega arith
  rise_behind run runs rise (suc i) zero low within = absurd (omega (arith, low))
  rise_behind run runs rise (suc i) (suc j) low within = rise (suc (suc i)) (suc (suc j)) (omega (arith, low)) (omega (arith, within))

  raised : (v w : ℕ) → v ≤ w → (runs : List Capture) → UpTo v runs → UpTo w runs
  raised v w le [] all = tt
  raised v w le (r ∷ runs) all = let low = all.0 in (omega (arith, low, le), raised v w le runs all.1)

  lowered : (v w : ℕ) → v < w → (runs : List Capture) → UpTo v runs → Below w runs
  lowered v w lt [] all = tt
  lowered v w lt (r ∷ runs) all = let low = all.0 in (omega (arith, low, lt), lowered v w lt runs all.1)

  up_to_last : (before : List Capture) (run : Capture) → Rise k (before ++ run ∷ []) → UpTo (seen_at (last_of before) k) before
  up_to_last [] run rise = tt
  up_to_last (b ∷ []) run rise = (omega arith, tt)
  up_to_last (b ∷ (c ∷ before)) run rise =
      let rest = up_to_last (c ∷ before) run (rise_behind b ((c ∷ before) ++ run ∷ []) rise) in
      let step : seen_at b k ≤ seen_at c k = rise 1 2 (omega arith) (omega arith) in
      let low = rest.0 in
      (omega (arith, step, low), rest)

  pub last_up_to : (before : List Capture) (run : Capture) → Rise k (before ++ run ∷ []) → seen_at (last_of before) k ≤ seen_at run k
  last_up_to [] run rise = omega arith
  last_up_to (b ∷ []) run rise = rise 1 2 (omega arith) (omega arith)
  last_up_to (b ∷ (c ∷ before)) run rise = last_up_to (c ∷ before) run (rise_behind b ((c ∷ before) ++ run ∷ []) rise)

  take_here : (w : ℕ) (run : Capture) (o : Option Capture) → w ≤ seen_at run k → (if nat_le w (seen_at run k) then Some run else o) ≡ Some run
  take_here w run o le = let yes : nat_le w (seen_at run k) ≡ true = grind (arith, nat_tests, le) in ap (λ b. if b then Some run else o) yes

  take_later : (w : ℕ) (run : Capture) (o : Option Capture) → seen_at run k < w → (if nat_le w (seen_at run k) then Some run else o) ≡ o
  take_later w run o lt = let no : nat_le w (seen_at run k) ≡ false = grind (arith, nat_tests, lt) in ap (λ b. if b then Some run else o) no

  -- a version above all captured ones is taken up by the next run
  taken_next : (w : ℕ) (before : List Capture) (run : Capture) → Below w before → w ≤ seen_at run k → taken_up k w (before ++ run ∷ []) ≡ Some run
  taken_next w [] run below le = take_here w run None le
  taken_next w (b ∷ before) run below le = take_later w b (taken_up k w (before ++ run ∷ [])) below.0 ∙ taken_next w before run below.1 le

  -- one that was taken up stays with its run
  taken_still : (w : ℕ) (before : List Capture) (run : Capture) → 0 < w → w ≤ seen_at (last_of before) k → taken_up k w before ≡ taken_up k w (before ++ run ∷ [])
  taken_still w [] run some le = absurd (omega (arith, some, le))
  taken_still w (b ∷ []) run some le = take_here w b None le ∙ sym (take_here w b (taken_up k w (run ∷ [])) le)
  taken_still w (b ∷ (c ∷ before)) run some le = ap (λ o. if nat_le w (seen_at b k) then Some b else o) (taken_still w (c ∷ before) run some le)

  taken_is : (P : Capture → Type 0) (w : ℕ) (runs : List Capture) → AllByRecursion P runs → (q : Capture) → taken_up k w runs ≡ Some q → P q
  taken_is P w [] all q e = absurd cc
  taken_is P w (r ∷ runs) all q e = go (nat_le w (seen_at r k)) e (λ f. taken_is P w runs all.1 q f)
    where
      go : (b : Bool) → (if b then Some r else taken_up k w runs) ≡ Some q → (taken_up k w runs ≡ Some q → P q) → P q
      go true f rest = let same : r ≡ q = cc in subst P same all.0
      go false f rest = rest f

pub front_of : (P : Capture → Type 0) (xs : List Capture) (y : Capture) → AllByRecursion P (xs ++ y ∷ []) → AllByRecursion P xs × P y
front_of P [] y all = (tt, all.0)
front_of P (x ∷ xs) y all = let r = front_of P xs y all.1 in ((all.0, r.0), r.1)

-- ---- last writes
module _ (vs : List Version) (keeps : Keeps vs) (q : Key) where
  abbrev wrote_at : ℕ → Bool
  wrote_at v = has (version_in vs v).wrote q

  at_write : (v : ℕ) (b : Bool) → wrote_at (suc v) ≡ b → last_write vs (suc v) q ≡ (if b then suc v else last_write vs v q)
  at_write v b e = ap (λ t. if t then suc v else last_write vs v q) e

  or_both : (a b : Bool) → (a || b) ≡ false → (a ≡ false) × (b ≡ false)
  or_both true b e = absurd cc
  or_both false b e = (refl, e)

  same_last : (i j : ℕ) → i ≤ j → has (wrote_by vs i j) q ≡ false → last_write vs j q ≡ last_write vs i q
  same_last i zero le none = let z : zero ≡ i = omega (arith, le) in ap (λ v. last_write vs v q) z
  same_last i (suc j) le none =
      let split : (i ≤ j) ⊎ (suc j ≡ i) = grind (arith, le) in
      elim split as (λ _. last_write vs (suc j) q ≡ last_write vs i q) [
        | inl low ↦ let both = or_both (has (wrote_by vs i j) q) (wrote_at (suc j)) (sym (has_more vs i j low q) ∙ none) in at_write j false both.1 ∙ same_last i j low both.0
        | inr here ↦ ap (λ v. last_write vs v q) here
      ]

  later_last : (i j : ℕ) → i ≤ j → has (wrote_by vs i j) q ≡ true → i < last_write vs j q
  later_last i zero le some = let no : false ≡ true = ap (λ ks. has ks q) (sym (wrote_none vs i zero (omega arith))) ∙ some in absurd cc
  later_last i (suc j) le some =
      let split : (i ≤ j) ⊎ (suc j ≡ i) = grind (arith, le) in
      elim split as (λ _. i < last_write vs (suc j) q) [
        | inl low ↦ by_write (wrote_at (suc j)) refl low (sym (has_more vs i j low q) ∙ some) (λ f. later_last i j low f)
        | inr here ↦ let no : false ≡ true = ap (λ ks. has ks q) (sym (wrote_none vs i (suc j) (omega (arith, here)))) ∙ some in absurd cc
      ]
    where
      by_write : (b : Bool) → wrote_at (suc j) ≡ b → i ≤ j → (has (wrote_by vs i j) q || wrote_at (suc j)) ≡ true → (has (wrote_by vs i j) q ≡ true → i < last_write vs j q) → i < last_write vs (suc j) q
      by_write true w low e rest = subst (λ n. i < n) (sym (at_write j true w)) (omega (arith, low))
      by_write false w low e rest = subst (λ n. i < n) (sym (at_write j false w)) (rest (left_one (has (wrote_by vs i j) q) (wrote_at (suc j)) w e))
        where
          left_one : (a b : Bool) → b ≡ false → (a || b) ≡ true → a ≡ true
          left_one true b f g = refl
          left_one false b f g = sym f ∙ g

  -- a key with a row was written
  some_write : (v : ℕ) → v ≤ length vs → (r : Row) → get (rows_in vs v) q ≡ Some r → 0 < last_write vs v q
  some_write zero le r e = let no : None ≡ Some r = sym (get-empty key_cmp q) ∙ e in absurd cc
  some_write (suc v) le r e = go (wrote_at (suc v)) refl (λ f. some_write v (omega (arith, le)) r f)
    where
      go : (b : Bool) → wrote_at (suc v) ≡ b → (get (rows_in vs v) q ≡ Some r → 0 < last_write vs v q) → 0 < last_write vs (suc v) q
      go true w rest = subst (λ n. 0 < n) (sym (at_write v true w)) (omega arith)
      go false w rest = subst (λ n. 0 < n) (sym (at_write v false w)) (rest (sym (keeps v (omega (arith, le)) q w) ∙ e))

  -- of a key that the block doesn't have the last write stays
  stays_written : (i j : ℕ) → 0 < i → i ≤ j → get (block vs i j) q ≡ None → last_write vs j q ≡ last_write vs i q
  stays_written i j up le none = same_last i j le (sym (ap (λ ks. has ks q) (written-wrote vs i j up)) ∙ absent (has (written vs i j) q) (sym (get-block vs i j q) ∙ none))
    where
      absent : (b : Bool) → cond b (Some (entry_of q (get (rows_in vs j) q))) None ≡ None → b ≡ false
      absent true e = absurd cc
      absent false e = refl

  -- of a key that it has it is above
  rewritten : (i j : ℕ) → i ≤ j → j ≤ length vs → (r : Row) → get (block vs i j) q ≡ Some (Put r) → get (rows_in vs j) q ≡ Some r → i < last_write vs j q
  rewritten zero j le short r has_it here = some_write j short r here
  rewritten (suc i) j le short r has_it here = later_last (suc i) j le (sym (ap (λ ks. has ks q) (written-wrote vs (suc i) j (omega arith))) ∙ present (has (written vs (suc i) j) q) (sym (get-block vs (suc i) j q) ∙ has_it))
    where
      present : (b : Bool) → cond b (Some (entry_of q (get (rows_in vs j) q))) None ≡ Some (Put r) → b ≡ true
      present true e = refl
      present false e = absurd cc

-- ---- tables of inputs
set_there : (k : ℕ) (xs : List (List Row)) (m : List Row) → k < length xs → with_main k (without k xs) m ≡ slice_set xs k m
set_there k [] m lt = absurd (omega (arith, lt))
set_there zero (x ∷ xs) m lt = refl
set_there (suc k) (x ∷ xs) m lt = ap (λ ys. x ∷ ys) (set_there k xs m (omega (arith, lt)))

set_are : (k : ℕ) (ss : List Shape) (ts : List (List Row)) (m : List Row) → AreTables ss ts → AreRowsOf (shape_at ss k) m → k < length ss → AreTables ss (slice_set ts k m)
set_are k [] ts m are fit lt = absurd (omega (arith, lt))
set_are k (s ∷ ss) [] m are fit lt = absurd are
set_are zero (s ∷ ss) (t ∷ ts) m are fit lt = (fit, are.1)
set_are (suc k) (s ∷ ss) (t ∷ ts) m are fit lt = (are.0, set_are k ss ts m are.1 fit (omega (arith, lt)))

pub shape_there : (s : State) (inputs : List Input) (k : ℕ) → k < length inputs → shape_at (map (λ (i : Input). schema_in s.flow i.channel) inputs) k ≡ schema_in s.flow (slice_index_or inputs k no_input).channel
shape_there s [] k lt = absurd (omega (arith, lt))
shape_there s (i ∷ inputs) zero lt = refl
shape_there s (i ∷ inputs) (suc k) lt = shape_there s inputs k (omega (arith, lt))

inputs_long : (s : State) (inputs : List Input) (versions : List ℕ) → length versions ≡ length inputs → length (inputs_at s inputs versions) ≡ length inputs
inputs_long s [] versions same = refl
inputs_long s (i ∷ inputs) [] same = absurd (omega (arith, same))
inputs_long s (i ∷ inputs) (v ∷ versions) same = ap suc (inputs_long s inputs versions (omega (arith, same)))

inputs_are : (s : State) → HasTables s → (inputs : List Input) (versions : List ℕ) → length versions ≡ length inputs → AreTables (map (λ (i : Input). schema_in s.flow i.channel) inputs) (inputs_at s inputs versions)
inputs_are s tables [] versions same = tt
inputs_are s tables (i ∷ inputs) [] same = absurd (omega (arith, same))
inputs_are s tables (i ∷ inputs) (v ∷ versions) same =
    let t = table_at s i.channel v in
    let is = tables i.channel v in (
      record { fit = all_fit t.schema (delta.rows_of t) (rows_fit t is); keyed = risen_keyed t.schema (delta.rows_of t) (rows_rise-rows_of t is) },
      inputs_are s tables inputs versions (omega (arith, same)),
    )

-- ---- rows by entries
by_entries : (f : Row → List Row) (g : Key × Row → List Row) (es : List (Key × Row)) → ((e : Key × Row) → In e es → f e.1 ≡ g e) → flat_map f (map (λ (e : Key × Row). e.1) es) ≡ flat_map g es
by_entries f g [] h = refl
by_entries f g (e ∷ es) h = let a = h e (inl refl) in let b = by_entries f g es (λ x i. h x (inr i)) in λ i. a i ++ b i

module _ (s : State) (t : ℕ) (looks : (plan_in s.flow t).pattern ≡ Lookup) (is : IsRowTask s.flow t) (tables : HasTables s) (keeps : Keeps (kept_at s (main_channel s t)).versions) where
  abbrev p : Plan
  p = (plan_in s.flow t).plan

  abbrev k : ℕ
  k = main_place (task_in s.flow t).inputs

  abbrev c : ℕ
  c = main_channel s t

  abbrev sh : Shape
  sh = schema_in s.flow (main_channel s t)

  abbrev vs : List Version
  vs = (kept_at s (main_channel s t)).versions

  abbrev IsWhole : Capture → Type 0
  IsWhole r = length r.versions ≡ length (task_in s.flow t).inputs

  shape_is : shape_at p.inputs k ≡ sh
  shape_is = ap (λ ins. shape_at ins k) is.inputs ∙ shape_there s (task_in s.flow t).inputs k is.place

  main_is : main_shape p ≡ sh
  main_is = ap (shape_at p.inputs) is.main ∙ shape_is

  main_shape_is : IsShape (main_shape p)
  main_shape_is = subst IsShape (sym main_is) is.shape

  abbrev by_run : Capture → Row → List Row
  by_run q r = rows_of p (slice_set (captured_rows s t q) k (r ∷ []))

  joined_by : (q : Capture) → IsWhole q → (r : Row) → rows (tree_of_plan p) (with_main (main_of (tree_of_plan p)) (without k (captured_rows s t q)) (r ∷ [])) ≡ by_run q r
  joined_by q whole r =
      ap (rows (tree_of_plan p)) (ap (λ n. with_main n (without k (captured_rows s t q)) (r ∷ [])) is.main ∙ set_there k (captured_rows s t q) (r ∷ []) (subst (λ n. k < n) (sym (inputs_long s (task_in s.flow t).inputs q.versions whole)) is.place))

  tables_of : (q : Capture) → IsWhole q → (r : Row) → FitsRow (main_shape p) r → AreTables p.inputs (with_main (main_of (tree_of_plan p)) (without k (captured_rows s t q)) (r ∷ []))
  tables_of q whole r fit =
      let all = map (λ (i : Input). schema_in s.flow i.channel) (task_in s.flow t).inputs in
      let long : length all ≡ length (task_in s.flow t).inputs = map_long (λ (i : Input). schema_in s.flow i.channel) (task_in s.flow t).inputs in
      let row = subst (λ z. AreRowsOf z (r ∷ [])) (main_is ∙ sym (shape_there s (task_in s.flow t).inputs k is.place)) (one_row (main_shape p) r fit) in
      let set = set_are k all (captured_rows s t q) (r ∷ []) (inputs_are s tables (task_in s.flow t).inputs q.versions whole) row (subst (λ n. k < n) (sym long) is.place) in
      subst (λ ts. AreTables p.inputs ts) (sym (ap (λ n. with_main n (without k (captured_rows s t q)) (r ∷ [])) is.main ∙ set_there k (captured_rows s t q) (r ∷ []) (subst (λ n. k < n) (sym (inputs_long s (task_in s.flow t).inputs q.versions whole)) is.place)))
      (subst (λ ins. AreTables ins (slice_set (captured_rows s t q) k (r ∷ []))) (sym is.inputs) set)
    where
      map_long : (f : Input → Shape) (xs : List Input) → length (map f xs) ≡ length xs
      map_long f [] = refl
      map_long f (x ∷ xs) = ap suc (map_long f xs)

  abbrev RuleOf : (Row → List Row) → Type 0
  RuleOf of = Rule (main_shape p) p.output (plan_keys p) of

  run_rule : (q : Capture) → IsWhole q → RuleOf (by_run q)
  run_rule q whole = subst RuleOf (λ i. λ r. joined_by q whole r i) (row_rule p is.plan is.row main_shape_is (λ r. without k (captured_rows s t q)) (λ r fit. tables_of q whole r fit))

  -- each row by a run of its own, or by none
  each_rule : (choice : Row → Option Capture) → ((r : Row) (q : Capture) → choice r ≡ Some q → IsWhole q) → RuleOf (λ r. rows_by s t k r (choice r))
  each_rule choice whole = record { one = λ r fit. one r fit (choice r) refl; kept = λ r x fit i. kept r x fit (choice r) refl i }
    where
      one : (r : Row) → FitsRow (main_shape p) r → (o : Option Capture) → choice r ≡ o → Sole p.output.key (rows_by s t k r o)
      one r fit None e = λ x y i j same. absurd i
      one r fit (Some q) e = (run_rule q (whole r q e)).one r fit

      kept : (r x : Row) → FitsRow (main_shape p) r → (o : Option Capture) → choice r ≡ o → In x (rows_by s t k r o) → In (key_at p.output.key x) (plan_keys p (key_at (main_shape p).key r))
      kept r x fit None e i = absurd i
      kept r x fit (Some q) e i = (run_rule q (whole r q e)).kept r x fit i

  module _ (before : List Capture) (run : Capture) (next : IsNextRun s t before run) where
    abbrev i : ℕ
    i = seen_at (last_of before) k

    abbrev j : ℕ
    j = seen_at run k

    abbrev d : EntryMap
    d = block vs i j

    up : i ≤ j
    up = last_up_to k before run next.rise

    own : AllByRecursion IsWhole before × IsWhole run
    own = front_of IsWhole before run next.whole

    table_is : (v : ℕ) → IsTable (record { schema = main_shape p; rows = rows_in vs v })
    table_is v = subst (λ (z : Shape). IsTable (record { schema = z; rows = rows_in vs v })) (sym main_is) (tables c v)

    delta_is : IsDelta (record { schema = main_shape p; entries = d })
    delta_is = subst (λ (z : Shape). IsDelta (record { schema = z; entries = d })) (sym main_is) next.block

    abbrev key_of : Row → Key
    key_of r = key_at (main_shape p).key r

    abbrev was : Row → List Row
    was r = rows_by s t k r (taken_up k (last_write vs i (key_of r)) before)

    abbrev now : Row → List Row
    now r = rows_by s t k r (taken_up k (last_write vs j (key_of r)) (before ++ run ∷ []))

    merges : (q : Key) → get (rows_in vs j) q ≡ after (get d q) (get (rows_in vs i) q)
    merges q = ap (λ (m : RowMap). get m q) (sym (merge_block vs i j (inr keeps) up next.there)) ∙ get-merged (rows_in vs i) d q

    there : (v : ℕ) (r : Row) → In r (fin.values (rows_in vs v)) → get (rows_in vs v) (key_of r) ≡ Some r
    there v r at = row_got (record { schema = main_shape p; rows = rows_in vs v }) r (table_is v) at

    stays : (r : Row) → In r (fin.values (rows_in vs i)) → get d (key_of r) ≡ None → was r ≡ now r
    stays r at none =
        let q = key_of r in
        let short : i ≤ length vs = let there = next.there in omega (arith, up, there) in
        let some = some_write vs keeps q i short r (there i r at) in
        let low = (last_writes vs i q).low in
        let same = stays_written vs keeps q i j (omega (arith, some, low)) up none in
        ap (rows_by s t k r) (taken_still k (last_write vs i q) before run some low ∙ ap (λ w. taken_up k w (before ++ run ∷ [])) (sym same))

    puts : (r : Row) → In (Put r) (delta.entries_of (record { schema = main_shape p; entries = d })) → by_run run r ≡ now r
    puts r at =
        let q = key_of r in
        let got : get d q ≡ Some (Put r) = entry_got (record { schema = main_shape p; entries = d }) (Put r) delta_is at in
        let here : get (rows_in vs j) q ≡ Some r = merges q ∙ ap (λ (e : Option Entry). after e (get (rows_in vs i) q)) got in
        let above = rewritten vs keeps q i j up next.there r got here in
        let low = (last_writes vs j q).low in
        ap (rows_by s t k r) (sym (taken_next k (last_write vs j q) before run (lowered k i (last_write vs j q) above before (up_to_last k before run next.rise)) low))

    abbrev changed : Row → List Row
    changed r = by_run run r

    merged_rows : merge_of (table_of p.output (flat_map was (fin.values (rows_in vs i)))) (derived_by p.output (plan_keys p) changed (record { schema = main_shape p; entries = d }))
        ≡ table_of p.output (flat_map now (fin.values (rows_in vs j)))
    merged_rows = rule_merges (main_shape p) p.output (plan_keys p) main_shape_is (keys_tell p is.row main_shape_is) was now changed (rows_in vs i) (rows_in vs j) d (table_is i) (table_is j) delta_is merges
        (each_rule (λ r. taken_up k (last_write vs i (key_of r)) before) (λ r q e. taken_is k IsWhole (last_write vs i (key_of r)) before own.0 q e))
        (each_rule (λ r. taken_up k (last_write vs j (key_of r)) (before ++ run ∷ [])) (λ r q e. taken_is k IsWhole (last_write vs j (key_of r)) (before ++ run ∷ []) next.whole q e))
        stays puts

    -- the delta is this one
    delta_made : run_delta s t before run ≡ derived_by p.output (plan_keys p) changed (record { schema = main_shape p; entries = d })
    delta_made = λ z. derived_by p.output (plan_keys p) (λ r. joined_by run own.1 r z) (record { schema = main_is' z; entries = d })
      where
        main_is' : sh ≡ main_shape p
        main_is' = sym main_is

    -- the rows of runs up to one, by the entries of the table that it captured
    by_last : (runs : List Capture) (v : ℕ) → flat_map (λ r. rows_by s t k r (taken_up k (last_write vs v (key_of r)) runs)) (fin.values (rows_in vs v)) ≡ looked_up s t runs k v vs
    by_last runs v = by_entries (λ r. rows_by s t k r (taken_up k (last_write vs v (key_of r)) runs)) (λ (e : Key × Row). rows_by s t k e.1 (taken_up k (last_write vs v e.0) runs)) (fin.entries (rows_in vs v)) same
      where
        same : (e : Key × Row) → In e (fin.entries (rows_in vs v)) → rows_by s t k e.1 (taken_up k (last_write vs v (key_of e.1)) runs) ≡ rows_by s t k e.1 (taken_up k (last_write vs v e.0) runs)
        same e at =
            let got : get (rows_in vs v) e.0 ≡ Some e.1 = get-entries (rows_in vs v) e.0 ∙ find_in (fin.entries (rows_in vs v)) e (entries_sorted (rows_in vs v)) at in
            ap (λ q. rows_by s t k e.1 (taken_up k (last_write vs v q) runs)) ((table_is v).each e.0 e.1 got).1

    result_is : table_of p.output (flat_map now (fin.values (rows_in vs j))) ≡ result_of s t before run
    result_is =
        ap (table_of p.output) (by_last (before ++ run ∷ []) j) ∙ ap (λ o. table_of o (looked_up s t (before ++ run ∷ []) k j vs)) is.output
        ∙ ap (λ (kind : PatternKind). table_of (schema_in s.flow (output_in s.flow t)) (result_rows kind s t before run)) (sym looks)

    pub merges_on : merge_of (table_of p.output (flat_map was (fin.values (rows_in vs i)))) (run_delta s t before run) ≡ result_of s t before run
    merges_on = ap (merge_of (table_of p.output (flat_map was (fin.values (rows_in vs i))))) delta_made ∙ merged_rows ∙ result_is

  -- the table before a run: that of the run before it
  result_before : (before : List Capture) (last run : Capture) (next : IsNextRun s t (before ++ last ∷ []) run)
      → table_of p.output (flat_map (was (before ++ last ∷ []) run next) (fin.values (rows_in vs (seen_at (last_of (before ++ last ∷ [])) k)))) ≡ result_of s t before last
  result_before before last run next =
      ap (table_of p.output) (by_last (before ++ last ∷ []) run next (before ++ last ∷ []) (seen_at (last_of (before ++ last ∷ [])) k))
      ∙ ap (λ (r : Capture). table_of p.output (looked_up s t (before ++ last ∷ []) k (seen_at r k) vs)) (last_push before last)
      ∙ ap (λ o. table_of o (looked_up s t (before ++ last ∷ []) k (seen_at last k) vs)) is.output
      ∙ ap (λ (kind : PatternKind). table_of (schema_in s.flow (output_in s.flow t)) (result_rows kind s t before last)) (sym looks)

  -- the table before the first run: no rows
  nothing_before : (run : Capture) (next : IsNextRun s t [] run)
      → table_of p.output (flat_map (was [] run next) (fin.values (rows_in vs 0))) ≡ record { schema = schema_in s.flow (output_in s.flow t); rows = fin.empty }
  nothing_before run next =
      let none : fin.values (fin.empty {X = Row} {R = key_cmp}) ≡ [] = ap (map (λ (e : Key × Row). e.1)) (nil_from_length (fin.entries (fin.empty {X = Row} {R = key_cmp})) (sym (fin.len-entries (fin.empty {X = Row} {R = key_cmp})) ∙ fin.len-empty key_cmp Row)) in
      ap (λ rs. table_of p.output (flat_map (was [] run next) rs)) none
      ∙ ap (λ o. table_of o []) is.output
      ∙ ap (λ (m : RowMap). record { schema = schema_in s.flow (output_in s.flow t); rows = m }) (same_rows _ _ (λ q. get-table_of (schema_in s.flow (output_in s.flow t)) [] q ∙ sym (get-empty key_cmp q)))

pub lookup_merges : LookupMerges
lookup_merges s t looks is tables keeps = record {
  first = λ run next. ap (λ (m : TableValue). merge_of m (run_delta s t [] run)) (sym (nothing_before s t looks is tables keeps run next)) ∙ merges_on s t looks is tables keeps [] run next;
  next = λ before last run next.
      ap (λ (m : TableValue). merge_of m (run_delta s t (before ++ last ∷ []) run)) (sym (result_before s t looks is tables keeps before last run next)) ∙ merges_on s t looks is tables keeps (before ++ last ∷ []) run next;
}
