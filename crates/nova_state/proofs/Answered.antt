-- The answer of the state of a table is the delta of the plan.
use Rattle.std.specs.Prelude.{◌≡◌, Bool, true, false, cond, ◌&&◌, ◌||◌, ◌++◌, List, [], ◌∷◌, map, filter_map, Option, Some, None, refl}
use Rattle.std.proofs.Common.{ap, sym, ◌∙◌, inl, inr, subst}
use Rattle.std.specs.List.{AllByRecursion, list_any, cons_option}
use Rattle.std.specs.FinMap.{get, values, entries, from_entries}
use Rattle.nova_value.specs.declared.value.Value.TheVariants.{Long, Text}
use Rattle.nova_value.specs.declared.value.Value.{Value}
use Rattle.nova_value.specs.declared.value.Kind.{Kind}
use Rattle.nova_value.specs.declared.value.Kind.TheVariants as kind
use Rattle.nova_value.specs.declared.schema.Entry.{Entry}
use Rattle.nova_value.specs.declared.schema.Entry.TheVariants.{Put, Removal}
use Rattle.nova_value.specs.Entries.{FitsEntry, entry_key}
use Rattle.nova_value.specs.Rows.{Shape, IsShape, IsOf, FitKinds, FitsRow, FitsKey, kinds, key_at}
use Rattle.nova_value.proofs.Fit.{key_fits}
use Rattle.nova_delta.specs.Merge.{RowMap, EntryMap, TableValue, DeltaValue, IsDelta, merged, merge_of}
use Rattle.nova_delta.proofs.Keeps.{table_merged}
use Rattle.nova_delta.proofs.Listed.{rows_fit, entries_fit}
use Rattle.nova_pig_algebra.specs.Meaning.{Row, calls_over}
use Rattle.nova_pig_algebra.specs.Tree.{members, rising, rows}
use Rattle.nova_pig_algebra.specs.Plan.{Plan, IsPlan, tree_of_plan}
use Rattle.nova_pig_algebra.specs.Statements.{In, AllFit, TablesFit, NodesFitTheirKinds}
use Rattle.nova_admit.specs.Shaped.{IsGroupPlan}
use Rattle.nova_groups.specs.State.{groups, shares_of, and_then, row_put}
use Rattle.nova_state.specs.Rule.{GroupRule, Depends, share_of, kepts, bys, touched, answers, changes, entry_of, row_at, row_of, row_from, rows_made}
use Rattle.nova_state.specs.Plan.{parts, or_nothing, rule_of, out_key}
use Rattle.nova_state.specs.Fit.{is_of, fit}
use Rattle.nova_state.specs.Advance.{state_of, answer_of, answer_entry, fits_entry, delta_of, IsInputTable}
use Rattle.nova_state.proofs.Blocks.{delta_is}
use Rattle.nova_state.proofs.ByPlaces.{whole_row, whole_key, given_key}
use Rattle.nova_state.proofs.Delta.{eq, eq_is, any-keys}
use Rattle.nova_state.proofs.Depends.{rule_depends}
use Rattle.nova_state.proofs.GroupKeys.{rows_of_one}
use Rattle.nova_state.proofs.GroupsFit.{all_groups_fit}
use Rattle.nova_state.proofs.Rows.{row_from-state}
use Rattle.nova_state.proofs.Tables.{rows_are_grouped}
use Rattle.nova_state.proofs.Whole.{AllAnswered, answer_is, map-same}

answers_touched : (p : GroupRule) → Depends p → (key_of : Row → Row) (m : RowMap) (d : EntryMap) → answers p key_of (groups (kepts p) (shares_of (share_of p) (merged m d))) (touched p m (entries d)) ≡ changes p key_of m d
unfolding changes
answers_touched p depends key_of m d =
    ap (λ (fs : List (Row × Entry)). let made : EntryMap = from_entries fs in made)
    (map-same (λ by. (key_of by, entry_of (key_of by) (and_then (get (groups (kepts p) (shares_of (share_of p) (merged m d))) by) (row_from p by)))) (λ by. (key_of by, entry_of (key_of by) (row_at p (merged m d) by)))
    (λ by. ap (λ (o : Option Row). (key_of by, entry_of (key_of by) o)) (row_from-state p depends (merged m d) by)) (touched p m (entries d)))

-- ---- tests
of_kind : (k : Kind) (v : Value) → IsOf k v → is_of k v ≡ true
of_kind kind.Long (Long n) h = refl
of_kind kind.Long (Text t) h = absurd h
of_kind kind.Text (Long n) h = absurd h
of_kind kind.Text (Text t) h = refl

fit_so : (ks : List Kind) (vs : List Value) → FitKinds ks vs → fit ks vs ≡ true
fit_so [] [] h = refl
fit_so [] (v ∷ vs) h = absurd h
fit_so (k ∷ ks) [] h = absurd h
fit_so (k ∷ ks) (v ∷ vs) h = λ i. of_kind k v h.0 i && fit_so ks vs h.1 i

-- ---- lists
in_list : (g : Row) (xs : List Row) → list_any (eq g) xs ≡ true → In g xs
in_list g [] any = absurd cc
in_list g (x ∷ xs) any = go (eq g x) refl any (in_list g xs)
  where
    go : (b : Bool) → eq g x ≡ b → (b || list_any (eq g) xs) ≡ true → (list_any (eq g) xs ≡ true → In g xs) → In g (x ∷ xs)
    go true e any rest = inl (eq_is g x e)
    go false e any rest = inr (rest any)

in_given : (f : Row → Option Row) (by row : Row) (xs : List Row) → In by xs → f by ≡ Some row → In row (filter_map f xs)
in_given f by row [] i e = absurd i
in_given f by row (x ∷ xs) (inl same) e = go (f x) (ap f (sym same) ∙ e)
  where
    go : (o : Option Row) → o ≡ Some row → In row (cons_option o (filter_map f xs))
    go None e = absurd cc
    go (Some r) e = let is : r ≡ row = cc in inl (sym is)
in_given f by row (x ∷ xs) (inr h) e = go (f x) (in_given f by row xs h e)
  where
    go : (o : Option Row) → In row (filter_map f xs) → In row (cons_option o (filter_map f xs))
    go None i = i
    go (Some r) i = inr i

fit_each : (s : Shape) (rows : List Row) → AllByRecursion (FitsRow s) rows → AllFit s rows
fit_each s [] all row i = absurd i
fit_each s (r ∷ rows) all row (inl e) = subst (FitsRow s) (sym e) all.0
fit_each s (r ∷ rows) all row (inr i) = fit_each s rows all.1 row i

both_all : {X : Type 0} (P : X → Type 0) (xs ys : List X) → AllByRecursion P xs → AllByRecursion P ys → AllByRecursion P (xs ++ ys)
both_all P [] ys a b = b
both_all P (x ∷ xs) ys a b = (a.0, both_all P xs ys a.1 b)

-- where a group has a row, its members are there, and the row is theirs
record Given (p : GroupRule) (m : RowMap) (by row : Row) : Type 0 where
  any : list_any (eq by) (map (key_at p.columns) (filter_map p.chain (values m))) ≡ true
  theirs : row_of p by (members p.columns (filter_map p.chain (values m)) by) ≡ Some row

row_given : (p : GroupRule) (m : RowMap) (by row : Row) → row_at p m by ≡ Some row → Given p m by row
row_given p m by row e = go (list_any (eq by) (map (key_at p.columns) (filter_map p.chain (values m)))) refl e
  where
    go : (b : Bool) → list_any (eq by) (map (key_at p.columns) (filter_map p.chain (values m))) ≡ b → cond b (row_of p by (members p.columns (filter_map p.chain (values m)) by)) None ≡ Some row → Given p m by row
    go true a e = record { any = a; theirs = e }
    go false a e = absurd cc

row_is_made : (p : GroupRule) (m : RowMap) (by row : Row) → Given p m by row → In row (rows_made p m)
row_is_made p m by row g =
    let rows = filter_map p.chain (values m) in
    let bys : List Row = map (key_at p.columns) rows in
    in_given (λ b. row_of p b (members p.columns rows b)) by row (rising bys) (in_list by (rising bys) (any-keys by bys ∙ g.any)) g.theirs

module _ (nodes_fit : NodesFitTheirKinds) (p : Plan) (is : IsPlan p) (group : IsGroupPlan p) (output : IsShape p.output) (m : TableValue) (d : DeltaValue) (table : IsInputTable p m) (schema : d.schema ≡ m.schema) (delta : IsDelta d) where
  abbrev New : RowMap
  New = merged m.rows d.entries

  -- rows of the input
  input_fits : (rs : List Row) → AllFit m.schema rs → TablesFit p.inputs (rs ∷ [])
  input_fits rs fit = subst (λ inputs. TablesFit inputs (rs ∷ [])) (sym table.schema) (fit, tt)

  new_fits : AllFit m.schema (values New)
  new_fits = fit_each m.schema (values New) (rows_fit (merge_of m d) (table_merged m d (sym schema) table.table delta))

  row_fits : (by row : Row) → row_at (rule_of p) New by ≡ Some row → FitsRow p.output row
  row_fits by row e =
      nodes_fit p is is.kinded.all is.kinded.nodes (values New ∷ []) (input_fits (values New) new_fits) p.stored (kinds p.output.columns) is.kinded.stored row
      (subst (In row) (sym (rows_are_grouped p group.shape New)) (row_is_made (rule_of p) New by row (row_given (rule_of p) New by row e)))

  -- the output key of the group of a row
  key_fits_of : (row r : Row) → FitsRow m.schema row → (rule_of p).chain row ≡ Some r → FitsKey p.output (out_key p (key_at (rule_of p).columns r))
  unfolding rule_of
  key_fits_of row r fit e =
      let t = tree_of_plan p in
      let by = key_at (or_nothing (parts t)).columns r in
      let tables : List (List Row) = (row ∷ []) ∷ [] in
      let f = calls_over (members (or_nothing (parts t)).columns (r ∷ []) by) in
      let fits = input_fits (row ∷ []) (fit_each m.schema (row ∷ []) (fit, tt)) in
      let all = all_groups_fit p is tables (λ k ks at. nodes_fit p is is.kinded.all is.kinded.nodes tables fits k ks at) group.shape in
      let whole : FitsRow p.output (whole_row t by f) = all (whole_row t by f) (subst (In (whole_row t by f)) (sym (rows_of_one t group.shape row r e)) (inl refl)) in
      subst (FitsKey p.output) (whole_key p group by f) (key_fits p.output (whole_row t by f) output whole)

  abbrev Answered : Row → Type 0
  Answered by =
      (fits_entry p.output (answer_entry (rule_of p) (out_key p) (state_of p New).groups by) ≡ true)
      × (entry_key p.output (answer_entry (rule_of p) (out_key p) (state_of p New).groups by) ≡ out_key p by)

  answered_at : (by : Row) → FitsKey p.output (out_key p by) → Answered by
  answered_at by fits = go (and_then (get (state_of p New).groups by) (row_from (rule_of p) by)) (sym (row_from-state (rule_of p) (rule_depends p) New by))
    where
      go : (o : Option Row) → row_at (rule_of p) New by ≡ o → (fits_entry p.output (entry_of (out_key p by) o) ≡ true) × (entry_key p.output (entry_of (out_key p by) o) ≡ out_key p by)
      go None e = (fit_so _ _ fits, refl)
      go (Some row) e =
          let g = row_given (rule_of p) New by row e in
          (fit_so _ _ (row_fits by row e), given_key p group by (calls_over (members (rule_of p).columns (filter_map (rule_of p).chain (values New)) by)) row g.theirs)

  answered_by : (o : Option Row) → ((row : Row) → o ≡ Some row → FitsRow m.schema row) → AllByRecursion Answered (bys (rule_of p) o)
  answered_by None fit = tt
  answered_by (Some row) fit = go ((rule_of p).chain row) refl
    where
      go : (o : Option Row) → (rule_of p).chain row ≡ o → AllByRecursion Answered (elim o as (λ _. List Row) [ None ↦ [] | Some r ↦ key_at (rule_of p).columns r ∷ [] ])
      go None e = tt
      go (Some r) e = (answered_at (key_at (rule_of p).columns r) (key_fits_of row r (fit row refl) e), tt)

  put_fits : (e : Entry) → FitsEntry d.schema e → (row : Row) → row_put e ≡ Some row → FitsRow m.schema row
  put_fits (Put r) fit row same = let is : r ≡ row = cc in subst (λ s. FitsRow s row) schema (subst (FitsRow d.schema) is fit)
  put_fits (Removal k) fit row same = absurd cc

  answered_each : (es : List (Row × Entry)) → AllByRecursion (FitsEntry d.schema) (map (λ (e : Row × Entry). e.1) es) → AllByRecursion Answered (touched (rule_of p) m.rows es)
  answered_each [] fit = tt
  answered_each (e ∷ es) fit =
      both_all Answered (bys (rule_of p) (get m.rows e.0) ++ bys (rule_of p) (row_put e.1)) (touched (rule_of p) m.rows es)
      (both_all Answered (bys (rule_of p) (get m.rows e.0)) (bys (rule_of p) (row_put e.1))
      (answered_by (get m.rows e.0) (λ row same. (table.table.each e.0 row same).0))
      (answered_by (row_put e.1) (put_fits e.1 fit.0)))
      (answered_each es fit.1)

  all_answered : AllAnswered p.output (rule_of p) (out_key p) (state_of p New).groups (touched (rule_of p) m.rows (entries d.entries))
  all_answered = answered_each (entries d.entries) (entries_fit d delta)

  pub answer_changes : answer_of p.output (rule_of p) (out_key p) (state_of p New).groups (touched (rule_of p) m.rows (entries d.entries)) ≡ delta_of p m.rows d.entries
  answer_changes =
      answer_is p.output (rule_of p) (out_key p) (state_of p New).groups (touched (rule_of p) m.rows (entries d.entries)) all_answered
      ∙ (λ i. record { schema = p.output; entries = answers_touched (rule_of p) (rule_depends p) (out_key p) m.rows d.entries i })
      ∙ delta_is p group m.rows d.entries
