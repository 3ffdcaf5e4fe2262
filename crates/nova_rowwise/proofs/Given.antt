-- What is asked of the tables and the delta of a run gives what the proofs of its plan want.
use Rattle.std.specs.Prelude.{◌≡◌, ℕ, zero, suc, Bool, true, false, T, ◌&&◌, List, [], ◌∷◌, ◌++◌, map, flat_map, refl}
use Rattle.std.proofs.Common.{ap, sym, ◌∙◌, inl, inr, subst}
use Rattle.std.specs.List.{AllByRecursion}
use Rattle.std.specs.declared.cmp.Ordering.TheVariants.{Equal}
use Rattle.std.specs.Ordering.{is_lt}
use Rattle.std.proofs.lemmas.Cmp.{tied_itself}
use Rattle.std.specs.FinMap as fin
use Rattle.std.specs.FinMap.{entries_sorted, get-entries}
use Rattle.std.specs.FinMap.Entries.{below_all}
use Rattle.nova_value.specs.declared.schema.Entry.{Entry}
use Rattle.nova_value.specs.Entries.{entry_key}
use Rattle.nova_value.specs.Order.{key_cmp}
use Rattle.nova_value.specs.Orders.{keys_total}
use Rattle.nova_value.specs.Rows.{Shape, IsShape, FitsRow, FitsKey, key_at}
use Rattle.nova_delta.specs.Merge.{TableValue, DeltaValue, IsTable, IsDelta}
use Rattle.nova_delta.specs.Listed as delta
use Rattle.nova_delta.specs.Statements as tables
use Rattle.nova_pig_algebra.specs.Meaning.{Row}
use Rattle.nova_pig_algebra.specs.Keys.{shape_at}
use Rattle.nova_pig_algebra.specs.Plan.{Plan, IsPlan, tree_of_plan}
use Rattle.nova_pig_algebra.specs.Statements.{In, Every, Keyed, AreRowsOf, AreTables}
use Rattle.nova_pig_algebra.proofs.Lists.{in_mapped}
use Rattle.nova_admit.specs.Shaped.{IsRowPlan}
use Rattle.nova_rowwise.specs.AtOnce.{put_rows, at_once_by, at_once}
use Rattle.nova_rowwise.specs.Derived.{main_of, with_main, with_main_schema, made_of, plan_keys, answer, answers, set_all, derived}
use Rattle.nova_rowwise.specs.Fits.{Each}
use Rattle.nova_rowwise.specs.Sources.{Key, source_keys}
use Rattle.nova_rowwise.specs.Statements.{main_shape}
use Rattle.nova_rowwise.proofs.AtOnceIs.{at_once_is, entry_key_fits}
use Rattle.nova_rowwise.proofs.Found.{find_in}
use Rattle.nova_rowwise.proofs.KeysFit.{keys_fit}
use Rattle.nova_rowwise.proofs.Merges.{entry_got}
use Rattle.nova_rowwise.proofs.Origins.{sources_tell}
use Rattle.nova_rowwise.proofs.RowPlans.{rowwise, source_rule}
use Rattle.nova_rowwise.proofs.RowsFit.{each_of, all_fit}
use Rattle.nova_rowwise.proofs.SameKeys.{same_keys}
use Rattle.nova_rowwise.proofs.Spread.{goes, comes}

-- ---- tables
t_first : (a b : Bool) → T (a && b) → T a
t_first true b p = tt
t_first false b p = p

t_second : (a b : Bool) → T (a && b) → T b
t_second true b p = p
t_second false b p = absurd p

less_differs : (k y : Row) → T (is_lt (key_cmp k y)) → k ≡ y → ⊥
less_differs k y h e = let eq : key_cmp k y ≡ Equal = ap (key_cmp k) (sym e) ∙ tied_itself keys_total k in subst (λ o. T (is_lt o)) eq h

below_differ : (key : List ℕ) (k : Row) (xs : List Row) → T (below_all key_cmp k (delta.at_keys (key_at key) xs)) → Every (λ b. k ≡ key_at key b → ⊥) xs
below_differ key k [] h = tt
below_differ key k (x ∷ xs) h = (less_differs k (key_at key x) (t_first _ _ h), below_differ key k xs (t_second (is_lt (key_cmp k (key_at key x))) _ h))

pub risen_keyed : (s : Shape) (xs : List Row) → T (delta.rows_rise s xs) → Keyed s.key xs
risen_keyed s [] h = tt
risen_keyed s (x ∷ xs) h =
    (below_differ s.key (key_at s.key x) xs (t_first _ _ h), risen_keyed s xs (t_second (below_all key_cmp (key_at s.key x) (delta.at_keys (key_at s.key) xs)) _ h))

tables_are : tables.RowsFit → tables.RowsRise → (ts : List TableValue) → AllByRecursion IsTable ts → AreTables (map (λ t. t.schema) ts) (map delta.rows_of ts)
tables_are fit rise [] all = tt
tables_are fit rise (t ∷ ts) all = (
  record { fit = all_fit t.schema (delta.rows_of t) (fit t all.0); keyed = risen_keyed t.schema (delta.rows_of t) (rise t all.0) },
  tables_are fit rise ts all.1,
)

pub one_row : (s : Shape) (r : Row) → FitsRow s r → AreRowsOf s (r ∷ [])
one_row s r fit = record { fit = λ row i. only row i; keyed = (tt, tt) }
  where
    only : (row : Row) → In row (r ∷ []) → FitsRow s row
    only row (inl e) = subst (FitsRow s) (sym e) fit
    only row (inr past) = absurd past

with_main_are : (main : ℕ) (ss : List Shape) (ts : List (List Row)) (s : Shape) (m : List Row) → AreTables ss ts → AreRowsOf s m → AreTables (with_main_schema main ss s) (with_main main ts m)
with_main_are zero ss ts s m are fit = (fit, are)
with_main_are (suc k) [] [] s m are fit = (record { fit = λ row i. absurd i; keyed = tt }, with_main_are k [] [] s m are fit)
with_main_are (suc k) [] (t ∷ ts) s m are fit = absurd are
with_main_are (suc k) (x ∷ ss) [] s m are fit = absurd are
with_main_are (suc k) (x ∷ ss) (t ∷ ts) s m are fit = (are.0, with_main_are k ss ts s m are.1 fit)

main_schema_is : (main : ℕ) (ss : List Shape) (s : Shape) → shape_at (with_main_schema main ss s) main ≡ s
main_schema_is zero ss s = refl
main_schema_is (suc k) [] s = main_schema_is k [] s
main_schema_is (suc k) (x ∷ ss) s = main_schema_is k ss s

-- ---- the delta of a run
module _ (rows_fit : tables.RowsFit) (rows_rise : tables.RowsRise) (p : Plan) (is : IsPlan p) (row : IsRowPlan p) (ts : List TableValue) (all : AllByRecursion IsTable ts)
    (d : DeltaValue) (is_d : IsDelta d) (shape : IsShape d.schema) (same : with_main_schema (main_of (tree_of_plan p)) (map (λ t. t.schema) ts) d.schema ≡ p.inputs) where
  abbrev main : ℕ
  main = main_of (tree_of_plan p)

  abbrev lookups : List (List Row)
  lookups = map delta.rows_of ts

  its : d.schema ≡ main_shape p
  its = sym (main_schema_is main (map (λ t. t.schema) ts) d.schema) ∙ ap (λ ins. shape_at ins main) same

  main_is_shape : IsShape (main_shape p)
  main_is_shape = subst IsShape its shape

  are : (r : Row) → FitsRow (main_shape p) r → AreTables p.inputs (with_main main lookups (r ∷ []))
  are r fit = subst (λ ins. AreTables ins (with_main main lookups (r ∷ []))) same
      (with_main_are main (map (λ t. t.schema) ts) lookups d.schema (r ∷ []) (tables_are rows_fit rows_rise ts all) (one_row d.schema r (subst (λ z. FitsRow z r) (sym its) fit)))

  key_fitting : (e : Entry) → In e (delta.entries_of d) → FitsKey (main_shape p) (entry_key d.schema e)
  key_fitting e i = subst (λ z. FitsKey z (entry_key d.schema e)) its (entry_key_fits d.schema e shape (is_d.each (entry_key d.schema e) e (entry_got d e is_d i)).0)

  given_key : (k : Key) → In k (fin.keys d.entries) → FitsKey (main_shape p) k
  given_key k i =
      let x = in_mapped (λ (y : Key × Entry). y.0) k (fin.entries d.entries) i in
      let got = is_d.each (x.0).0 (x.0).1 (get-entries d.entries (x.0).0 ∙ find_in (fin.entries d.entries) x.0 (entries_sorted d.entries) x.1) in
      subst (λ z. FitsKey z k) its (subst (FitsKey d.schema) (got.1 ∙ sym x.2) (entry_key_fits d.schema (x.0).1 shape got.0))

  pub keys_given : Each (λ k. Each (FitsKey p.output) (source_keys d.schema p.output (tree_of_plan p) k)) (fin.keys d.entries)
  keys_given = each_of (λ k. Each (FitsKey p.output) (source_keys d.schema p.output (tree_of_plan p) k)) (fin.keys d.entries)
      (λ k i. each_of (FitsKey p.output) (source_keys d.schema p.output (tree_of_plan p) k)
      (λ q j. keys_fit p is row main_is_shape k (given_key k i) q (subst (λ (z : Shape). In q (source_keys z p.output (tree_of_plan p) k)) its j)))

  abbrev of : Row → List Row
  of r = made_of (tree_of_plan p) lookups (r ∷ [])

  same_answers : (es : List Entry) → ((e : Entry) → In e es → FitsKey (main_shape p) (entry_key d.schema e))
      → flat_map (answers d.schema p.output (source_keys (main_shape p) p.output (tree_of_plan p)) of) es ≡ flat_map (answers d.schema p.output (plan_keys p) of) es
  same_answers [] fit = refl
  same_answers (e ∷ es) fit =
      let a = ap (map (answer p.output of e)) (sym (same_keys p row main_is_shape (entry_key d.schema e) (fit e (inl refl)))) in
      let b = same_answers es (λ f i. fit f (inr i)) in
      λ i. a i ++ b i

  pub derived_is : at_once p lookups d ≡ derived p lookups d
  derived_is =
      let t = tree_of_plan p in
      let o = p.output in
      let puts = put_rows (delta.entries_of d) in
      let outs = source_keys (main_shape p) o t in
      ap (λ (z : Shape). at_once_by o (source_keys z o t) (made_of t lookups puts) d) its
      ∙ at_once_is (main_shape p) o outs main_is_shape (sources_tell p row main_is_shape) of d its is_d (source_rule p is row main_is_shape (λ r. lookups) are) (made_of t lookups puts)
      (λ x i. goes main lookups t (rowwise p row) puts x i) (λ r x j i. comes main lookups t (rowwise p row) puts r x j i)
      ∙ ap (λ es. set_all (record { schema = o; entries = fin.empty }) es) (same_answers (delta.entries_of d) key_fitting)
