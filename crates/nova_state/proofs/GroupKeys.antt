-- The output keys of groups, by the BY values.
use Rattle.std.specs.Prelude.{◌≡◌, ℕ, List, [], ◌∷◌, ◌++◌, map, Option, Some, None, refl}
use Rattle.std.proofs.Common.{ap, sym, ◌∙◌}
use Rattle.std.specs.List.{cons_option}
use Rattle.std.specs.List.Sorted.{IsStrictlySortedBy}
use Rattle.std.specs.FinMap.{get}
use Rattle.nova_value.specs.declared.schema.Entry.{Entry}
use Rattle.nova_value.specs.Orders.{keys_total, exact_keys}
use Rattle.nova_value.specs.Rows.{key_at}
use Rattle.nova_delta.specs.Merge.{RowMap}
use Rattle.nova_delta.proofs.OrderedMap.{entries-seen}
use Rattle.nova_pig_algebra.specs.Meaning.{Row, made, no_calls, calls_over}
use Rattle.nova_pig_algebra.specs.Tree.{Tree, Nothing, Load, Filter, Foreach, Grouped, Join, Union, Distinct, rows, rising, members}
use Rattle.nova_pig_algebra.specs.Plan.{Plan, tree_of_plan}
use Rattle.nova_pig_pattern.specs.OutputKeys.{all_groups, group_keys}
use Rattle.nova_pig_pattern.specs.Shapes.{IsChain, IsGrouped}
use Rattle.nova_pig_rows.specs.ChainRows.{chain_row}
use Rattle.nova_admit.specs.Shaped.{IsGroupPlan}
use Rattle.nova_groups.specs.State.{row_put}
use Rattle.nova_state.specs.Plan.{parts, or_nothing, rule_of, out_key}
use Rattle.nova_state.specs.Rule.{bys, touched}
use Rattle.nova_state.specs.Advance.{row_list, written}
use Rattle.nova_state.proofs.ByPlaces.{whole_row, whole_key}
use Rattle.nova_state.proofs.Tables.{chains_map}

map-map : {A B C : Type 0} (f : B → C) (g : A → B) (xs : List A) → map f (map g xs) ≡ map (λ x. f (g x)) xs
map-map f g [] = refl
map-map {C = C} f g (x ∷ xs) = ap (λ (ys : List C). f (g x) ∷ ys) (map-map f g xs)

map-each : {A B : Type 0} (f g : A → B) → ((x : A) → f x ≡ g x) → (xs : List A) → map f xs ≡ map g xs
map-each f g h [] = refl
map-each f g h (x ∷ xs) = λ i. h x i ∷ map-each f g h xs i

map-both : {A B : Type 0} (f : A → B) (xs ys : List A) → map f (xs ++ ys) ≡ map f xs ++ map f ys
map-both f [] ys = refl
map-both {B = B} f (x ∷ xs) ys = ap (λ (zs : List B). f x ∷ zs) (map-both f xs ys)

-- ---- lists of one
abbrev keys_in : List (Row × Row) → List Row
keys_in es = map (λ (e : Row × Row). e.0) es

rising_none : rising [] ≡ []
unfolding IsStrictlySortedBy
rising_none = ap keys_in (entries-seen keys_total exact_keys [] tt)

rising_one : (by : Row) → rising (by ∷ []) ≡ by ∷ []
unfolding IsStrictlySortedBy
rising_one by = ap keys_in (entries-seen keys_total exact_keys ((by, by) ∷ []) (tt, tt))

-- ---- the rows of all groups
abbrev Source : Tree → Tree
Source t = (or_nothing (parts t)).source

abbrev Columns : Tree → List ℕ
Columns t = (or_nothing (parts t)).columns

source_chain : (t : Tree) → IsGrouped 0 t → IsChain 0 (Source t)
source_chain (Grouped from columns items) is = is
source_chain (Filter from c) is = source_chain from is
source_chain (Foreach from items) is = source_chain from is
source_chain Nothing is = absurd is
source_chain (Load input) is = absurd is
source_chain (Join left left_by right right_by) is = absurd is
source_chain (Union arms) is = absurd is
source_chain (Distinct from) is = absurd is

abbrev Whole : Tree → List Row → Row → Row
Whole t source by = whole_row t by (calls_over (members (Columns t) source by))

rows_all : (t : Tree) → IsGrouped 0 t → (tables : List (List Row)) → rows (all_groups t) tables ≡ map (Whole t (rows (Source t) tables)) (rising (map (key_at (Columns t)) (rows (Source t) tables)))
rows_all (Grouped from columns items) is tables = refl
rows_all (Filter from c) is tables = rows_all from is tables
rows_all (Foreach from items) is tables =
    ap (map (λ row. made items row no_calls)) (rows_all from is tables)
    ∙ map-map (λ row. made items row no_calls) (Whole from (rows (Source from) tables)) (rising (map (key_at (Columns from)) (rows (Source from) tables)))
rows_all Nothing is tables = absurd is
rows_all (Load input) is tables = absurd is
rows_all (Join left left_by right right_by) is tables = absurd is
rows_all (Union arms) is tables = absurd is
rows_all (Distinct from) is tables = absurd is

-- the one group of a row that the chain lets pass
pub rows_of_one : (t : Tree) → IsGrouped 0 t → (row r : Row) → chain_row (Source t) row ≡ Some r → rows (all_groups t) ((row ∷ []) ∷ []) ≡ Whole t (r ∷ []) (key_at (Columns t) r) ∷ []
rows_of_one t is row r e =
    let one : rows (Source t) ((row ∷ []) ∷ []) ≡ r ∷ [] = chains_map 0 (Source t) (source_chain t is) ((row ∷ []) ∷ []) ∙ ap (λ (o : Option Row). cons_option o []) e in
    rows_all t is ((row ∷ []) ∷ [])
    ∙ ap (λ (source : List Row). map (Whole t source) (rising (map (key_at (Columns t)) source))) one
    ∙ ap (map (Whole t (r ∷ []))) (rising_one (key_at (Columns t) r))

rows_of_none : (t : Tree) → IsGrouped 0 t → (m : List Row) → rows (Source t) (m ∷ []) ≡ [] → rows (all_groups t) (m ∷ []) ≡ []
rows_of_none t is m e =
    rows_all t is (m ∷ [])
    ∙ ap (λ (source : List Row). map (Whole t source) (rising (map (key_at (Columns t)) source))) e
    ∙ ap (map (Whole t [])) rising_none

-- ---- output keys
pub keys_of_row : (p : Plan) → IsGroupPlan p → (o : Option Row) → group_keys p (row_list o) ≡ map (out_key p) (bys (rule_of p) o)
unfolding rule_of
keys_of_row p is None =
    let t = tree_of_plan p in
    ap (map (key_at p.output.key)) (rows_of_none t is.shape [] (chains_map 0 (Source t) (source_chain t is.shape) ([] ∷ [])))
keys_of_row p is (Some row) = go (chain_row (Source (tree_of_plan p)) row) refl
  where
    t : Tree
    t = tree_of_plan p

    go : (o : Option Row) → chain_row (Source t) row ≡ o → group_keys p (row ∷ []) ≡ map (out_key p) (elim o as (λ _. List Row) [ None ↦ [] | Some r ↦ key_at (Columns t) r ∷ [] ])
    go None e = ap (map (key_at p.output.key)) (rows_of_none t is.shape (row ∷ []) (chains_map 0 (Source t) (source_chain t is.shape) ((row ∷ []) ∷ []) ∙ ap (λ (o : Option Row). cons_option o []) e))
    go (Some r) e =
        ap (map (key_at p.output.key)) (rows_of_one t is.shape row r e)
        ∙ ap (λ (k : Row). k ∷ []) (whole_key p is (key_at (Columns t) r) (calls_over (members (Columns t) (r ∷ []) (key_at (Columns t) r))))

pub keys_written : (p : Plan) → IsGroupPlan p → (m : RowMap) (es : List (Row × Entry)) → written p m es ≡ map (out_key p) (touched (rule_of p) m es)
keys_written p is m [] = refl
keys_written p is m (e ∷ es) =
    let old = keys_of_row p is (get m e.0) in
    let new = keys_of_row p is (row_put e.1) in
    let first : List Row = bys (rule_of p) (get m e.0) in
    let second : List Row = bys (rule_of p) (row_put e.1) in
    let rest = keys_written p is m es in
    (λ i. (old i ++ new i) ++ rest i)
    ∙ sym (map-both (out_key p) (first ++ second) (touched (rule_of p) m es) ∙ ap (λ (ks : List Row). ks ++ map (out_key p) (touched (rule_of p) m es)) (map-both (out_key p) first second))
