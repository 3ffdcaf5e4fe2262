-- The rows that a plan makes fit its output.
use Rattle.std.specs.Prelude.{◌≡◌, ℕ, zero, suc, List, [], ◌∷◌, map, refl}
use Rattle.std.proofs.Common.{sym, inl, inr, subst}
use Rattle.std.specs.List.{AllByRecursion}
use Rattle.nova_value.specs.declared.schema.Entry.{Entry}
use Rattle.nova_value.specs.declared.schema.Entry.TheVariants.{Put, Removal}
use Rattle.nova_value.specs.Rows.{Shape, FitsRow, kinds}
use Rattle.nova_value.specs.Entries.{FitsEntry}
use Rattle.nova_delta.specs.Merge.{TableValue, DeltaValue, IsTable, IsDelta}
use Rattle.nova_delta.specs.Listed as delta
use Rattle.nova_delta.specs.Statements as tables
use Rattle.nova_pig_algebra.specs.Meaning.{Row}
use Rattle.nova_pig_algebra.specs.Plan.{Plan, IsPlan, tree_of_plan}
use Rattle.nova_pig_algebra.specs.Statements.{In}
use Rattle.nova_pig_algebra.specs.Statements.{AllFit, TablesFit, NodesFitTheirKinds}
use Rattle.nova_rowwise.specs.AtOnce.{put_rows}
use Rattle.nova_rowwise.specs.Derived.{main_of, with_main, with_main_schema, made_of}
use Rattle.nova_rowwise.specs.Fits.{Each}

pub each_of : {X : Type 0} (P : X → Type 0) (xs : List X) → ((x : X) → In x xs → P x) → Each P xs
each_of P [] h = tt
each_of P (x ∷ xs) h = (h x (inl refl), each_of P xs (λ y i. h y (inr i)))

pub all_fit : (s : Shape) (rows : List Row) → AllByRecursion (FitsRow s) rows → AllFit s rows
all_fit s [] all row i = absurd i
all_fit s (r ∷ rows) all row (inl e) = subst (FitsRow s) (sym e) all.0
all_fit s (r ∷ rows) all row (inr i) = all_fit s rows all.1 row i

puts_fit : (s : Shape) (es : List Entry) → AllByRecursion (FitsEntry s) es → AllFit s (put_rows es)
puts_fit s [] all row i = absurd i
puts_fit s (Put r ∷ es) all row (inl e) = subst (FitsRow s) (sym e) all.0
puts_fit s (Put r ∷ es) all row (inr i) = puts_fit s es all.1 row i
puts_fit s (Removal k ∷ es) all row i = puts_fit s es all.1 row i

with_main_fits : (main : ℕ) (ss : List Shape) (ts : List (List Row)) (s : Shape) (m : List Row) → TablesFit ss ts → AllFit s m → TablesFit (with_main_schema main ss s) (with_main main ts m)
with_main_fits zero ss ts s m fits fit = (fit, fits)
with_main_fits (suc k) [] [] s m fits fit = (λ row i. absurd i, with_main_fits k [] [] s m fits fit)
with_main_fits (suc k) [] (t ∷ ts) s m fits fit = absurd fits
with_main_fits (suc k) (x ∷ ss) [] s m fits fit = absurd fits
with_main_fits (suc k) (x ∷ ss) (t ∷ ts) s m fits fit = (fits.0, with_main_fits k ss ts s m fits.1 fit)

tables_fit : tables.RowsFit → (ts : List TableValue) → AllByRecursion IsTable ts → TablesFit (map (λ t. t.schema) ts) (map delta.rows_of ts)
tables_fit fit [] all = tt
tables_fit fit (t ∷ ts) all = (all_fit t.schema (delta.rows_of t) (fit t all.0), tables_fit fit ts all.1)

pub rows_fit : NodesFitTheirKinds → tables.RowsFit → tables.EntriesFit → (p : Plan) → IsPlan p → (ts : List TableValue) → AllByRecursion IsTable ts → (d : DeltaValue) → IsDelta d
    → with_main_schema (main_of (tree_of_plan p)) (map (λ t. t.schema) ts) d.schema ≡ p.inputs
    → Each (FitsRow p.output) (made_of (tree_of_plan p) (map delta.rows_of ts) (put_rows (delta.entries_of d)))
rows_fit nodes_fit rows_are entries_are p is ts all d is_d same =
    let given = with_main (main_of (tree_of_plan p)) (map delta.rows_of ts) (put_rows (delta.entries_of d)) in
    let fits : TablesFit p.inputs given = subst (λ ss. TablesFit ss given) same
    (with_main_fits (main_of (tree_of_plan p)) (map (λ t. t.schema) ts) (map delta.rows_of ts) d.schema (put_rows (delta.entries_of d)) (tables_fit rows_are ts all) (puts_fit d.schema (delta.entries_of d) (entries_are d is_d))) in
    each_of (FitsRow p.output) (made_of (tree_of_plan p) (map delta.rows_of ts) (put_rows (delta.entries_of d)))
    (λ row i. nodes_fit p is is.kinded.all is.kinded.nodes given fits p.stored (kinds p.output.columns) is.kinded.stored row i)
