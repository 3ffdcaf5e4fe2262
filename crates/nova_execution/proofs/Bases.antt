-- The block of a table that is written anew.
use Rattle.std.proofs.Common.{◌≡◌, T, List, [], ◌∷◌, map, Option, Some, None, refl, ap, sym, ◌∙◌, subst}
use Rattle.std.specs.List.{AllByRecursion, filter_map}
use Rattle.std.specs.Option.{option_and_then}
use Rattle.std.specs.FinMap.{empty, get, get-empty}
use Rattle.nova_value.specs.declared.value.Value.{Value}
use Rattle.nova_value.specs.declared.schema.Entry.{Entry}
use Rattle.nova_value.specs.declared.schema.Entry.TheVariants.{Put}
use Rattle.nova_value.specs.Order.{key_cmp}
use Rattle.nova_value.specs.Orders.{keys_total}
use Rattle.nova_value.specs.Entries.{FitsEntry, entry_key}
use Rattle.nova_delta.specs.Merge.{IsDelta, IsTable, RowMap, TableValue, after, merged, put_only, puts}
use Rattle.nova_delta.specs.Listed.{delta_of, entries_of, rises, rows_of}
use Rattle.nova_delta.specs.ActionLaws.{get-merged, same_entries, same_rows}
use Rattle.nova_delta.proofs.Listed.{delta_of-entries_of, entries_fit, rises-entries_of}
use Rattle.nova_delta.proofs.Mapped.{get-mapped, values-mapped}
use Rattle.nova_delta.proofs.Merging.{get-puts}
use Rattle.nova_execution.specs.Base.{base_of, puts_of, some_put}

at_key : (rows : RowMap) (q : List Value) → get (puts_of rows) q ≡ option_and_then some_put (get rows q)
at_key rows q = get-mapped key_cmp some_put keys_total rows q

all_put : (rows : List (List Value)) → filter_map some_put rows ≡ map Put rows
all_put [] = refl
all_put (r ∷ rs) = ap (λ (es : List Entry). Put r ∷ es) (all_put rs)

-- it puts the table's rows, in their order
pub their_puts : (t : TableValue) → entries_of (base_of t) ≡ map Put (rows_of t)
their_puts t = values-mapped key_cmp some_put t.rows ∙ all_put (rows_of t)

some_row : (x y : Entry) → Some x ≡ Some y → x ≡ y
some_row x y e = cc

-- it is a delta
pub is_delta : (t : TableValue) → IsTable t → IsDelta (base_of t)
is_delta t is = record { each = λ k e found. one k e (get t.rows k) refl (sym (at_key t.rows k) ∙ found) }
  where
    one : (k : List Value) (e : Entry) (o : Option (List Value)) → get t.rows k ≡ o → option_and_then some_put o ≡ Some e → FitsEntry t.schema e × (entry_key t.schema e ≡ k)
    one k e None at found = absurd (cc)
    one k e (Some row) at found = subst (λ (x : Entry). FitsEntry t.schema x × (entry_key t.schema x ≡ k)) (some_row (Put row) e found) (is.each k row at)

pub puts_fit : (t : TableValue) → IsTable t → AllByRecursion (FitsEntry t.schema) (map Put (rows_of t))
puts_fit t is = subst (AllByRecursion (FitsEntry t.schema)) (their_puts t) (entries_fit (base_of t) (is_delta t is))

pub puts_rise : (t : TableValue) → IsTable t → T (rises t.schema (map Put (rows_of t)))
puts_rise t is = subst (λ (es : List Entry). T (rises t.schema es)) (their_puts t) (rises-entries_of (base_of t) (is_delta t is))

pub is_base : (t : TableValue) → IsTable t → delta_of t.schema (map Put (rows_of t)) ≡ base_of t
is_base t is = ap (delta_of t.schema) (sym (their_puts t)) ∙ delta_of-entries_of (base_of t) (is_delta t is)

-- it leads from no rows to the table's
after_put : (o : Option (List Value)) → after (option_and_then some_put o) None ≡ o
after_put None = refl
after_put (Some row) = refl

pub leads : (rows : RowMap) → rows ≡ merged empty (puts_of rows)
leads rows = sym (same_rows _ _ (λ q.
    get-merged empty (puts_of rows) q
    ∙ ap (after (get (puts_of rows) q)) (get-empty key_cmp q)
    ∙ ap (λ (o : Option Entry). after o None) (at_key rows q)
    ∙ after_put (get rows q)))

-- and has no removals
only_put : (o : Option (List Value)) → put_only (option_and_then some_put o) ≡ option_and_then some_put o
only_put None = refl
only_put (Some row) = refl

pub no_removals : (rows : RowMap) → puts (puts_of rows) ≡ puts_of rows
no_removals rows = same_entries _ _ (λ q.
    get-puts (puts_of rows) q ∙ ap put_only (at_key rows q) ∙ only_put (get rows q) ∙ sym (at_key rows q))
