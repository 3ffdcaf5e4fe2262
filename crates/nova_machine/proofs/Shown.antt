-- A session that shows rows.
use Rattle.std.proofs.Common.{◌≡◌, Bool, true, false, cond, pos, List, [], ◌∷◌, ◌++◌, length, map, Some, None, refl, ap, sym, ◌∙◌}
use Rattle.std.specs.Prelude.{codes}
use Rattle.std.specs.Fmt.{digits}
use Rattle.std.specs.List.{flat_map}
use Rattle.std.specs.Ordering.{eq_by_cmp}
use Rattle.std.specs.FinMap as fin
use Rattle.nova_value.specs.declared.value.Value.{Value}
use Rattle.nova_value.specs.declared.value.Value.TheVariants.{Long}
use Rattle.nova_value.specs.declared.schema.Entry.TheVariants.{Put}
use Rattle.nova_value.specs.Line.{row_of_text, fields_of, values_of}
use Rattle.nova_value.specs.Order.{key_cmp}
use Rattle.nova_value.specs.Orders.{keys_total, same_keys}
use Rattle.nova_value.specs.RowLine.{row_line}
use Rattle.nova_delta.specs.Merge.{RowMap, EntryMap, merged, after}
use Rattle.nova_delta.specs.ActionLaws.{get-merged, same_rows}
use Rattle.nova_script.specs.Replies as line
use Rattle.nova_machine.specs.Sessions.{ShownRows}

abbrev one : List Value
one = Long (pos 1) ∷ []

abbrev two : List Value
two = Long (pos 2) ∷ []

abbrev first : List Value
first = Long (pos 1) ∷ Long (pos 5) ∷ []

abbrev early : List Value
early = Long (pos 2) ∷ Long (pos 7) ∷ []

abbrev late : List Value
late = Long (pos 2) ∷ Long (pos 8) ∷ []

abbrev loaded : EntryMap
loaded = fin.insert (fin.insert (fin.insert fin.empty two (Put early)) one (Put first)) two (Put late)

abbrev table : RowMap
table = merged fin.empty loaded

abbrev rows : List (List Value × List Value)
rows = (one, first) ∷ (two, late) ∷ []

at_key : (a b : Bool) → (a ≡ true → b ≡ true → ⊥) → after (cond b (Some (Put late)) (cond a (Some (Put first)) (cond b (Some (Put early)) None))) None ≡ cond a (Some first) (cond b (Some late) None)
at_key true true apart = absurd (apart refl refl)
at_key true false apart = refl
at_key false true apart = refl
at_key false false apart = refl

apart : (q : List Value) → eq_by_cmp key_cmp q one ≡ true → eq_by_cmp key_cmp q two ≡ true → ⊥
apart q e f =
    let same : one ≡ two = sym ((same_keys q one).0 e) ∙ (same_keys q two).0 f in
    let never : true ≡ false = ap (λ (ks : List Value). eq_by_cmp key_cmp ks one) same in
    cc

entries_are : fin.entries table ≡ rows
entries_are =
    ap fin.entries (same_rows table (fin.from_sorted rows) (λ q.
    get-merged fin.empty loaded q
    ∙ (λ z. after (got q z) (fin.get-empty key_cmp q z))
    ∙ at_key (eq_by_cmp key_cmp q one) (eq_by_cmp key_cmp q two) (apart q)
    ∙ sym (fin.get-from_sorted key_cmp rows q tt)))
    ∙ fin.entries-from_sorted key_cmp rows tt
  where
    got : (q : List Value) → fin.get loaded q ≡ cond (eq_by_cmp key_cmp q two) (Some (Put late)) (cond (eq_by_cmp key_cmp q one) (Some (Put first)) (cond (eq_by_cmp key_cmp q two) (Some (Put early)) None))
    got q =
        fin.get-insert keys_total (fin.insert (fin.insert fin.empty two (Put early)) one (Put first)) two (Put late) q
        ∙ ap (cond (eq_by_cmp key_cmp q two) (Some (Put late)))
        (fin.get-insert keys_total (fin.insert fin.empty two (Put early)) one (Put first) q
        ∙ ap (cond (eq_by_cmp key_cmp q one) (Some (Put first)))
        (fin.get-insert keys_total fin.empty two (Put early) q ∙ ap (cond (eq_by_cmp key_cmp q two) (Some (Put early))) (fin.get-empty key_cmp q)))

count_is : fin.len table ≡ 2
count_is = fin.len-entries table ∙ ap length entries_are

pub shown_rows : ShownRows
unfolding digits row_of_text fields_of values_of
shown_rows z = codes "loaded numbers 1\n" ++ ((flat_map row_line (map (λ (e : List Value × List Value). e.1) (entries_are z)) ++ line.shown (codes "numbers") 1 (count_is z)) ++ [])
