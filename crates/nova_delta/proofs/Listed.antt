-- Lists of rows and entries that rise, and the tables and deltas that they are.
use Rattle.std.specs.Prelude.{◌≡◌, true, false, cond, T, List, [], ◌∷◌, map, Some, None, refl}
use Rattle.std.proofs.Common.{ap, sym, subst, ◌∙◌}
use Rattle.std.specs.declared.cmp.Ordering.{Ordering}
use Rattle.std.specs.Ordering.{eq_by_cmp, is_eq}
use Rattle.std.specs.Cmp.{IsTotalOrder}
use Rattle.std.specs.List.{AllByRecursion}
use Rattle.std.proofs.lemmas.Cmp.{tied_itself}
use Rattle.std.specs.FinMap as fin
use Rattle.std.specs.FinMap.{find, is_sorted, entries, entries_sorted, from_entries, from_sorted, same_map, get-entries, get-from_entries, get-from_sorted, entries-from_sorted}
use Rattle.std.specs.FinMap.Entries.{below_all}
use Rattle.nova_value.specs.declared.value.Value.{Value}
use Rattle.nova_value.specs.declared.schema.Entry.{Entry}
use Rattle.nova_value.specs.Order.{key_cmp}
use Rattle.nova_value.specs.Orders.{keys_total, exact_keys}
use Rattle.nova_value.specs.Rows.{Shape, FitsRow, key_at}
use Rattle.nova_value.specs.Entries.{FitsEntry, entry_key}
use Rattle.nova_delta.specs.Merge.{EntryMap, TableValue, DeltaValue, IsTable, IsDelta}
use Rattle.nova_delta.specs.Seen.{entry_map}
use Rattle.std.specs.Cmp.{Equal-is}
use Rattle.nova_delta.specs.Listed.{at_keys, rises, entries_of, delta_of, rows_of, rows_rise}
use Rattle.nova_delta.proofs.Conditions.{first, second, less}

second_of : {X : Type 0} (key : X → List Value) (xs : List X) → map (λ (p : List Value × X). p.1) (at_keys key xs) ≡ xs
second_of key [] = refl
second_of {X = X} key (x ∷ xs) = ap (λ (ys : List X). x ∷ ys) (second_of key xs)

sorted_entries : {K X : Type 0} {R : K → K → Ordering} → IsTotalOrder R → fin.IsAntisymmetric R → (es : List (K × X)) → T (is_sorted R es) → entries (from_entries {R = R} es) ≡ es
sorted_entries {R = R} o same es h = ap entries (same_map o same (from_entries es) (from_sorted es) (λ q. get-from_entries o es q ∙ sym (get-from_sorted R es q h))) ∙ entries-from_sorted R es h

-- a list that rises is the entries of its delta
pub entries_of-delta_of : (s : Shape) (es : List Entry) → T (rises s es) → entries_of (delta_of s es) ≡ es
entries_of-delta_of s es h = ap (map (λ (p : List Value × Entry). p.1)) (sorted_entries keys_total exact_keys (at_keys (entry_key s) es) h) ∙ second_of (entry_key s) es

past : {X : Type 0} (q k : List Value) (es : List (List Value × X)) → eq_by_cmp key_cmp q k ≡ true → T (below_all key_cmp k es) → find key_cmp q es ≡ None
past q k [] ties h = refl
past {X = X} q k (e ∷ es) ties h = ap (λ o. cond (is_eq o) (Some e.1) (find key_cmp q es)) (keys_total.congr q k e.0 ((Equal-is _).0 ties) ∙ less _ (first _ _ h)) ∙ past {X = X} q k es ties (second _ _ h)

-- in a list in order, what holds of each entry that is found holds of each entry
each_of : {X : Type 0} (key : X → List Value) (es : List (List Value × X)) → T (is_sorted key_cmp es) → ((k : List Value) (x : X) → find key_cmp k es ≡ Some x → key x ≡ k) → at_keys key (map (λ (p : List Value × X). p.1) es) ≡ es
each_of key [] h found = refl
each_of {X = X} key (e ∷ es) h found =
    let here : key e.1 ≡ e.0 = found e.0 e.1 (ap (λ o. cond (is_eq o) (Some e.1) (find key_cmp e.0 es)) (tied_itself keys_total e.0)) in
    let rest : at_keys key (map (λ (p : List Value × X). p.1) es) ≡ es = each_of key es (second _ _ h) (λ k f is.
    elim (eq_by_cmp key_cmp k e.0) as (λ b. eq_by_cmp key_cmp k e.0 ≡ b → key f ≡ k) [
      | true ↦ λ ties. let none : find key_cmp k es ≡ None = past {X = X} k e.0 es ties (first _ _ h) in let no : None ≡ Some f = sym none ∙ is in cc
      | false ↦ λ apart. found k f (ap (λ b. cond b (Some e.1) (find key_cmp k es)) apart ∙ is)
    ] refl) in
    λ i. (here i, e.1) ∷ rest i

-- and what holds of each that is found holds of all
all_of : {X : Type 0} (P : X → Type 0) (es : List (List Value × X)) → T (is_sorted key_cmp es) → ((k : List Value) (x : X) → find key_cmp k es ≡ Some x → P x) → AllByRecursion P (map (λ (p : List Value × X). p.1) es)
all_of P [] h found = tt
all_of {X = X} P (e ∷ es) h found = (
  found e.0 e.1 (ap (λ o. cond (is_eq o) (Some e.1) (find key_cmp e.0 es)) (tied_itself keys_total e.0)),
  all_of P es (second _ _ h) (λ k x is.
      elim (eq_by_cmp key_cmp k e.0) as (λ b. eq_by_cmp key_cmp k e.0 ≡ b → P x) [
        | true ↦ λ ties. let none : find key_cmp k es ≡ None = past {X = X} k e.0 es ties (first _ _ h) in let no : None ≡ Some x = sym none ∙ is in absurd cc
        | false ↦ λ apart. found k x (ap (λ b. cond b (Some e.1) (find key_cmp k es)) apart ∙ is)
      ] refl),
)

-- each row of a table fits, and each entry of a delta
pub rows_fit : (t : TableValue) → IsTable t → AllByRecursion (FitsRow t.schema) (rows_of t)
rows_fit t is = all_of (FitsRow t.schema) (entries t.rows) (entries_sorted t.rows) (λ k r got. (is.each k r (get-entries t.rows k ∙ got)).0)

pub entries_fit : (d : DeltaValue) → IsDelta d → AllByRecursion (FitsEntry d.schema) (entries_of d)
entries_fit d is = all_of (FitsEntry d.schema) (entries d.entries) (entries_sorted d.entries) (λ k e got. (is.each k e (get-entries d.entries k ∙ got)).0)

at_keys-entries : (d : DeltaValue) → IsDelta d → at_keys (entry_key d.schema) (entries_of d) ≡ entries d.entries
at_keys-entries d is = each_of (entry_key d.schema) (entries d.entries) (entries_sorted d.entries) (λ k e got. (is.each k e (get-entries d.entries k ∙ got)).1)

at_keys-rows : (t : TableValue) → IsTable t → at_keys (key_at t.schema.key) (rows_of t) ≡ entries t.rows
at_keys-rows t is = each_of (key_at t.schema.key) (entries t.rows) (entries_sorted t.rows) (λ k r got. (is.each k r (get-entries t.rows k ∙ got)).1)

-- the entries of a delta rise, and the rows of a table
pub rises-entries_of : (d : DeltaValue) → IsDelta d → T (rises d.schema (entries_of d))
rises-entries_of d is = subst (λ (es : List (List Value × Entry)). T (is_sorted key_cmp es)) (sym (at_keys-entries d is)) (entries_sorted d.entries)

pub rows_rise-rows_of : (t : TableValue) → IsTable t → T (rows_rise t.schema (rows_of t))
rows_rise-rows_of t is = subst (λ (es : List (List Value × List Value)). T (is_sorted key_cmp es)) (sym (at_keys-rows t is)) (entries_sorted t.rows)

-- a delta is the delta of its entries
pub delta_of-entries_of : (d : DeltaValue) → IsDelta d → delta_of d.schema (entries_of d) ≡ d
delta_of-entries_of d is =
    ap (λ (m : EntryMap). record { schema = d.schema; entries = m })
    (ap entry_map (at_keys-entries d is) ∙ same_map keys_total exact_keys _ _ (λ q. get-from_entries keys_total (entries d.entries) q ∙ sym (get-entries d.entries q)))

-- deltas of one schema with the same entries are one
pub same_entries_of : (c d : DeltaValue) → IsDelta c → IsDelta d → c.schema ≡ d.schema → entries_of c ≡ entries_of d → c ≡ d
same_entries_of c d is_c is_d one same =
    sym (delta_of-entries_of c is_c)
    ∙ ap (λ (s : Shape). delta_of s (entries_of c)) one ∙ ap (delta_of d.schema) same
    ∙ delta_of-entries_of d is_d
