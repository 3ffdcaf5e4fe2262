-- Merging and chaining tables and deltas, and deltas without their removals.
use Rattle.std.specs.Prelude.{◌≡◌, Bool, true, false, cond, List, Option, Some, None, is_some, refl}
use Rattle.std.proofs.Common.{ap, sym, ◌∙◌}
use Rattle.std.specs.FinMap.{get, keys, empty, get-empty, contains_key-keys}
use Rattle.nova_value.specs.declared.value.Value.{Value}
use Rattle.nova_value.specs.declared.schema.Entry.{Entry}
use Rattle.nova_value.specs.declared.schema.Entry.TheVariants.{Put, Removal}
use Rattle.nova_value.specs.Order.{key_cmp}
use Rattle.nova_value.specs.Orders.{keys_total, exact_keys}
use Rattle.nova_delta.specs.Merge.{RowMap, EntryMap, after, later, put_only, puts, merged, chained, TableValue, DeltaValue, merge_of, chain_of, no_change}
use Rattle.nova_delta.specs.ActionLaws.{get-tabulated_listed, get-merged, get-chained, same_rows, same_entries, merged-chained, chained-chained, merged-empty}

-- merging by a chain is merging twice
pub merge_chain : (m : TableValue) (a b : DeltaValue) → merge_of (merge_of m a) b ≡ merge_of m (chain_of a b)
merge_chain m a b = ap (λ (r : RowMap). record { schema = m.schema; rows = r }) (merged-chained m.rows a.entries b.entries)

-- chaining is associative
pub chain_chain : (a b c : DeltaValue) → chain_of (chain_of a b) c ≡ chain_of a (chain_of b c)
chain_chain a b c = ap (λ (e : EntryMap). record { schema = a.schema; entries = e }) (chained-chained a.entries b.entries c.entries)

-- it changes no table
pub merge_unit : (t : TableValue) → merge_of t (no_change t.schema) ≡ t
merge_unit t = ap (λ (r : RowMap). record { schema = t.schema; rows = r }) (merged-empty t.rows)

pub later_none : (o : Option Entry) → later o None ≡ o
later_none None = refl
later_none (Some e) = refl

-- nothing chained changes nothing, first or last
pub chained-empty_first : (d : EntryMap) → chained empty d ≡ d
chained-empty_first d = same_entries _ _ (λ k. get-chained empty d k ∙ ap (later (get d k)) (get-empty key_cmp k) ∙ later_none (get d k))

pub chained-empty : (d : EntryMap) → chained d empty ≡ d
chained-empty d = same_entries _ _ (λ k. get-chained d empty k ∙ ap (λ (o : Option Entry). later o (get d k)) (get-empty key_cmp k))

-- and no delta on either side of it
pub chain_units : (d : DeltaValue) → (chain_of (no_change d.schema) d ≡ d) × (chain_of d (no_change d.schema) ≡ d)
chain_units d = (ap (λ (e : EntryMap). record { schema = d.schema; entries = e }) (chained-empty_first d.entries), ap (λ (e : EntryMap). record { schema = d.schema; entries = e }) (chained-empty d.entries))

-- without its removals, at each key
put_or_none : (b : Bool) (o : Option Entry) → (b ≡ is_some o) → cond b (put_only o) None ≡ put_only o
put_or_none true o e = refl
put_or_none false None e = refl
put_or_none false (Some x) e = cc

-- what is left at each key
pub get-puts : (d : EntryMap) (q : List Value) → get (puts d) q ≡ put_only (get d q)
unfolding puts
get-puts d q = get-tabulated_listed exact_keys q (λ k. put_only (get d k)) keys_total (keys d) ∙ put_or_none _ (get d q) (sym (contains_key-keys d q))

put_only-after : (o : Option Entry) → after (put_only o) None ≡ after o None
put_only-after None = refl
put_only-after (Some (Put row)) = refl
put_only-after (Some (Removal key)) = refl

-- it makes the same rows of no rows
pub merged-puts : (d : EntryMap) → merged empty (puts d) ≡ merged empty d
merged-puts d = same_rows _ _ (λ k.
    get-merged empty (puts d) k
    ∙ ap (λ (o : Option Entry). after o (get {R = key_cmp} empty k)) (get-puts d k)
    ∙ ap (after (put_only (get d k))) (get-empty key_cmp k)
    ∙ put_only-after (get d k)
    ∙ sym (get-merged empty d k ∙ ap (after (get d k)) (get-empty key_cmp k)))
