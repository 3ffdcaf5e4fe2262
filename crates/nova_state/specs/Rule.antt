-- A grouping plan, what it makes of a whole table, and the delta of its changes.
use Rattle.std.specs.Prelude.{◌≡◌, ℕ, pos, Bool, true, false, cond, if◌then◌else◌, List, [], ◌∷◌, ◌++◌, map, filter, flat_map, Option, Some, None}
use Rattle.std.specs.List.{filter_map, list_any}
use Rattle.std.specs.FinMap.{get, keys, values, entries, from_entries}
use Rattle.nova_value.specs.declared.value.Value.{Value}
use Rattle.nova_value.specs.declared.value.Value.TheVariants.{Long}
use Rattle.nova_value.specs.declared.schema.Entry.{Entry}
use Rattle.nova_value.specs.declared.schema.Entry.TheVariants.{Put, Removal}
use Rattle.nova_value.specs.Rows.{value_at, key_at}
use Rattle.nova_delta.specs.Merge.{RowMap, EntryMap, merged}
use Rattle.nova_pig_tree.specs.declared.expression.CallKind.{CallKind}
use Rattle.nova_pig_tree.specs.declared.expression.CallKind.TheVariants as call
use Rattle.nova_pig_algebra.specs.Meaning.{Row, Call, Calls, same_row, calls_over, least, greatest}
use Rattle.nova_pig_algebra.specs.Tree.{rising, members}
use Rattle.nova_pig_rows.specs.Outcomes.{Out, same_call, look}
use Rattle.nova_groups.specs.declared.item.Item.{Item}
use Rattle.nova_groups.specs.declared.item.Item.TheVariants.{Total, Counts}
use Rattle.nova_groups.specs.declared.group.Share.{Share}
use Rattle.nova_groups.specs.Kinds.{Group}
use Rattle.nova_value.specs.Wrapped.{wrapped}
use Rattle.nova_groups.specs.State.{GroupMap, and_then, total, row_put}

-- a plan over groups: the row chain before GROUP, the BY columns, the calls, each once, and the one row or none that the items and the chain behind make of the BY values and what the calls give
pub record GroupRule : Type 0 where
  pub chain : Row → Option Row
  pub columns : List ℕ
  pub calls : List Call
  pub finish : Row → Calls → Option Row

-- ---- over whole lists of rows
-- the row of a group with these members
abbrev pub row_of : GroupRule → Row → List Row → Option Row
row_of p by ms = p.finish by (calls_over ms)

-- a row per distinct list of BY values, in the order of these lists, as far as one is left
abbrev pub grouped : GroupRule → List Row → List Row
grouped p rows = filter_map (λ by. row_of p by (members p.columns rows by)) (rising (map (key_at p.columns) rows))

-- the rows that the plan makes of a table
abbrev pub rows_made : GroupRule → RowMap → List Row
rows_made p m = grouped p (filter_map p.chain (values m))

-- ---- changes
-- the BY values of a row's group, if it passes the chain
abbrev pub bys : GroupRule → Option Row → List Row
bys p o = elim (and_then o p.chain) as (λ _. List Row) [ None ↦ [] | Some row ↦ key_at p.columns row ∷ [] ]

-- the old and the new group of each key
abbrev pub touched : GroupRule → RowMap → List (Row × Entry) → List Row
touched p m es = flat_map (λ e. bys p (get m e.0) ++ bys p (row_put e.1)) es

abbrev pub entry_of : Row → Option Row → Entry
entry_of key None = Removal key
entry_of key (Some row) = Put row

-- the group's row, where it has members
abbrev pub row_at : GroupRule → RowMap → Row → Option Row
row_at p m by =
    let rows : List Row = filter_map p.chain (values m) in
    cond (list_any (same_row by) (map (key_at p.columns) rows)) (row_of p by (members p.columns rows by)) None

-- for each of these groups its new row, or a removal
unfoldable pub changes : GroupRule → (Row → Row) → RowMap → EntryMap → EntryMap
changes p key_of m d = from_entries (map (λ by. (key_of by, entry_of (key_of by) (row_at p (merged m d) by))) (touched p m (entries d)))

-- ---- what is kept
-- SUM, MIN and MAX: the number of members gives COUNT
abbrev pub is_kept_kind : CallKind → Bool
is_kept_kind call.Count = false
is_kept_kind call.Sum = true
is_kept_kind call.Min = true
is_kept_kind call.Max = true

abbrev pub is_kept : Call → Bool
is_kept c = is_kept_kind c.kind

abbrev pub kept : List Call → List Call
kept cs = filter is_kept cs

abbrev pub kepts : GroupRule → List CallKind
kepts p = map (λ c. c.kind) (kept p.calls)

-- the argument that a call has of a row
abbrev pub argument_at : Option ℕ → Row → Value
argument_at None row = Long (pos 0)
argument_at (Some k) row = value_at row k

abbrev pub argument : Call → Row → Value
argument c row = argument_at c.column row

abbrev pub arguments : List Call → Row → List Value
arguments cs row = map (λ c. argument c row) cs

-- what a row that passed the chain gives
abbrev pub share_from : GroupRule → Row → Share
share_from p row = record { by = key_at p.columns row; args = arguments (kept p.calls) row }

abbrev pub passed : GroupRule → Option Row → Option Share
passed p None = None
passed p (Some row) = Some (share_from p row)

abbrev pub share_of : GroupRule → Row → Option Share
share_of p row = passed p (p.chain row)

-- ---- from the state
abbrev pub aggregate : CallKind → List Value → Value
aggregate call.Count vs = Long (wrapped (total vs))
aggregate call.Sum vs = Long (wrapped (total vs))
aggregate call.Min vs = least vs
aggregate call.Max vs = greatest vs

abbrev pub call_value : CallKind → Item → Value
call_value call.Count (Total n) = Long n
call_value call.Sum (Total n) = Long n
call_value call.Min (Counts m) = least (keys m)
call_value call.Max (Counts m) = greatest (keys m)
call_value _ _ = Long (pos 0)

-- the first item, and those behind it
abbrev pub first_item : List Item → Item
first_item [] = Total (pos 0)
first_item (i ∷ is) = i

abbrev pub later_items : List Item → List Item
later_items [] = []
later_items (i ∷ is) = is

-- what the calls give of a group
abbrev pub outcomes : List Call → ℕ → List Item → List Out
outcomes [] n is = []
outcomes (c ∷ cs) n is =
    if is_kept c then (c, call_value c.kind (first_item is)) ∷ outcomes cs n (later_items is)
    else (c, Long (wrapped (pos n))) ∷ outcomes cs n is

abbrev pub calls_from : GroupRule → Group → Calls
calls_from p g = look (outcomes p.calls g.members g.items)

-- the row of a group that the state has
abbrev pub row_from : GroupRule → Row → Group → Option Row
row_from p by g = p.finish by (calls_from p g)

-- what a state answers for these groups
abbrev pub answers : GroupRule → (Row → Row) → GroupMap → List Row → EntryMap
answers p key_of gs by_lists = from_entries (map (λ by. (key_of by, entry_of (key_of by) (and_then (get gs by) (row_from p by)))) by_lists)

-- ---- a rule's laws
-- what is finished depends on the calls alone
abbrev pub Depends : GroupRule → Type 0
Depends p = (by : Row) (f g : Calls) → ((c : Call) → list_any (λ d. same_call d c) p.calls ≡ true → f c ≡ g c) → p.finish by f ≡ p.finish by g
