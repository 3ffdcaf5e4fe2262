-- The state of a grouping task, as a function of its whole table.
use Rattle.std.specs.Prelude.{ℕ, zero, suc, ◌+◌, ◌-◌, ◌^◌, min, ℤ, pos, ◌+ℤ◌, ◌-ℤ◌, Bool, true, false, cond, List, [], ◌∷◌, ◌++◌, map, filter, length, Option, Some, None}
use Rattle.std.specs.List.{filter_map}
use Rattle.nova_value.specs.Wrapped.{wrapped}
use Rattle.std.specs.Ordering.{eq_by_cmp}
use Rattle.std.specs.FinMap.{FinMap, get, keys, values, insert, remove}
use Rattle.nova_value.specs.declared.value.Value.{Value}
use Rattle.nova_value.specs.declared.value.Value.TheVariants.{Long}
use Rattle.nova_value.specs.declared.schema.Entry.{Entry}
use Rattle.nova_value.specs.declared.schema.Entry.TheVariants.{Put, Removal}
use Rattle.nova_value.specs.Order.{value_cmp, key_cmp}
use Rattle.nova_delta.specs.Tabulated.{tabulated}
use Rattle.nova_groups.specs.Numbers.{CountMap}
use Rattle.nova_groups.specs.Kinds.{Group}
use Rattle.nova_groups.specs.declared.group.Share.{Share}
use Rattle.nova_pig_tree.specs.declared.expression.CallKind.{CallKind}
use Rattle.nova_pig_tree.specs.declared.expression.CallKind.TheVariants as call
use Rattle.std.specs.Option.{option_and_then}
use Rattle.nova_pig_algebra.specs.Meaning as meaning
use Rattle.nova_groups.specs.declared.item.Item.{Item}
use Rattle.nova_groups.specs.declared.item.Item.TheVariants.{Total, Counts}
use Rattle.nova_delta.specs.Merge.{RowMap}

abbrev pub ShareMap : Type 0
ShareMap = FinMap key_cmp Share

abbrev pub GroupMap : Type 0
GroupMap = FinMap key_cmp Group

pub record StateValue : Type 0 where
  pub shares : ShareMap
  pub groups : GroupMap

abbrev pub and_then : {X Y : Type 0} → Option X → (X → Option Y) → Option Y
and_then o f = option_and_then f o

abbrev pub long_of : Value → ℤ
long_of = meaning.long_of

abbrev pub total : List Value → ℤ
total vs = meaning.total (map long_of vs)

-- the first value, and those after it
abbrev pub head : List Value → Value
head [] = Long (pos 0)
head (v ∷ vs) = v

abbrev pub rest : List Value → List Value
rest [] = []
rest (v ∷ vs) = vs

abbrev pub positive : ℕ → Option ℕ
positive zero = None
positive (suc n) = Some (suc n)

-- how often a value stands in a list
abbrev pub number : Value → List Value → ℕ
number v [] = 0
number v (w ∷ ws) = cond (eq_by_cmp value_cmp v w) 1 0 + number v ws

unfoldable pub counted : List Value → CountMap
counted vs = tabulated vs (λ v. positive (number v vs))

-- one kept aggregate over the arguments of all members; none is a COUNT, which the number of members gives
abbrev pub item : CallKind → List Value → Item
item call.Count vs = Total (wrapped (total vs))
item call.Sum vs = Total (wrapped (total vs))
item call.Min vs = Counts (counted vs)
item call.Max vs = Counts (counted vs)

-- all of them, where each member has one argument for each
abbrev pub items : List CallKind → List (List Value) → List Item
items [] argss = []
items (k ∷ ks) argss = item k (map head argss) ∷ items ks (map rest argss)

-- a group of these members
abbrev pub tally : List CallKind → List Share → Group
tally ks ms = record { members = length ms; items = items ks (map (λ s. s.args) ms) }

-- a group without members is none
abbrev pub shown : Group → Option Group
shown g = elim g.members as (λ _. Option Group) [ zero ↦ None | suc n ↦ Some g ]

-- the shares of one group
abbrev pub of_group : List Value → List Share → List Share
of_group by shares = filter (λ s. eq_by_cmp key_cmp by s.by) shares

-- a group for each distinct list of BY values
unfoldable pub groups : List CallKind → List Share → GroupMap
groups ks shares = tabulated (map (λ s. s.by) shares) (λ by. shown (tally ks (of_group by shares)))

module _ (share : List Value → Option Share) where
  -- what all rows give, in the order of their keys
  abbrev pub shares_of : RowMap → List Share
  shares_of rows = filter_map share (values rows)

  unfoldable pub share_map : RowMap → ShareMap
  share_map rows = tabulated (keys rows) (λ k. and_then (get rows k) share)

  abbrev pub state_of : List CallKind → RowMap → StateValue
  state_of ks rows = record { shares = share_map rows; groups = groups ks (shares_of rows) }

-- ---- one key at a time
-- one more, up to the end of the type
abbrev pub up : ℕ → ℕ
up n = min (n + 1) (2 ^ 64 - 1)

abbrev pub or_zero : Option ℕ → ℕ
or_zero None = 0
or_zero (Some n) = n

-- a number at a value, where 0 is none
abbrev pub put_count : CountMap → Value → ℕ → CountMap
put_count m v zero = remove m v
put_count m v (suc n) = insert m v (suc n)

abbrev pub more : Item → Value → Item
more (Total n) v = Total (wrapped (n +ℤ long_of v))
more (Counts m) v = Counts (put_count m v (up (or_zero (get m v))))

abbrev pub fewer : Item → Value → Item
fewer (Total n) v = Total (wrapped (n -ℤ long_of v))
fewer (Counts m) v = Counts (put_count m v (or_zero (get m v) - 1))

abbrev pub each : (Item → Value → Item) → List Item → List Value → List Item
each f [] args = []
each f (i ∷ is) args = f i (head args) ∷ each f is (rest args)

abbrev pub joined : Group → List Value → Group
joined g args = record { members = up g.members; items = each more g.items args }

abbrev pub left : Group → List Value → Group
left g args = record { members = g.members - 1; items = each fewer g.items args }

abbrev pub or_blank : List CallKind → Option Group → Group
or_blank ks None = tally ks []
or_blank ks (Some g) = g

-- one member more, or one fewer
abbrev pub change : Bool → Item → Value → Item
change true = more
change false = fewer

abbrev pub changed : Bool → Group → List Value → Group
changed true g args = joined g args
changed false g args = left g args

abbrev pub put_group : GroupMap → List Value → Group → GroupMap
put_group gs by g = elim g.members as (λ _. GroupMap) [ zero ↦ remove gs by | suc n ↦ insert gs by g ]

abbrev pub join : List CallKind → GroupMap → Option Share → GroupMap
join ks gs None = gs
join ks gs (Some s) = put_group gs s.by (joined (or_blank ks (get gs s.by)) s.args)

abbrev pub leave : List CallKind → GroupMap → Option Share → GroupMap
leave ks gs None = gs
leave ks gs (Some s) = put_group gs s.by (left (or_blank ks (get gs s.by)) s.args)

abbrev pub change_group : Bool → List CallKind → GroupMap → Option Share → GroupMap
change_group true = join
change_group false = leave

abbrev pub put_share : ShareMap → List Value → Option Share → ShareMap
put_share m k None = remove m k
put_share m k (Some s) = insert m k s

-- the state where one key now has this share or none
abbrev pub moved : List CallKind → StateValue → List Value → Option Share → StateValue
moved ks st k new = record {
  shares = put_share st.shares k new;
  groups = join ks (leave ks st.groups (get st.shares k)) new;
}

-- the row that an entry puts
abbrev pub row_put : Entry → Option (List Value)
row_put (Put row) = Some row
row_put (Removal key) = None

-- and so on for all entries
abbrev pub moved_all : (List Value → Option Share) → List CallKind → StateValue → List (List Value × Entry) → StateValue
moved_all share ks st [] = st
moved_all share ks st (e ∷ es) = moved_all share ks (moved ks st e.0 (and_then (row_put e.1) share)) es

-- the BY values of a share, if there is one
abbrev pub by_list : Option Share → List (List Value)
by_list None = []
by_list (Some s) = s.by ∷ []

-- and the BY values that the state sees on the way, entry after entry
abbrev pub touches : (List Value → Option Share) → List CallKind → StateValue → List (List Value × Entry) → List (List Value)
touches share ks st [] = []
touches share ks st (e ∷ es) = by_list (get st.shares e.0) ++ (by_list (and_then (row_put e.1) share) ++ touches share ks (moved ks st e.0 (and_then (row_put e.1) share)) es)
