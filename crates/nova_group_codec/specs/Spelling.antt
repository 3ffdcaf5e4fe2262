-- A state as bytes. The highest byte of a number stands first.
use Rattle.std.specs.Prelude.{ℕ, ◌<◌, ◌≤◌, ◌^◌, List, [], ◌∷◌, ◌++◌, length}
use Rattle.std.specs.List.{AllByRecursion, flat_map}
use Rattle.std.specs.FinMap as fin
use Rattle.nova_value.specs.declared.value.Kind.{Kind}
use Rattle.nova_value.specs.declared.value.Value.{Value}
use Rattle.nova_value.specs.declared.value.Value.TheVariants.{Long}
use Rattle.nova_value.specs.Rows.{IsLong, IsOf, FitKinds}
use Rattle.nova_row_codec.specs.Spelling.{eight, value_bytes, values_bytes}
use Rattle.nova_groups.specs.declared.item.Item.{Item}
use Rattle.nova_groups.specs.declared.item.Item.TheVariants as item
use Rattle.nova_groups.specs.declared.group.Share.{Share}
use Rattle.nova_groups.specs.Kinds.{Group}
use Rattle.nova_groups.specs.State.{StateValue}
use Rattle.nova_group_codec.specs.declared.sorts.Kept.{Kept}
use Rattle.nova_group_codec.specs.declared.sorts.Kept.TheVariants.{Total, Counts}
use Rattle.nova_group_codec.specs.Sorts.{SortsValue, argument_kinds}

-- ---- the spelling

-- things one after the other, behind the number of them
abbrev pub list_bytes : {X : Type 0} → (X → List ℕ) → List X → List ℕ
list_bytes spelled xs = eight (length xs) ++ flat_map spelled xs

-- a value and how often it stands
abbrev pub count_bytes : Value × ℕ → List ℕ
count_bytes e = value_bytes e.0 ++ eight e.1

-- a sum, or each value with how often it stands, in the order of the values
unfoldable pub item_bytes : Item → List ℕ
item_bytes (item.Total n) = value_bytes (Long n)
item_bytes (item.Counts m) = list_bytes count_bytes (fin.entries m)

-- the input key, the BY values, the arguments
abbrev pub share_bytes : List Value × Share → List ℕ
share_bytes e = values_bytes e.0 ++ (values_bytes e.1.by ++ values_bytes e.1.args)

-- the BY values, the number of members, the items
abbrev pub group_bytes : List Value × Group → List ℕ
group_bytes e = values_bytes e.0 ++ (eight e.1.members ++ flat_map item_bytes e.1.items)

-- the contributions by input key, and then the groups by BY values
abbrev pub state_bytes : StateValue → List ℕ
state_bytes s = list_bytes share_bytes (fin.entries s.shares) ++ list_bytes group_bytes (fin.entries s.groups)

-- ---- what has a spelling

-- a number from 1, of 64 bits
abbrev pub IsCount : ℕ → Type 0
IsCount n = (1 ≤ n) × (n < 2 ^ 64)

abbrev pub FitsCount : Kind → Value × ℕ → Type 0
FitsCount k e = IsOf k e.0 × IsCount e.1

-- an aggregate of this sort
abbrev pub FitsItem : Kept → Item → Type 0
FitsItem Total (item.Total n) = IsLong n
FitsItem (Counts k) (item.Counts m) = AllByRecursion (FitsCount k) (fin.entries m) × (length (fin.entries m) < 2 ^ 64)
FitsItem Total (item.Counts m) = ⊥
FitsItem (Counts k) (item.Total n) = ⊥

-- as many as sorts, each of its sort
abbrev pub FitItems : List Kept → List Item → Type 0
FitItems [] [] = Unit {0}
FitItems [] (i ∷ is) = ⊥
FitItems (c ∷ cs) [] = ⊥
FitItems (c ∷ cs) (i ∷ is) = FitsItem c i × FitItems cs is

abbrev pub FitsShare : SortsValue → List Value × Share → Type 0
FitsShare s e = FitKinds s.key e.0 × (FitKinds s.by e.1.by × FitKinds (argument_kinds s.kept) e.1.args)

abbrev pub FitsGroup : SortsValue → List Value × Group → Type 0
FitsGroup s e = FitKinds s.by e.0 × (IsCount e.1.members × FitItems s.kept e.1.items)
