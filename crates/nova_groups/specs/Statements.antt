-- What the laws of this crate say. Each is the contract of a function of `laws`.
use Rattle.std.specs.Prelude.{◌≡◌, ℕ, ◌+◌, ◌<◌, ◌^◌, ◌==◌, false, List, Option}
use Rattle.std.specs.List.{list_any}
use Rattle.std.specs.FinMap.{entries, len, get}
use Rattle.nova_value.specs.declared.value.Value.{Value}
use Rattle.nova_value.specs.declared.schema.Entry.{Entry}
use Rattle.nova_delta.specs.Merge.{RowMap, EntryMap, merged}
use Rattle.nova_pig_tree.specs.declared.expression.CallKind.{CallKind}
use Rattle.nova_groups.specs.declared.group.Share.{Share}
use Rattle.nova_groups.specs.State.{StateValue, share_map, state_of, moved, moved_all, touches}
use Rattle.nova_groups.specs.Parts.{part_of, moved_part}

-- the entries of a delta, one key's change after the other, lead from the state of a table to that of the merged table, where no number of members can pass its type's end
abbrev pub StatesFollowDeltas : Type 0
StatesFollowDeltas = (share : List Value → Option Share) (ks : List CallKind) (m : RowMap) (d : EntryMap) → len (share_map share m) + len d < 2 ^ 64
    → moved_all share ks (state_of share ks m) (entries d) ≡ state_of share ks (merged m d)

-- one key's change is a change of each part by itself, which needs of the others the key's old share at most
abbrev pub PartsChangeAlone : Type 0
PartsChangeAlone = (part : List Value → ℕ) (s : ℕ) (ks : List CallKind) (st : StateValue) (k : List Value) (new : Option Share)
    → part_of part s (moved ks st k new) ≡ moved_part part s ks (part_of part s st) k (get st.shares k) new

-- a part stays that no written key and none of their old and new groups is of
abbrev pub OtherPartsStay : Type 0
OtherPartsStay = (part : List Value → ℕ) (s : ℕ) (ks : List CallKind) (share : List Value → Option Share) (st : StateValue) (es : List (List Value × Entry))
    → list_any (λ (e : List Value × Entry). part e.0 == s) es ≡ false → list_any (λ by. part by == s) (touches share ks st es) ≡ false
    → part_of part s (moved_all share ks st es) ≡ part_of part s st
