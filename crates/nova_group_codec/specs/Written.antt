-- What reading gives, by the spellings and their flaws.
use Rattle.std.specs.Prelude.{◌≡◌, ℕ, ◌-◌, ◌<◌, ◌^◌, T, List, ◌∷◌, ◌++◌, length, Result, Ok, Err}
use Rattle.std.specs.List.{AllByRecursion}
use Rattle.std.specs.FinMap as fin
use Rattle.std.specs.FinMap.{is_sorted}
use Rattle.nova_value.specs.declared.value.Value.{Value}
use Rattle.nova_value.specs.Order.{key_cmp}
use Rattle.nova_groups.specs.declared.group.Share.{Share}
use Rattle.nova_groups.specs.Kinds.{Group}
use Rattle.nova_groups.specs.State.{StateValue}
use Rattle.nova_group_codec.specs.declared.fault.Flaw.{Flaw}
use Rattle.nova_group_codec.specs.declared.fault.Flaw.TheVariants.{Short, Broken}
use Rattle.nova_group_codec.specs.declared.fault.Flaw.TheVariants as flaw
use Rattle.nova_group_codec.specs.declared.fault.StateFault.{StateFault}
use Rattle.nova_group_codec.specs.declared.fault.StateFault.TheVariants.{Damaged, NoMemory}
use Rattle.nova_group_codec.specs.Sorts.{SortsValue}
use Rattle.nova_group_codec.specs.Spelling.{share_bytes, group_bytes, list_bytes, state_bytes, FitsShare, FitsGroup}
use Rattle.nova_group_codec.specs.Reading.{place}
use Rattle.nova_group_codec.specs.Faults.{SharesFail, GroupsFail}

-- The bytes are the spelling of this state of a task of these sorts.
pub record SpellsState (s : SortsValue) (bytes : List ℕ) (st : StateValue) : Type 0 where
  pub shares : AllByRecursion (FitsShare s) (fin.entries st.shares)
  pub groups : AllByRecursion (FitsGroup s) (fin.entries st.groups)
  pub few_shares : length (fin.entries st.shares) < 2 ^ 64
  pub few_groups : length (fin.entries st.groups) < 2 ^ 64
  pub is : bytes ≡ state_bytes st

-- contributions that fit and rise
pub record AreShares (s : SortsValue) (shares : List (List Value × Share)) : Type 0 where
  pub fit : AllByRecursion (FitsShare s) shares
  pub rise : T (is_sorted key_cmp shares)
  pub few : length shares < 2 ^ 64

-- groups that fit and rise
pub record AreGroups (s : SortsValue) (groups : List (List Value × Group)) : Type 0 where
  pub fit : AllByRecursion (FitsGroup s) groups
  pub rise : T (is_sorted key_cmp groups)
  pub few : length groups < 2 ^ 64

-- the first flaw, and how many bytes there are from the start of the contribution or group that has it, or from the end of
-- the groups
pub data PartsFail (s : SortsValue) : List ℕ → Flaw → ℕ → Type 0 where
  in_shares : {bytes : List ℕ} {flaw : Flaw} {left : ℕ} → SharesFail s bytes flaw left → PartsFail s bytes flaw left
  in_groups : {flaw : Flaw} {left : ℕ} (shares : List (List Value × Share)) (bytes : List ℕ) → AreShares s shares
      → GroupsFail s bytes flaw left → PartsFail s (list_bytes share_bytes shares ++ bytes) flaw left
  behind : (shares : List (List Value × Share)) (groups : List (List Value × Group)) (byte : ℕ) (bytes : List ℕ) → AreShares s shares → AreGroups s groups
      → PartsFail s (list_bytes share_bytes shares ++ (list_bytes group_bytes groups ++ byte ∷ bytes)) Broken (length (byte ∷ bytes))

-- No state is spelled by the bytes, and the first flaw is at this place: their length where they end too early, and
-- otherwise the start of the contribution or group that has it, or the first byte behind the last group.
pub data StateFails (s : SortsValue) (bytes : List ℕ) : ℕ → Type 0 where
  flawed : (flaw : Flaw) (left : ℕ) → PartsFail s bytes flaw left → StateFails s bytes (place (length bytes) (flaw, left))

-- a flaw as the fault that is told
abbrev pub fault_at : ℕ → Flaw × ℕ → StateFault
fault_at whole (Short, left) = Damaged whole
fault_at whole (Broken, left) = Damaged (whole - left)
fault_at whole (flaw.NoMemory, left) = NoMemory

-- damage stands where it is said to be; want of memory says nothing
abbrev pub IsRefused : SortsValue → List ℕ → StateFault → Type 0
IsRefused s bytes (Damaged at) = StateFails s bytes at
IsRefused s bytes NoMemory = Unit {0}

-- the state that the bytes spell, or the place of the first flaw
abbrev pub ReadsState : SortsValue → List ℕ → Result StateValue ℕ → Type 0
ReadsState s bytes (Ok st) = SpellsState s bytes st
ReadsState s bytes (Err at) = StateFails s bytes at
