-- What is wrong with bytes that spell no state, one case for each cause. A flaw is the first in the order of the bytes.
use Rattle.std.specs.Prelude.{◌≡◌, ◌⊎◌, ℕ, ◌<◌, ◌^◌, T, List, [], ◌∷◌, ◌++◌, length}
use Rattle.std.specs.declared.cmp.Ordering.{Ordering}
use Rattle.std.specs.List.{AllByRecursion, flat_map}
use Rattle.std.specs.FinMap.{is_sorted}
use Rattle.nova_value.specs.declared.value.Kind.{Kind}
use Rattle.nova_value.specs.Order.{value_cmp, key_cmp}
use Rattle.nova_value.specs.Rows.{IsOf, FitKinds}
use Rattle.nova_row_codec.specs.declared.fault.CodecFault.{CodecFault}
use Rattle.nova_row_codec.specs.Spelling.{eight, value_bytes, values_bytes}
use Rattle.nova_row_codec.specs.Faults.{ValueFails, ValuesFail}
use Rattle.nova_groups.specs.declared.item.Item.{Item}
use Rattle.nova_group_codec.specs.declared.fault.Flaw.{Flaw}
use Rattle.nova_group_codec.specs.declared.fault.Flaw.TheVariants.{Short, Broken}
use Rattle.nova_group_codec.specs.declared.sorts.Kept.{Kept}
use Rattle.nova_group_codec.specs.declared.sorts.Kept.TheVariants.{Total, Counts}
use Rattle.nova_group_codec.specs.Sorts.{SortsValue, argument_kinds}
use Rattle.nova_group_codec.specs.Spelling.{count_bytes, item_bytes, share_bytes, group_bytes, IsCount, FitsCount, FitsItem, FitsShare, FitsGroup}
use Rattle.nova_group_codec.specs.Reading.{flaw_of}

-- how bytes begin with no thing of a kind
abbrev pub Failing : Type 1
Failing = List ℕ → Flaw → Type 0

-- of two things, one after the other, the first bad one
pub data ThenFails {X : Type 0} (spelled : X → List ℕ) (Fits : X → Type 0) (First Second : Failing) : List ℕ → Flaw → Type 0 where
  here : {bytes : List ℕ} {flaw : Flaw} → First bytes flaw → ThenFails spelled Fits First Second bytes flaw
  after : {flaw : Flaw} (x : X) (bytes : List ℕ) → Fits x → Second bytes flaw → ThenFails spelled Fits First Second (spelled x ++ bytes) flaw

-- a number is cut off
abbrev pub NumberFails : List ℕ → Flaw → Type 0
NumberFails bytes flaw = (length bytes < 8) × (flaw ≡ Short)

-- a number from 1 is cut off, or it is 0
pub data CountFails : List ℕ → Flaw → Type 0 where
  short : {bytes : List ℕ} → length bytes < 8 → CountFails bytes Short
  none : (bytes : List ℕ) → CountFails (eight 0 ++ bytes) Broken

-- a value or values are bad
pub data ValueFlawed (k : Kind) (bytes : List ℕ) : Flaw → Type 0 where
  value : (fault : CodecFault) → ValueFails k bytes fault → ValueFlawed k bytes (flaw_of fault)

pub data ValuesFlawed (ks : List Kind) (bytes : List ℕ) : Flaw → Type 0 where
  values : (fault : CodecFault) → ValuesFail ks bytes fault → ValuesFlawed ks bytes (flaw_of fault)

abbrev pub ValueCountFails : Kind → List ℕ → Flaw → Type 0
ValueCountFails k = ThenFails value_bytes (IsOf k) (ValueFlawed k) CountFails

-- ---- lists in order

module _ {K X : Type 0} (R : K → K → Ordering) (spelled : K × X → List ℕ) (Fits : K × X → Type 0) (Bad : List ℕ → Flaw → Type 0) where
  -- after these, the next one is bad, or its key isn't above that of the last one
  pub data NextFails (es : List (K × X)) : List ℕ → Flaw → Type 0 where
    fails : {bytes : List ℕ} {flaw : Flaw} → Bad bytes flaw → NextFails es bytes flaw
    falls : (e : K × X) (bytes : List ℕ) → Fits e → (T (is_sorted R (es ++ e ∷ [])) → ⊥) → NextFails es (spelled e ++ bytes) Broken

  -- Things that fit and rise stand after the number of them all, and the next one has a flaw. From its start there are
  -- so many bytes left.
  pub record StopsWithin (bytes : List ℕ) (flaw : Flaw) (left : ℕ) : Type 0 where
    pub count : ℕ
    pub counted : count < 2 ^ 64
    pub before : List (K × X)
    pub fewer : length before < count
    pub fit : AllByRecursion Fits before
    pub rise : T (is_sorted R before)
    pub rest : List ℕ
    pub is : bytes ≡ eight count ++ (flat_map spelled before ++ rest)
    pub place : left ≡ length rest
    pub fails : NextFails before rest flaw

  -- no list stands there: its number is cut off, or one of the things is bad
  abbrev pub ListFails : List ℕ → Flaw → ℕ → Type 0
  ListFails bytes flaw left = ((length bytes < 8) × ((flaw ≡ Short) × (left ≡ length bytes))) ⊎ StopsWithin bytes flaw left

-- ---- aggregates, contributions and groups

abbrev pub ItemFails : Kept → List ℕ → Flaw → Type 0
ItemFails Total bytes flaw = NumberFails bytes flaw
ItemFails (Counts k) bytes flaw = (left : ℕ) × ListFails value_cmp count_bytes (FitsCount k) (ValueCountFails k) bytes flaw left

-- of aggregates of these sorts, the first bad one
pub data ItemsFail : List Kept → List ℕ → Flaw → Type 0 where
  here : {c : Kept} {cs : List Kept} {bytes : List ℕ} {flaw : Flaw} → ItemFails c bytes flaw → ItemsFail (c ∷ cs) bytes flaw
  after : {c : Kept} {cs : List Kept} {flaw : Flaw} (i : Item) (bytes : List ℕ) → FitsItem c i → ItemsFail cs bytes flaw → ItemsFail (c ∷ cs) (item_bytes i ++ bytes) flaw

abbrev pub ShareFails : SortsValue → List ℕ → Flaw → Type 0
ShareFails s = ThenFails values_bytes (FitKinds s.key) (ValuesFlawed s.key) (ThenFails values_bytes (FitKinds s.by) (ValuesFlawed s.by) (ValuesFlawed (argument_kinds s.kept)))

abbrev pub GroupFails : SortsValue → List ℕ → Flaw → Type 0
GroupFails s = ThenFails values_bytes (FitKinds s.by) (ValuesFlawed s.by) (ThenFails eight IsCount CountFails (ItemsFail s.kept))

abbrev pub SharesFail : SortsValue → List ℕ → Flaw → ℕ → Type 0
SharesFail s = ListFails key_cmp share_bytes (FitsShare s) (ShareFails s)

abbrev pub GroupsFail : SortsValue → List ℕ → Flaw → ℕ → Type 0
GroupsFail s = ListFails key_cmp group_bytes (FitsGroup s) (GroupFails s)
