-- A journal file: gate, length, payload, gate, length, payload, .., gate. A record counts where its gate and all before it are 1.
use Rattle.std.specs.Prelude.{◌≡◌, ◌≢◌, ◌⊎◌, ℕ, ◌+◌, ◌<◌, ◌≤◌, ◌^◌, List, [], ◌∷◌, ◌++◌, length, map, take, drop, Option, Some, None, All}
use Rattle.std.specs.Int.{w64, to_be_bytes, from_be_bytes}
use Rattle.nova_journal.specs.declared.payload.Payload.{Payload}

-- the eight bytes of a length
unfoldable pub length_bytes : ℕ → List ℕ
length_bytes n = to_be_bytes w64 n

-- a payload behind its length
abbrev pub entry : List ℕ → List ℕ
entry payload = length_bytes (length payload) ++ payload

-- what is written behind a gate: the entry and a closed gate
abbrev pub frame : List ℕ → List ℕ
frame payload = entry payload ++ 0 ∷ []

-- what a tick is written as: its tag, and the moment in eight bytes
abbrev pub tick_payload : ℕ → List ℕ
tick_payload moment = 3 ∷ length_bytes moment

-- entries behind open gates
abbrev pub records : List (List ℕ) → List ℕ
records [] = []
records (payload ∷ payloads) = (1 ∷ entry payload) ++ records payloads

abbrev pub IsShort : List ℕ → Type 0
IsShort payload = length payload < 2 ^ 64

-- how long a file is, 0 where it is absent
abbrev pub file_length : Option (List ℕ) → ℕ
file_length None = 0
file_length (Some file) = length file

-- These payloads count in the file. What follows the closed gate is free.
pub record Log (payloads : List (List ℕ)) (file : List ℕ) : Type 0 where
  pub short : All IsShort payloads
  pub gate : ℕ
  pub rest : List ℕ
  pub is : file ≡ records payloads ++ gate ∷ rest
  pub closed : gate ≢ 1

abbrev pub IsLog : List (List ℕ) → Option (List ℕ) → Type 0
IsLog payloads c = (file : List ℕ) × (c ≡ Some file) × Log payloads file

-- the same, where the closed gate is the last of so many bytes
pub record LogTo (end : ℕ) (payloads : List (List ℕ)) (c : Option (List ℕ)) : Type 0 where
  pub log : IsLog payloads c
  pub ends : length (records payloads) + 1 ≡ end

abbrev pub BeforeOrAfter : List (List ℕ) → List ℕ → Option (List ℕ) → Type 0
BeforeOrAfter payloads payload c = IsLog payloads c ⊎ IsLog (payloads ++ payload ∷ []) c

abbrev pub IsFrame : List ℕ → Type 0
IsFrame framed = (payload : List ℕ) × (framed ≡ frame payload)

-- the payloads of a list of records that were read
abbrev pub payloads_of : List Payload → List (List ℕ)
payloads_of ps = map (λ p. p.bytes.items) ps

-- each payload stands behind its gate and its length, the first gate at this place
abbrev pub IsPlaced : ℕ → List Payload → Type 0
IsPlaced at [] = Unit {0}
IsPlaced at (payload ∷ payloads) = (payload.at ≡ at + 9) × IsPlaced (at + 9 + length payload.bytes.items) payloads

-- what follows a gate is no record with a gate after it
abbrev pub IsCutShort : List ℕ → Type 0
IsCutShort rest = (length rest < 8) ⊎ (length rest ≤ 8 + from_be_bytes w64 (take 8 rest))

-- an open gate whose record is cut short
abbrev pub IsBroken : List ℕ → Type 0
IsBroken [] = ⊥
IsBroken (gate ∷ rest) = (gate ≡ 1) × IsCutShort rest

-- no open gate
abbrev pub IsShut : List ℕ → Type 0
IsShut [] = Unit {0}
IsShut (gate ∷ rest) = gate ≢ 1

-- The file is no journal: after these records comes an open gate whose record is cut short, or none counts.
pub record DamagedAt (at : ℕ) (file : List ℕ) : Type 0 where
  pub payloads : List (List ℕ)
  pub short : All IsShort payloads
  pub tail : List ℕ
  pub is : file ≡ records payloads ++ tail
  pub place : length (records payloads) ≡ at
  pub broken : IsBroken tail ⊎ ((payloads ≡ []) × IsShut tail)

-- the length that stands there, or none where the record is cut short
abbrev pub RecordOf : List ℕ → Option ℕ → Type 0
RecordOf rest None = IsCutShort rest
RecordOf rest (Some n) = (8 + n < length rest) × (n ≡ from_be_bytes w64 (take 8 rest))

-- the record at this gate
pub record RecordAt (file : List ℕ) (at : ℕ) (payload : List ℕ) : Type 0 where
  pub is : drop at file ≡ (1 ∷ entry payload) ++ drop (at + 9 + length payload) file
  pub within : at + 9 + length payload < length file
  pub short : IsShort payload

-- all records of a journal of this length
pub record ReadTo (end : ℕ) (payloads : List (List ℕ)) (file : List ℕ) : Type 0 where
  pub some : payloads ≢ []
  pub log : Log payloads file
  pub ends : length (records payloads) + 1 ≡ end

abbrev pub IsReadTo : ℕ → List (List ℕ) → Option (List ℕ) → Type 0
IsReadTo end payloads c = (file : List ℕ) × (c ≡ Some file) × ReadTo end payloads file
