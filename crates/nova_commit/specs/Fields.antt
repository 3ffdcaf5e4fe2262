-- Reading fields from the front of bytes: a value and the bytes after it, or none.
use Rattle.std.specs.Prelude.{◌≡◌, ℕ, zero, suc, ◌==◌, nat_lt, List, [], ◌∷◌, length, take, drop, Option, Some, None, Result, Ok, Err, option_map, if◌then◌else◌}
use Rattle.std.specs.Int.{Width, w32, w64, byte_len, from_be_bytes}
use Rattle.nova_commit.specs.declared.fault.MetaFault.{MetaFault}
use Rattle.nova_commit.specs.declared.fault.MetaFault.TheVariants.{BadRecord, NoMemory}
use Rattle.nova_commit.specs.declared.commit.PartFile.{PartFile}
use Rattle.nova_commit.specs.declared.commit.Commit.{Commit}
use Rattle.nova_commit.specs.declared.commit.Commit.TheVariants.{Flow, Load, Tick, Run, Joined, Collected}
use Rattle.nova_commit.specs.Commits.{rise}

infixl 10 ◌>>=◌
abbrev pub ◌>>=◌ : {A B : Type 0} → Option A → (A → Option B) → Option B
None >>= f = None
(Some x) >>= f = f x

-- what a function returned, seen by view, is what reading gives, unless memory ran out
abbrev pub Fails : {Y : Type 0} → MetaFault → Option Y → Type 0
Fails NoMemory read = Unit {0}
Fails BadRecord read = read ≡ None

abbrev pub Gives : {X Y : Type 0} → (X → Y) → Result X MetaFault → Option Y → Type 0
Gives view (Ok x) read = read ≡ Some (view x)
Gives view (Err e) read = Fails e read

abbrev pub number_at : Width → List ℕ → Option (ℕ × List ℕ)
number_at w bytes = if nat_lt (length bytes) (byte_len w) then None else Some (from_be_bytes w (take (byte_len w) bytes), drop (byte_len w) bytes)

-- one field and then another
abbrev pub pair_at : {A B : Type 0} → (List ℕ → Option (A × List ℕ)) → (List ℕ → Option (B × List ℕ)) → List ℕ → Option ((A × B) × List ℕ)
pair_at first second bytes = first bytes >>= λ a. second a.1 >>= λ b. Some ((a.0, b.0), b.1)

-- so many items
abbrev pub items_at : {A : Type 0} → (List ℕ → Option (A × List ℕ)) → ℕ → List ℕ → Option (List A × List ℕ)
items_at item zero bytes = Some ([], bytes)
items_at item (suc n) bytes = item bytes >>= λ a. items_at item n a.1 >>= λ b. Some (a.0 ∷ b.0, b.1)

-- a number of items, and the items
abbrev pub list_at : {A : Type 0} → Width → (List ℕ → Option (A × List ℕ)) → List ℕ → Option (List A × List ℕ)
list_at w item bytes = number_at w bytes >>= λ n. items_at item n.0 n.1

-- a field that has all the bytes
abbrev pub whole : {A : Type 0} → (List ℕ → Option (A × List ℕ)) → List ℕ → Option A
whole item bytes = item bytes >>= λ a. if length a.1 == 0 then Some a.0 else None

unfoldable pub part_at : List ℕ → Option (PartFile × List ℕ)
part_at bytes = pair_at (number_at w32) (pair_at (number_at w64) (number_at w64)) bytes >>= λ a. Some (record { part = a.0.0; block = a.0.1.0; size = a.0.1.1 }, a.1)

unfoldable pub versions_at : List ℕ → Option (List ℕ × List ℕ)
versions_at bytes = list_at w32 (number_at w64) bytes

unfoldable pub parts_at : List ℕ → Option (List PartFile × List ℕ)
parts_at bytes = list_at w32 part_at bytes

unfoldable pub kept_at : List ℕ → Option (List ℕ × List ℕ)
kept_at bytes = list_at w64 (number_at w64) bytes

-- the fields of each commit
unfoldable pub load_of : List ℕ → Option Commit
load_of bytes = option_map (λ a. Load a.0 a.1.0 a.1.1) (whole (pair_at (number_at w32) (pair_at (number_at w64) (number_at w64))) bytes)

unfoldable pub tick_of : List ℕ → Option Commit
tick_of bytes = option_map (λ a. Tick a) (whole (number_at w64) bytes)

unfoldable pub run_of : List ℕ → Option Commit
run_of bytes =
    option_map (λ a. Run a.0 a.1.0 a.1.1.0 a.1.1.1.0 a.1.1.1.1.0 a.1.1.1.1.1.0 a.1.1.1.1.1.1)
    (whole (pair_at (number_at w32) (pair_at versions_at (pair_at (number_at w64) (pair_at (number_at w64) (pair_at (number_at w64) (pair_at (number_at w64) parts_at)))))) bytes)

unfoldable pub joined_of : List ℕ → Option Commit
joined_of bytes =
    option_map (λ a. Joined a.0 a.1.0 a.1.1.0 a.1.1.1.0 a.1.1.1.1)
    (whole (pair_at (number_at w32) (pair_at (number_at w64) (pair_at (number_at w64) (pair_at (number_at w64) (number_at w64))))) bytes)

unfoldable pub collected_of : List ℕ → Option Commit
collected_of bytes = whole kept_at bytes >>= λ kept. if rise kept then Some (Collected kept) else None

-- the commit that these bytes spell
unfoldable pub commit_of : List ℕ → Option Commit
commit_of [] = None
commit_of (tag ∷ rest) =
    if tag == 1 then Some (Flow rest)
    else (if tag == 2 then load_of rest
    else (if tag == 3 then tick_of rest
    else (if tag == 4 then run_of rest
    else (if tag == 5 then joined_of rest
    else (if tag == 6 then collected_of rest else None)))))
