-- Commits as bytes: a tag, and fields whose numbers have 4 or 8 bytes, the highest first.
use Rattle.std.specs.Prelude.{◌≡◌, ℕ, ◌^◌, ◌<◌, nat_lt, Bool, true, ◌&&◌, List, [], ◌∷◌, ◌++◌, length}
use Rattle.std.specs.List.{flat_map, AllByRecursion}
use Rattle.std.specs.Int.{w32, w64, to_be_bytes}
use Rattle.nova_commit.specs.declared.commit.PartFile.{PartFile}
use Rattle.nova_commit.specs.declared.commit.Commit.{Commit}
use Rattle.nova_commit.specs.declared.commit.Commit.TheVariants.{Flow, Load, Tick, Run, Joined, Collected}

abbrev pub four : ℕ → List ℕ
four n = to_be_bytes w32 n

abbrev pub eight : ℕ → List ℕ
eight n = to_be_bytes w64 n

abbrev pub part_bytes : PartFile → List ℕ
part_bytes p = four p.part ++ (eight p.block ++ eight p.size)

-- a number of items, and the items one after the other
abbrev pub versions_bytes : List ℕ → List ℕ
versions_bytes versions = four (length versions) ++ flat_map eight versions

abbrev pub parts_bytes : List PartFile → List ℕ
parts_bytes parts = four (length parts) ++ flat_map part_bytes parts

abbrev pub kept_bytes : List ℕ → List ℕ
kept_bytes kept = eight (length kept) ++ flat_map eight kept

-- the one spelling of a commit
unfoldable pub commit_bytes : Commit → List ℕ
commit_bytes (Flow text) = 1 ∷ text
commit_bytes (Load channel block size) = 2 ∷ (four channel ++ (eight block ++ eight size))
commit_bytes (Tick moment) = 3 ∷ eight moment
commit_bytes (Run task versions moment seen block size parts) =
    4 ∷ (four task ++ (versions_bytes versions ++ (eight moment ++ (eight seen ++ (eight block ++ (eight size ++ parts_bytes parts))))))
commit_bytes (Joined channel from to block size) = 5 ∷ (four channel ++ (eight from ++ (eight to ++ (eight block ++ eight size))))
commit_bytes (Collected kept) = 6 ∷ kept_bytes kept

-- each number is above the one before it
abbrev pub rise : List ℕ → Bool
rise [] = true
rise (x ∷ []) = true
rise (x ∷ (y ∷ ys)) = nat_lt x y && rise (y ∷ ys)

abbrev pub IsNarrow : ℕ → Type 0
IsNarrow n = n < 2 ^ 32

abbrev pub IsWide : ℕ → Type 0
IsWide n = n < 2 ^ 64

pub record FitsPart (p : PartFile) : Type 0 where
  pub part : IsNarrow p.part
  pub block : IsWide p.block
  pub size : IsWide p.size

-- Each number has room in its field, and a collection's numbers rise.
abbrev pub Fits : Commit → Type 0
Fits (Flow text) = Unit {0}
Fits (Load channel block size) = IsNarrow channel × (IsWide block × IsWide size)
Fits (Tick moment) = IsWide moment
Fits (Run task versions moment seen block size parts) =
    IsNarrow task × ((IsNarrow (length versions) × AllByRecursion IsWide versions) × (IsWide moment × (IsWide seen × (IsWide block × (IsWide size × (IsNarrow (length parts) × AllByRecursion FitsPart parts))))))
Fits (Joined channel from to block size) = IsNarrow channel × (IsWide from × (IsWide to × (IsWide block × IsWide size)))
Fits (Collected kept) = (IsWide (length kept) × AllByRecursion IsWide kept) × (rise kept ≡ true)

-- Numbers of items have room, and a collection's numbers rise: what a commit's types don't say.
abbrev pub HasSpelling : Commit → Type 0
HasSpelling (Flow text) = Unit {0}
HasSpelling (Load channel block size) = Unit {0}
HasSpelling (Tick moment) = Unit {0}
HasSpelling (Run task versions moment seen block size parts) = IsNarrow (length versions) × IsNarrow (length parts)
HasSpelling (Joined channel from to block size) = Unit {0}
HasSpelling (Collected kept) = rise kept ≡ true
