-- What reads give of files that hold a channel's blocks.
use Rattle.std.specs.Prelude.{◌≡◌, ℕ, ◌≤◌, List, length, Option}
use Rattle.nova_value.specs.Rows.{Shape}
use Rattle.nova_outside.specs.Disk.{Files}
use Rattle.nova_delta.specs.Merge.{DeltaValue, EntryMap, RowMap}
use Rattle.nova_path.specs.Lists.{IsOneOf}
use Rattle.nova_path.specs.Shelf.{Rises}
use Rattle.nova_path.specs.Intervals.{AreApart, spans}
use Rattle.nova_path.specs.declared.interval.Interval.{Interval}
use Rattle.nova_block.specs.Files.{HoldsBlock}
use Rattle.nova_machine.specs.Versions.{Version, IsKept, block, rows_in}
use Rattle.nova_channel.specs.Reading.{HasRead, HasReadTable, IsDamage, IsRead}

-- a file is one delta's block
abbrev pub OneBlock : Type 0
OneBlock = (s : Shape) (size : ℕ) (c : Option (List ℕ)) (d e : DeltaValue) → HoldsBlock s size c d → HoldsBlock s size c e → d ≡ e

-- what is read of an interval's file is its block, and blocks compose along the spans of the shelf; a file that is none may be there
pub record GivesBlocks (s : Shape) (files : Files) (vs : List Version) (shelf : List Interval) : Type 0 where
  pub rises : Rises (spans shelf)
  pub kept : IsKept vs (spans shelf)
  pub each : (x : Interval) → IsOneOf shelf x → (d : DeltaValue) → IsRead s files x d → d ≡ record { schema = s; entries = block vs x.from x.to }

-- each interval of the shelf has a file with its block
abbrev pub HoldsBlocks : Shape → Files → List Version → List Interval → Type 0
HoldsBlocks s files vs shelf = (x : Interval) → IsOneOf shelf x → IsRead s files x (record { schema = s; entries = block vs x.from x.to })

-- where it has, no other is read of it
abbrev pub HoldersGive : Type 0
HoldersGive = (s : Shape) (files : Files) (vs : List Version) (shelf : List Interval) →
    Rises (spans shelf) → IsKept vs (spans shelf) → HoldsBlocks s files vs shelf → GivesBlocks s files vs shelf

-- a read gives the block of its ends
abbrev pub ReadsAreBlocks : Type 0
ReadsAreBlocks = (s : Shape) (files : Files) (vs : List Version) (shelf : List Interval) (from to : ℕ) (entries : EntryMap) →
    GivesBlocks s files vs shelf → to ≤ length vs → HasRead s files shelf from to entries → entries ≡ block vs from to

-- a table that is read is that of the version
abbrev pub TablesAreVersions : Type 0
TablesAreVersions = (s : Shape) (files : Files) (vs : List Version) (shelf : List Interval) (to : ℕ) (rows : RowMap) →
    GivesBlocks s files vs shelf → to ≤ length vs → HasReadTable s files shelf to rows → rows ≡ rows_in vs to

-- where each file is its block no damage is told
abbrev pub BlocksAreNotBad : Type 0
BlocksAreNotBad = (s : Shape) (files : Files) (vs : List Version) (shelf : List Interval) (from to file at : ℕ) →
    HoldsBlocks s files vs shelf → IsDamage s files shelf from to file at → ⊥

-- what was read has no damage: of a block that is none no read gives anything
abbrev pub ReadsAreWhole : Type 0
ReadsAreWhole = (s : Shape) (files : Files) (shelf : List Interval) (from to : ℕ) (entries : EntryMap) (file at : ℕ) →
    AreApart shelf → HasRead s files shelf from to entries → IsDamage s files shelf from to file at → ⊥

abbrev pub TablesAreWhole : Type 0
TablesAreWhole = (s : Shape) (files : Files) (shelf : List Interval) (to : ℕ) (rows : RowMap) (file at : ℕ) →
    AreApart shelf → HasReadTable s files shelf to rows → IsDamage s files shelf 0 to file at → ⊥

-- and damage is told in one way: of one file, at one place
abbrev pub OneDamage : Type 0
OneDamage = (s : Shape) (files : Files) (shelf : List Interval) (from to file at other place : ℕ) →
    AreApart shelf → IsDamage s files shelf from to file at → IsDamage s files shelf from to other place → (file ≡ other) × (at ≡ place)
