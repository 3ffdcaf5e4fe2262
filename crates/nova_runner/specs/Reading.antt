-- What a store reads of a channel.
use Rattle.std.specs.Prelude.{◌≡◌, ℕ, ◌++◌, Bool, List, IsTrue}
use Rattle.std.specs.FinMap as fin
use Rattle.nova_outside.specs.Causes.{Rose}
use Rattle.nova_machine.specs.Replies.{row_lines}
use Rattle.nova_script.specs.Replies as line
use Rattle.nova_outside.specs.Disk.{Files}
use Rattle.nova_outside.specs.History.{Event, current}
use Rattle.nova_outside.specs.Replies.{HasReplied, HasRepliedInPart}
use Rattle.nova_channel.specs.Reading.{HasReadTable, IsDamage}
use Rattle.nova_meta.specs.Catalog.{shelf_at}
use Rattle.nova_machine.specs.Workflow.{channel_in, schema_in}
use Rattle.nova_delta.specs.Merge.{TableValue}
use Rattle.nova_block.specs.declared.fault.BlockFault.{BlockFault}
use Rattle.nova_block.specs.declared.fault.BlockFault.TheVariants as block
use Rattle.nova_machine.specs.State.{State, newest_table}
use Rattle.nova_machine.specs.Steps.{Step}
use Rattle.nova_commit.specs.declared.commit.Commit.{Commit}
use Rattle.nova_runner.specs.Held.{Held}
use Rattle.nova_runner.specs.Steps.{StoreStands, Stops, Why, Disk, Reply, Damaged, NoMemory}
use Rattle.nova_runner.specs.declared.show.Unshown.{Unshown}
use Rattle.nova_runner.specs.declared.show.Unshown.TheVariants as unshown

-- of each state that the store stands for it is the newest table
abbrev pub GivesNewest : Bool → Held → ℕ → TableValue → List Event → Type 0
GivesNewest is_honest store c t a = IsTrue is_honest → (commits : List Commit) (s : State) → StoreStands store commits a s → t ≡ newest_table s c

-- the first block on the path to the newest version that is none is in this file, and none at this place
abbrev pub IsNewestDamage : Held → ℕ → Files → ℕ → ℕ → Type 0
IsNewestDamage store c files file at = IsDamage (schema_in store.flow c) files (shelf_at store.catalog c).intervals 0 (shelf_at store.catalog c).version file at

-- a table is what the blocks on the path to the newest version read as, whatever they stand for
abbrev pub IsNewestRead : Held → ℕ → Files → TableValue → Type 0
IsNewestRead store c files t =
    (t.schema ≡ schema_in store.flow c) × HasReadTable (schema_in store.flow c) files (shelf_at store.catalog c).intervals (shelf_at store.catalog c).version t.rows

abbrev pub why_unread : BlockFault → Why
why_unread block.Disk = Disk
why_unread (block.Damaged file at) = Damaged file at
why_unread block.NoMemory = NoMemory

abbrev pub why_unshown : Unshown → Why
why_unshown unshown.Disk = Disk
why_unshown (unshown.Damaged file at) = Damaged file at
why_unshown unshown.Reply = Reply
why_unshown unshown.NoMemory = NoMemory

-- a call that failed is told only where its count rose
abbrev pub ShowCause : ℕ → ℕ → ℕ → ℕ → Unshown → Type 0
ShowCause disk_before disk_now reply_before reply_now unshown.Disk = Rose disk_before disk_now
ShowCause disk_before disk_now reply_before reply_now unshown.Reply = Rose reply_before reply_now
ShowCause disk_before disk_now reply_before reply_now (unshown.Damaged file at) = Unit {0}
ShowCause disk_before disk_now reply_before reply_now unshown.NoMemory = Unit {0}

-- damage is that of the newest table
abbrev pub ShownTold : Held → ℕ → Files → Unshown → Type 0
ShownTold store c files unshown.Disk = Unit {0}
ShownTold store c files (unshown.Damaged file at) = IsNewestDamage store c files file at
ShownTold store c files unshown.Reply = Unit {0}
ShownTold store c files unshown.NoMemory = Unit {0}

-- the fault of a table that wasn't read
abbrev pub unshown_by : BlockFault → Unshown
unshown_by block.Disk = unshown.Disk
unshown_by (block.Damaged file at) = unshown.Damaged file at
unshown_by block.NoMemory = unshown.NoMemory

-- what is replied of a table: its rows in the order of their keys, and the line that counts them
abbrev pub shown_text : List ℕ → ℕ → TableValue → List ℕ
shown_text name version t = row_lines t ++ line.shown name version (fin.len t.rows)

-- the text of a table that was read so
abbrev pub newest_text : Held → ℕ → TableValue → List ℕ
newest_text store c t = shown_text (channel_in store.flow c).name (shelf_at store.catalog c).version t

-- it was replied, and nothing else was done
pub record ShowsNewest (store : Held) (c : ℕ) (a b : List Event) : Type 0 where
  pub table : TableValue
  pub read : IsNewestRead store c (current a) table
  pub replied : HasReplied a b (newest_text store c table)

-- or a front of it was
pub record ShowsInPart (store : Held) (c : ℕ) (a b : List Event) : Type 0 where
  pub table : TableValue
  pub read : IsNewestRead store c (current a) table
  pub replied : HasRepliedInPart a b (newest_text store c table)

-- where no reply failed nothing was done
abbrev pub UnshownGave : Held → ℕ → List Event → List Event → Unshown → Type 0
UnshownGave store c a b unshown.Disk = b ≡ a
UnshownGave store c a b (unshown.Damaged file at) = b ≡ a
UnshownGave store c a b unshown.Reply = ShowsInPart store c a b
UnshownGave store c a b unshown.NoMemory = b ≡ a

abbrev pub ReadStops : BlockFault → Bool → (State → Step → Type 0) → Held → List Event → List Event → Type 0
ReadStops fault is_honest asks store a b = Stops (why_unread fault) is_honest asks store a b
