-- Why a call on a journal may fail.
use Rattle.std.specs.Prelude.{◌≡◌, ℕ, ◌*◌, ◌<◌, ◌≤◌, ◌^◌, List, Option, Some, None}
use Rattle.nova_outside.specs.Causes.{Rose}
use Rattle.nova_outside.specs.Disk.{Files}
use Rattle.nova_journal.specs.Log.{DamagedAt}
use Rattle.nova_journal.specs.Marks.{IsMark}
use Rattle.nova_journal.specs.declared.fault.LogFault.{LogFault}
use Rattle.nova_journal.specs.declared.fault.LogFault.TheVariants.{Disk, NoStore, Damaged, Full, NoMemory}

-- a record that brings a journal of this length to this one wasn't written: Full exactly where that is past 2^62, and otherwise the disk's count rose
abbrev pub AppendCause : ℕ → ℕ → ℕ → ℕ → LogFault → Type 0
AppendCause before now length total Disk = Rose before now × (total ≤ 2 ^ 62)
AppendCause before now length total (Full at) = (2 ^ 62 < total) × (at ≡ length)
AppendCause before now length total _ = ⊥

-- a file wasn't read
abbrev pub ReadCause : ℕ → ℕ → LogFault → Type 0
ReadCause before now Disk = Rose before now
ReadCause before now NoMemory = Unit {0}
ReadCause before now _ = ⊥

-- a journal wasn't opened: the disk's count rose, or it is for the host to tell why
abbrev pub ReopenCause : ℕ → ℕ → LogFault → Type 0
ReopenCause before now Disk = Rose before now
ReopenCause before now NoStore = Unit {0}
ReopenCause before now (Damaged file at) = Unit {0}
ReopenCause before now (Full length) = ⊥
ReopenCause before now NoMemory = Unit {0}

-- the place where a file isn't a journal; an absent one is damaged at 0
abbrev pub IsDamaged : ℕ → Option (List ℕ) → Type 0
IsDamaged at None = at ≡ 0
IsDamaged at (Some file) = DamagedAt at file

-- what these files have to do with it, where the host tells them; memory is taken only behind a mark
abbrev pub ReopenTold : Files → LogFault → Type 0
ReopenTold files NoStore = IsMark files None
ReopenTold files (Damaged file at) = (x : ℕ) × IsMark files (Some x) × (file ≡ 4 * x) × IsDamaged at (files file)
ReopenTold files NoMemory = (x : ℕ) × IsMark files (Some x)
ReopenTold files _ = Unit {0}

-- a mark wasn't made
abbrev pub MarkCause : ℕ → ℕ → LogFault → Type 0
MarkCause before now Disk = Rose before now
MarkCause before now _ = ⊥

-- no newest journal was found: the disk's count rose, or it is for the host to tell that there is none
abbrev pub UnmarkedCause : ℕ → ℕ → LogFault → Type 0
UnmarkedCause before now Disk = Rose before now
UnmarkedCause before now NoStore = Unit {0}
UnmarkedCause before now _ = ⊥
