-- The history of a disk in memory.
use Rattle.std.specs.Prelude.{◌-◌, ◌^◌, List, reverse}
use Rattle.nova_outside.specs.History.{Event}
use Rattle.nova_mem.specs.Deeds.{view, told}
use Rattle.nova_mem.specs.declared.parts.Disk.{Disk}

-- what a disk tells of its calls
abbrev pub history_of : Disk → List Event
history_of disk = told (reverse disk.deeds.items) (2 ^ 64 - 1) (view disk.files) disk.replies.items
