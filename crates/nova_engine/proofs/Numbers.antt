-- A call's status by its number.
use Rattle.std.proofs.Common.{◌≡◌, refl, arith}
use Rattle.nova_engine.specs.declared.status.Status.{Status}
use Rattle.nova_engine.specs.declared.status.Status.TheVariants.{Done, Usage, ReadFault, DiskFault, ReplyFault, NoMemory, NoStore, StoreThere, FlowRefused, Damaged, Full, InputTooLong}
use Rattle.nova_engine.specs.Status.{code_of}

-- the statuses that faults are told by, by their numbers
pub read_number : (s : Status) → code_of s ≡ 2 → s ≡ ReadFault
read_number ReadFault e = refl
read_number Done e = absurd (omega (arith, e))
read_number Usage e = absurd (omega (arith, e))
read_number DiskFault e = absurd (omega (arith, e))
read_number ReplyFault e = absurd (omega (arith, e))
read_number NoMemory e = absurd (omega (arith, e))
read_number NoStore e = absurd (omega (arith, e))
read_number StoreThere e = absurd (omega (arith, e))
read_number FlowRefused e = absurd (omega (arith, e))
read_number Damaged e = absurd (omega (arith, e))
read_number Full e = absurd (omega (arith, e))
read_number InputTooLong e = absurd (omega (arith, e))

pub disk_number : (s : Status) → code_of s ≡ 3 → s ≡ DiskFault
disk_number DiskFault e = refl
disk_number Done e = absurd (omega (arith, e))
disk_number Usage e = absurd (omega (arith, e))
disk_number ReadFault e = absurd (omega (arith, e))
disk_number ReplyFault e = absurd (omega (arith, e))
disk_number NoMemory e = absurd (omega (arith, e))
disk_number NoStore e = absurd (omega (arith, e))
disk_number StoreThere e = absurd (omega (arith, e))
disk_number FlowRefused e = absurd (omega (arith, e))
disk_number Damaged e = absurd (omega (arith, e))
disk_number Full e = absurd (omega (arith, e))
disk_number InputTooLong e = absurd (omega (arith, e))

pub reply_number : (s : Status) → code_of s ≡ 4 → s ≡ ReplyFault
reply_number ReplyFault e = refl
reply_number Done e = absurd (omega (arith, e))
reply_number Usage e = absurd (omega (arith, e))
reply_number ReadFault e = absurd (omega (arith, e))
reply_number DiskFault e = absurd (omega (arith, e))
reply_number NoMemory e = absurd (omega (arith, e))
reply_number NoStore e = absurd (omega (arith, e))
reply_number StoreThere e = absurd (omega (arith, e))
reply_number FlowRefused e = absurd (omega (arith, e))
reply_number Damaged e = absurd (omega (arith, e))
reply_number Full e = absurd (omega (arith, e))
reply_number InputTooLong e = absurd (omega (arith, e))
