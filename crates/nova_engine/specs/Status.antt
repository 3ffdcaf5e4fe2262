-- The statuses: their numbers, and how each form of the call may end.
use Rattle.std.specs.Prelude.{◌≡◌, ℕ}
use Rattle.nova_engine.specs.declared.status.Status.{Status}
use Rattle.nova_engine.specs.declared.status.Status.TheVariants.{Done, Usage, ReadFault, DiskFault, ReplyFault, NoMemory, NoStore, StoreThere, FlowRefused, Damaged, Full, InputTooLong}

abbrev pub code_of : Status → ℕ
code_of Done = 0
code_of Usage = 1
code_of ReadFault = 2
code_of DiskFault = 3
code_of ReplyFault = 4
code_of NoMemory = 5
code_of NoStore = 6
code_of StoreThere = 7
code_of FlowRefused = 8
code_of Damaged = 9
code_of Full = 10
code_of InputTooLong = 11

-- over every host and every source
abbrev pub IsInitEnd : Status → Type 0
IsInitEnd Done = Unit {0}
IsInitEnd ReadFault = Unit {0}
IsInitEnd FlowRefused = Unit {0}
IsInitEnd DiskFault = Unit {0}
IsInitEnd ReplyFault = Unit {0}
IsInitEnd NoMemory = Unit {0}
IsInitEnd StoreThere = Unit {0}
IsInitEnd _ = ⊥

-- of a call whose store was opened
abbrev pub IsSessionEnd : Status → Type 0
IsSessionEnd Done = Unit {0}
IsSessionEnd ReadFault = Unit {0}
IsSessionEnd DiskFault = Unit {0}
IsSessionEnd ReplyFault = Unit {0}
IsSessionEnd NoMemory = Unit {0}
IsSessionEnd Damaged = Unit {0}
IsSessionEnd Full = Unit {0}
IsSessionEnd InputTooLong = Unit {0}
IsSessionEnd _ = ⊥

-- and of one that opened none
abbrev pub IsUnopenedEnd : Status → Type 0
IsUnopenedEnd DiskFault = Unit {0}
IsUnopenedEnd ReplyFault = Unit {0}
IsUnopenedEnd NoMemory = Unit {0}
IsUnopenedEnd NoStore = Unit {0}
IsUnopenedEnd Damaged = Unit {0}
IsUnopenedEnd _ = ⊥

abbrev pub IsRunEnd : Status → Type 0
IsRunEnd Done = Unit {0}
IsRunEnd ReadFault = Unit {0}
IsRunEnd DiskFault = Unit {0}
IsRunEnd ReplyFault = Unit {0}
IsRunEnd NoMemory = Unit {0}
IsRunEnd NoStore = Unit {0}
IsRunEnd Damaged = Unit {0}
IsRunEnd Full = Unit {0}
IsRunEnd InputTooLong = Unit {0}
IsRunEnd _ = ⊥

-- the number is that of a status which may come so
pub record EndsBy (number : ℕ) (May : Status → Type 0) : Type 0 where
  pub status : Status
  pub is : number ≡ code_of status
  pub may : May status
