-- What the calls of a host in memory keep to besides the trait.
use Rattle.std.specs.Prelude.{◌≡◌, ◌⊎◌, ◌+◌, ◌-◌, ◌^◌, min, Result, IsErr, OnOk, OnErr}
use Rattle.nova_mem.specs.Disks.{history_of}
use Rattle.nova_mem.specs.Turns.{IsAmong}
use Rattle.nova_mem.specs.declared.host.MemHost.{MemHost}

-- the next call was told to fail
abbrev pub IsTold : MemHost → Type 0
IsTold host = IsAmong host.calls host.told.items

-- A call counts, fails where it was told to, and elsewhere only where it found no memory, which is counted. One that fails does nothing.
pub record TakesTurn {T E : Type 0} (old new : MemHost) (result : Result T E) : Type 0 where
  pub counted : new.calls ≡ min (old.calls + 1) (2 ^ 64 - 1)
  pub told : new.told ≡ old.told
  pub told_fails : IsTold old → IsErr result
  pub told_fed : IsTold old → new.starved ≡ old.starved
  pub fails_told : OnErr result (IsTold old ⊎ (new.starved ≡ min (old.starved + 1) (2 ^ 64 - 1)))
  pub fails_keep : OnErr result (history_of new.disk ≡ history_of old.disk)
  pub ok_fed : OnOk result (new.starved ≡ old.starved)
  pub ok_disk : OnOk result (new.disk_faults ≡ old.disk_faults)
  pub ok_reply : OnOk result (new.reply_faults ≡ old.reply_faults)
