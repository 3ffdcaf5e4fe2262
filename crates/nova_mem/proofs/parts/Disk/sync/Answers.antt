use Rattle.std.proofs.Common.{◌-◌, ◌^◌}
use Rattle.nova_outside.specs.History.Change.{Synced}
use Rattle.nova_mem.specs.Deeds.{view}
use Rattle.nova_mem.proofs.Told.{kept_after}
use Rattle.nova_mem.proofs.parts.Disk.sync.Goals as goal

pub invariant_of-self : goal.invariant_of-self
invariant_of-self c =
    let disk = c.args.self.now in
    record { kept = kept_after Synced c.args.file (view disk.files c.args.file) disk.deeds.items c.sync_file.new.deeds.items (2 ^ 64 - 1) (view disk.files) (view c.sync_file.new.files) disk.replies.items c.sync_file.result c.sync_file.ensures.ok c.sync_file.ensures.err disk.kept }
