use Rattle.std.proofs.Common.{◌-◌, ◌^◌, None}
use Rattle.nova_outside.specs.History.Change.{Removed}
use Rattle.nova_mem.specs.Deeds.{view}
use Rattle.nova_mem.proofs.Told.{kept_after}
use Rattle.nova_mem.proofs.parts.Disk.remove.Goals as goal

pub invariant_of-self : goal.invariant_of-self
invariant_of-self c =
    let disk = c.args.self.now in
    record { kept = kept_after Removed c.args.file (None) disk.deeds.items c.remove_file.new.deeds.items (2 ^ 64 - 1) (view disk.files) (view c.remove_file.new.files) disk.replies.items c.remove_file.result c.remove_file.ensures.ok c.remove_file.ensures.err disk.kept }
