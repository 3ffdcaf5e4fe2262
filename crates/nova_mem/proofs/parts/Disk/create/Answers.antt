use Rattle.std.proofs.Common.{[], Some, ◌-◌, ◌^◌}
use Rattle.nova_outside.specs.History.Change.{Created}
use Rattle.nova_mem.specs.Deeds.{view}
use Rattle.nova_mem.proofs.Told.{kept_after}
use Rattle.nova_mem.proofs.parts.Disk.create.Goals as goal

pub invariant_of-self : goal.invariant_of-self
invariant_of-self c =
    let disk = c.args.self.now in
    record { kept = kept_after Created c.args.file (Some []) disk.deeds.items c.create_file.new.deeds.items (2 ^ 64 - 1) (view disk.files) (view c.create_file.new.files) disk.replies.items c.create_file.result c.create_file.ensures.ok c.create_file.ensures.err disk.kept }
