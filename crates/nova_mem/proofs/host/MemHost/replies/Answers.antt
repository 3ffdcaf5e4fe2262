use Rattle.std.proofs.Common.{◌-◌, ◌^◌, reverse, sym, ◌∙◌}
use Rattle.nova_mem.specs.Deeds.{view}
use Rattle.nova_mem.proofs.Told.{replies_told}
use Rattle.nova_mem.proofs.host.MemHost.replies.Goals as goal

pub returns : goal.returns
returns c =
    let disk = c.args.self.now.disk in
    c.deref.ensures.value ∙ sym (replies_told (reverse disk.deeds.items) (2 ^ 64 - 1) (view disk.files) disk.replies.items)
