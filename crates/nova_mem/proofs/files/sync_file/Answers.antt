use Rattle.nova_mem.specs.Deeds.{view}
use Rattle.nova_mem.proofs.Changes.{synced}
use Rattle.nova_mem.proofs.files.sync_file.Goals as goal

pub returns-clause-ok : goal.returns-clause-ok
returns-clause-ok c = synced c.args.file c.args.deeds.now.items c.push.new.self.items (view c.args.files.now) c.in_ok-push.ensures.items
