use Rattle.nova_script.proofs.Giving.{gives_once}
use Rattle.nova_script.proofs.reply.send.Goals as goal

pub returns : goal.returns
returns g c = record {
  given = rw c.bytes.ensures at (gives_once _ c.reply.result _ _ _ c.reply.ensures.ok c.reply.ensures.err);
  cause = c.reply.ensures.cause;
  disk_faults = c.reply.ensures.disk_faults;
  bytes_read = c.reply.ensures.bytes_read;
}
