use Rattle.std.proofs.Common.{refl}
use Rattle.nova_script.proofs.Giving.{replies_nothing}
use Rattle.nova_script.proofs.rows.ReplyBuffer.flush.Goals as goal

pub returns-then-is_empty-clause-replies : goal.returns-then-is_empty-clause-replies
returns-then-is_empty-clause-replies g c = replies_nothing _ _ _ (c.if-is_empty.ensures refl)
