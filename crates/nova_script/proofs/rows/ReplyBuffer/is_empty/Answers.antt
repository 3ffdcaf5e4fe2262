use Rattle.std.proofs.Common.{sym, ◌∙◌}
use Rattle.nova_script.proofs.Giving.{empty_is}
use Rattle.nova_script.proofs.rows.ReplyBuffer.is_empty.Goals as goal

pub returns : goal.returns
returns c = λ is. sym c.self.view_is ∙ sym c.as_slice.ensures.value ∙ empty_is c.as_slice.result.now c.is_empty.result c.is_empty.ensures is
