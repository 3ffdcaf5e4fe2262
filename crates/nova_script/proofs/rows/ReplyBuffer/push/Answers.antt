use Rattle.std.proofs.Common.{refl, ◌∙◌}
use Rattle.nova_script.proofs.Giving.{pushes_replied}
use Rattle.nova_script.proofs.rows.ReplyBuffer.push.Goals as goal

pub returns : goal.returns
returns g c =
    pushes_replied _ _ c.reply_bytes.result _ _ _ _ _ _ (c.if-hold-2.ensures.same refl ∙ c.in_ok-flush.ensures.empty)
    (rw (c.if-hold.ensures.same refl) at c.in_ok-flush.ensures.replies) c.reply_bytes.ensures
