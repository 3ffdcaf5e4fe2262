use Rattle.nova_script.proofs.Giving.{pushes_then}
use Rattle.nova_script.proofs.rows.ReplyBuffer.push_fields.Goals as goal

pub returns : goal.returns
returns g c =
    rw c.in-Some.ensures.cases.0 (pushes_then _ _ c.push_tail.result _ _ _ _ _ _ _ _ c.in_ok-push_value.ensures c.push_tail.ensures)
