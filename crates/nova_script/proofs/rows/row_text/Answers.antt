use Rattle.std.proofs.lemmas.Result.{err_from_is_err_and}
use Rattle.nova_script.proofs.Giving.{replies_failed, replies_flushed}
use Rattle.nova_script.proofs.rows.row_text.Goals as goal

pub returns-in_err-push_row : goal.returns-in_err-push_row
returns-in_err-push_row g c =
    let p = err_from_is_err_and c.from_residual.result c.from_residual.ensures.1 in
    rw p.1 (replies_failed _ _ _ _ _ _ _ (rw c.new-waiting.ensures at c.in_err-push_row.ensures))

pub returns : goal.returns
returns g c =
    replies_flushed _ _ c.flush.result _ _ _ _ _ (rw c.new-waiting.ensures at c.in_ok-push_row.ensures) c.flush.ensures.replies
