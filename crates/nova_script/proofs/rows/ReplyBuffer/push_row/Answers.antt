use Rattle.std.proofs.Common.{◌∷◌, [], refl}
use Rattle.std.proofs.lemmas.Result.{err_from_is_err_and}
use Rattle.nova_script.proofs.Giving.{pushes_failed, pushes_then}
use Rattle.nova_script.proofs.rows.ReplyBuffer.push_row.Goals as goal

pub returns-in_err-push : goal.returns-in_err-push
returns-in_err-push g c =
    let p = err_from_is_err_and c.from_residual.result c.from_residual.ensures.1 in
    rw p.1 (pushes_failed _ _ _ _ _ _ _ _ (43 ∷ []) _ _ refl c.in_err-push.ensures)

pub returns-in_err-push_fields : goal.returns-in_err-push_fields
returns-in_err-push_fields g c =
    let p = err_from_is_err_and c.from_residual-in_err-push_fields.result c.from_residual-in_err-push_fields.ensures.1 in
    rw p.1 (pushes_failed _ _ _ _ _ _ _ _ _ (10 ∷ []) _ refl
    (pushes_then _ _ _ _ _ _ _ _ _ (43 ∷ []) _ c.in_ok-push.ensures (rw c.values.ensures at c.in_err-push_fields.ensures)))

pub returns : goal.returns
returns g c =
    pushes_then _ _ c.push-2.result _ _ _ _ _ _ _ (10 ∷ [])
    (pushes_then _ _ _ _ _ _ _ _ _ (43 ∷ []) _ c.in_ok-push.ensures (rw c.values.ensures at c.in_ok-push_fields.ensures)) c.push-2.ensures
