use Rattle.std.proofs.Common.{refl}
use Rattle.std.proofs.lemmas.Result.{err_from_is_err_and}
use Rattle.nova_outside.specs.History.{current}
use Rattle.nova_block.proofs.Contents.{is_absent, other_length, unread_told, whole}
use Rattle.nova_block.proofs.file.file_bytes.Goals as goal

pub returns-then-length-size-clause-told : goal.returns-then-length-size-clause-told
returns-then-length-size-clause-told g c honest = (refl, other_length c.args.size c.in-Some.length (current (g.H.Host.history c.args.host.now) c.args.file) (rw c.in-Some.is at c.in_ok-length.ensures.answer honest) c.if-length-size.true)

pub returns-in-None-clause-told : goal.returns-in-None-clause-told
returns-in-None-clause-told g c honest = (refl, is_absent c.args.size (current (g.H.Host.history c.args.host.now) c.args.file) (rw c.in-None.is at c.in_ok-length.ensures.answer honest))

pub returns-in_err-bytes-clause-told : goal.returns-in_err-bytes-clause-told
returns-in_err-bytes-clause-told g c honest =
    let p = err_from_is_err_and c.from_residual-in_err-bytes.result c.from_residual-in_err-bytes.ensures.1 in
    rw (p.1, p.2) (unread_told c.args.size (current (g.H.Host.history c.args.host.now) c.args.file) _ _ c.in_err-bytes.field-0.0 c.in_err-bytes.ensures.cause)
