use Rattle.std.proofs.lemmas.Result.{err_from_is_err_and}
use Rattle.nova_outside.specs.History.{current}
use Rattle.nova_state_part.proofs.Parts.{contents_told}
use Rattle.nova_state_part.proofs.file.get.Goals as goal

pub returns-in_err-bytes-clause-told : goal.returns-in_err-bytes-clause-told
returns-in_err-bytes-clause-told g c honest =
    let p = err_from_is_err_and c.from_residual.result c.from_residual.ensures.1 in
    rw (p.1, p.2) (contents_told c.args.sorts.now c.args.size (current (g.H.Host.history c.args.host.now) c.args.file) c.in_err-bytes.field-0.0 (c.in_err-bytes.ensures.told honest))
