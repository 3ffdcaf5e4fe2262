use Rattle.std.proofs.Common.{◌++◌, ◌∙◌, refl, subst, sym}
use Rattle.std.proofs.lemmas.Result.{err_from_is_err_and}
use Rattle.nova_machine.proofs.Cuts.{has_newline-append}
use Rattle.nova_engine.specs.Positions.{IsFront}
use Rattle.nova_engine.proofs.Damage.{grows_nothing}
use Rattle.nova_engine.proofs.ItemLines.{front_all, front_kept, front_pushed, kept_clean, nothing_kept}
use Rattle.nova_engine.proofs.Moving.{breaks_at_once, breaks_line, moves_line}
use Rattle.nova_engine.proofs.lines.end_line.Goals as goal

pub returns-in_err-session-clause-told : goal.returns-in_err-session-clause-told
returns-in_err-session-clause-told g c =
    let p = err_from_is_err_and c.from_residual.result c.from_residual.ensures.1 in
    let none = c.if-holds_nothing.ensures.none refl in
    rw (p.1, p.2) (breaks_line _ c.args.reader _ _ c.args.bytes.now c.args.bytes.now c.requires.line
    (λ carry is. subst (λ t. IsFront c.args.bytes.now (t ++ c.args.bytes.now)) (sym (nothing_kept carry (sym is ∙ none))) (front_all c.args.bytes.now)) _ c.in_err-session.ensures.told)

pub returns-then-holds_nothing-clause-told : goal.returns-then-holds_nothing-clause-told
returns-then-holds_nothing-clause-told g c =
    let none = c.if-holds_nothing.ensures.none refl in
    moves_line _ c.args.reader _ _ c.args.bytes.now c.args.bytes.now c.requires.line
    (λ carry is. subst (λ t. IsFront c.args.bytes.now (t ++ c.args.bytes.now)) (sym (nothing_kept carry (sym is ∙ none))) (front_all c.args.bytes.now)) _ c.in_ok-session.ensures.told none

pub returns-in_err-push-clause-told : goal.returns-in_err-push-clause-told
returns-in_err-push-clause-told g c =
    let p = err_from_is_err_and c.from_residual-in_err-push.result c.from_residual-in_err-push.ensures.1 in
    rw (p.1, p.2) (breaks_at_once _ _ _ _)

pub take_line-requires-2-clause-line : goal.take_line-requires-2-clause-line
take_line-requires-2-clause-line g c =
    rw (c.bytes.ensures, c.in_ok-push.ensures.held) (kept_clean (c.args.reader.held ++ c.args.bytes.now) (has_newline-append c.args.reader.held c.args.bytes.now c.args.reader.one_line c.requires.line))

pub returns-in_err-session-2-clause-told : goal.returns-in_err-session-2-clause-told
returns-in_err-session-2-clause-told g c =
    let p = err_from_is_err_and c.from_residual-in_err-session-2.result c.from_residual-in_err-session-2.ensures.1 in
    let line = c.bytes.ensures ∙ c.in_ok-push.ensures.held in
    rw (p.1, p.2) (breaks_line _ c.args.reader _ _ c.bytes.result.now c.args.bytes.now c.requires.line
    (λ carry is. subst (λ t. IsFront t (carry ++ c.args.bytes.now)) (sym (front_pushed c.args.reader.held carry c.args.bytes.now c.bytes.result.now is line)) (front_kept (carry ++ c.args.bytes.now))) _ c.in_err-session-2.ensures.told)

pub returns-clause-told : goal.returns-clause-told
returns-clause-told g c =
    let line = c.bytes.ensures ∙ c.in_ok-push.ensures.held in
    moves_line _ c.args.reader _ _ c.bytes.result.now c.args.bytes.now c.requires.line
    (λ carry is. subst (λ t. IsFront t (carry ++ c.args.bytes.now)) (sym (front_pushed c.args.reader.held carry c.args.bytes.now c.bytes.result.now is line)) (front_kept (carry ++ c.args.bytes.now))) _ c.in_ok-session-2.ensures.told c.clear.ensures

pub returns-in_err-push-clause-grows : goal.returns-in_err-push-clause-grows
returns-in_err-push-clause-grows g c honest = grows_nothing _
