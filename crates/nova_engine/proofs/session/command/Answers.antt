use Rattle.std.proofs.Common.{refl, sym, subst}
use Rattle.std.proofs.lemmas.Result.{err_from_is_err_and}
use Rattle.nova_runner.specs.Around.{around_held}
use Rattle.nova_engine.specs.Loading.{AreMet}
use Rattle.nova_engine.specs.Seen.{seen}
use Rattle.nova_engine.proofs.Damage.{grows_nothing}
use Rattle.nova_engine.proofs.SessionLines.{stops_alone, stops_line, takes_alone, takes_blank, takes_load_line}
use Rattle.nova_engine.proofs.Verbs.{IsNoLoad, alone_met, are_met, load_met}
use Rattle.nova_engine.proofs.session.command.Goals as goal

pub returns-in_default-clause-told : goal.returns-in_default-clause-told
returns-in_default-clause-told g c =
    takes_blank _ c.args.store c.args.line.now _ (seen g.H.Host c.args.host.now) refl refl (sym c.in_default.ensures)

pub begun-requires-clause-met : goal.begun-requires-clause-met
begun-requires-clause-met g c = subst (λ o. AreMet (around_held c.args.store) o) (sym c.in-Some.ensures) (are_met (around_held c.args.store) c.args.line.now)

pub begun-requires-clause-load : goal.begun-requires-clause-load
begun-requires-clause-load g c = load_met (around_held c.args.store) c.args.line.now c.in-Some.met (sym c.if-begins_load.ensures) (sym c.in-Some.ensures)

pub returns-in_err-pending-clause-told : goal.returns-in_err-pending-clause-told
returns-in_err-pending-clause-told g c =
    let p = err_from_is_err_and c.from_residual.result c.from_residual.ensures.1 in
    rw (p.1, p.2) (stops_line _ c.args.store _ c.args.line.now (seen g.H.Host c.args.host.now))

pub returns-then-begins_load-clause-told : goal.returns-then-begins_load-clause-told
returns-then-begins_load-clause-told g c =
    takes_load_line _ c.args.store c.args.line.now _ c.in_ok-pending.pending c.in-Some.met (seen g.H.Host c.args.host.now) refl refl (sym c.if-begins_load.ensures) (sym c.in-Some.ensures) c.in_ok-pending.ensures.load

pub answer-requires-clause-met : goal.answer-requires-clause-met
answer-requires-clause-met g c = subst (λ o. AreMet (around_held c.args.store) o) (sym c.in-Some.ensures) (are_met (around_held c.args.store) c.args.line.now)

pub answer-requires-clause-no_load : goal.answer-requires-clause-no_load
answer-requires-clause-no_load g c n e = subst IsNoLoad e (alone_met (around_held c.args.store) c.args.line.now c.in-Some.met (sym c.if-begins_load.ensures) (sym c.in-Some.ensures))

pub returns-in_err-store-clause-told : goal.returns-in_err-store-clause-told
returns-in_err-store-clause-told g c =
    let p = err_from_is_err_and c.from_residual-in_err-store.result c.from_residual-in_err-store.ensures.1 in
    rw (p.1, p.2) (stops_alone _ c.args.store c.args.line.now _ c.in-Some.met (seen g.H.Host c.args.host.now) (seen g.H.Host c.answer.new.host) (sym c.if-begins_load.ensures) (sym c.in-Some.ensures) c.in_err-store.ensures.answers)

pub returns-clause-told : goal.returns-clause-told
returns-clause-told g c =
    takes_alone _ c.args.store c.args.line.now _ c.in-Some.met (seen g.H.Host c.args.host.now) (seen g.H.Host c.answer.new.host) refl (sym c.if-begins_load.ensures) (sym c.in-Some.ensures) c.in_ok-store.ensures.answers

pub returns-in_default-clause-grows : goal.returns-in_default-clause-grows
returns-in_default-clause-grows g c honest = grows_nothing _

pub returns-in_err-pending-clause-grows : goal.returns-in_err-pending-clause-grows
returns-in_err-pending-clause-grows g c honest = grows_nothing _

pub returns-then-begins_load-clause-grows : goal.returns-then-begins_load-clause-grows
returns-then-begins_load-clause-grows g c honest = grows_nothing _
