use Rattle.std.proofs.Common.{refl, sym, subst}
use Rattle.std.proofs.lemmas.Result.{err_from_is_err_and}
use Rattle.nova_engine.specs.Loading.{FitsStore}
use Rattle.nova_engine.specs.Moves.{LineTold}
use Rattle.nova_engine.specs.Seen.{seen}
use Rattle.nova_engine.proofs.Damage.{grows_nothing}
use Rattle.nova_engine.proofs.SessionLines.{fits_kept, stops_dot, stops_line, takes_dot, takes_row_line}
use Rattle.nova_engine.proofs.session.take_line.Goals as goal

pub returns-in-None-clause-told : goal.returns-in-None-clause-told
returns-in-None-clause-told g c =
    subst (λ p. LineTold _ c.args.session.store p c.args.line.now (seen g.H.Host c.args.host.now) (seen g.H.Host c.command.new.host) c.command.result) (sym c.in-None.is) c.command.ensures.told

pub close-requires-clause-fits : goal.close-requires-clause-fits
close-requires-clause-fits g c = subst (λ p. FitsStore c.args.session.store p) c.in-Some.is c.args.session.of_store

pub returns-in_err-store-in-Some-clause-told : goal.returns-in_err-store-in-Some-clause-told
returns-in_err-store-in-Some-clause-told g c =
    let p = err_from_is_err_and c.from_residual.result c.from_residual.ensures.1 in
    rw (p.1, p.2, c.in-Some.is) (stops_dot _ c.args.session.store c.in-Some.pending c.args.line.now _ (seen g.H.Host c.args.host.now) (seen g.H.Host c.close.new.host) (sym c.if-ends_load.ensures) c.in_err-store-in-Some.ensures.answers)

pub returns-in_ok-store-in-Some-clause-told : goal.returns-in_ok-store-in-Some-clause-told
returns-in_ok-store-in-Some-clause-told g c =
    rw c.in-Some.is (takes_dot _ c.args.session.store c.in-Some.pending c.args.line.now _ (seen g.H.Host c.args.host.now) (seen g.H.Host c.close.new.host) refl (sym c.if-ends_load.ensures) c.in_ok-store-in-Some.ensures.answers)

pub returns-in_err-pending-in-Some-clause-told : goal.returns-in_err-pending-in-Some-clause-told
returns-in_err-pending-in-Some-clause-told g c =
    let p = err_from_is_err_and c.from_residual-in_err-pending-in-Some.result c.from_residual-in_err-pending-in-Some.ensures.1 in
    rw (p.1, p.2) (stops_line _ c.args.session.store _ c.args.line.now (seen g.H.Host c.args.host.now))

pub returns-in_ok-pending-in-Some-clause-told : goal.returns-in_ok-pending-in-Some-clause-told
returns-in_ok-pending-in-Some-clause-told g c =
    rw c.in-Some.is (takes_row_line _ c.args.session.store c.in-Some.pending c.args.line.now _ c.in_ok-pending-in-Some.pending (seen g.H.Host c.args.host.now) refl refl (sym c.if-ends_load.ensures) c.in_ok-pending-in-Some.ensures.load)

pub invariant_of-result-else-ends_load : goal.invariant_of-result-else-ends_load
invariant_of-result-else-ends_load g c = record {
  of_store = fits_kept c.args.session.store c.in-Some.pending c.in_ok-pending-in-Some.pending (subst (λ p. FitsStore c.args.session.store p) c.in-Some.is c.args.session.of_store) c.in_ok-pending-in-Some.ensures.schema;
}

pub returns-in_err-pending-in-Some-clause-grows : goal.returns-in_err-pending-in-Some-clause-grows
returns-in_err-pending-in-Some-clause-grows g c honest = grows_nothing _

pub returns-in_ok-pending-in-Some-clause-grows : goal.returns-in_ok-pending-in-Some-clause-grows
returns-in_ok-pending-in-Some-clause-grows g c honest = grows_nothing _
