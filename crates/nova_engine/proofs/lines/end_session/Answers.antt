use Rattle.std.proofs.Common.{[], subst}
use Rattle.std.proofs.lemmas.Result.{err_from_is_err_and}
use Rattle.nova_engine.specs.Loading.{FitsStore}
use Rattle.nova_engine.specs.Seen.{seen}
use Rattle.nova_engine.proofs.Damage.{grows_nothing}
use Rattle.nova_engine.proofs.SessionLines.{none_of, stops_cut, takes_cut, takes_end}
use Rattle.nova_engine.proofs.lines.end_session.Goals as goal

pub close-requires-clause-fits : goal.close-requires-clause-fits
close-requires-clause-fits g c = subst (λ p. FitsStore c.args.session.store p) c.in-Some.is c.args.session.of_store

pub returns-in_err-close-clause-told : goal.returns-in_err-close-clause-told
returns-in_err-close-clause-told g c =
    let p = err_from_is_err_and c.from_residual.result c.from_residual.ensures.1 in
    rw (p.1, p.2, c.in-Some.is) (stops_cut _ c.args.session.store c.in-Some.pending [] _ (seen g.H.Host c.args.host.now) (seen g.H.Host c.close.new.host) c.in_err-close.ensures.answers)

pub returns-in_ok-close-clause-told : goal.returns-in_ok-close-clause-told
returns-in_ok-close-clause-told g c =
    rw c.in-Some.is (takes_cut _ c.args.session.store c.in-Some.pending [] c.in_ok-close.field-0 (seen g.H.Host c.args.host.now) (seen g.H.Host c.close.new.host) c.in_ok-close.ensures.answers)

pub returns-in_default-clause-told : goal.returns-in_default-clause-told
returns-in_default-clause-told g c =
    let none = none_of c.args.session.load c.in_default.not-Some in
    rw none (takes_end _ c.args.session.store (seen g.H.Host c.args.host.now))

pub returns-in_default-clause-grows : goal.returns-in_default-clause-grows
returns-in_default-clause-grows g c honest = grows_nothing _
