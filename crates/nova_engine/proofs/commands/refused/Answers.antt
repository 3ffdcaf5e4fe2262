use Rattle.std.proofs.Common.{refl}
use Rattle.std.proofs.lemmas.Result.{err_from_is_err_and}
use Rattle.nova_engine.specs.Seen.{seen}
use Rattle.nova_engine.proofs.Damage.{grows_by, read_replied}
use Rattle.nova_engine.proofs.Replying.{refused_stops, refused_takes}
use Rattle.nova_engine.proofs.commands.refused.Goals as goal

pub returns-in_err-refuse-clause-answers : goal.returns-in_err-refuse-clause-answers
returns-in_err-refuse-clause-answers g c =
    let p = err_from_is_err_and c.from_residual.result c.from_residual.ensures.1 in
    rw (p.1, p.2) (refused_stops _ c.args.store c.args.refusal (seen g.H.Host c.args.host.now) (seen g.H.Host c.refuse.new.host) c.in_err-refuse.ensures.given c.in_err-refuse.ensures.bytes_read)

pub returns-clause-answers : goal.returns-clause-answers
returns-clause-answers g c =
    refused_takes _ c.args.store c.args.refusal (seen g.H.Host c.args.host.now) (seen g.H.Host c.refuse.new.host) c.in_ok-refuse.ensures.given c.in_ok-refuse.ensures.bytes_read

pub returns-clause-store : goal.returns-clause-store
returns-clause-store g c = record {
  in_host = read_replied _ c.args.store (g.H.Host.history c.args.host.now) (g.H.Host.history c.refuse.new.host) _ c.in_ok-refuse.ensures.given c.requires.in_host;
  flow = refl;
}

pub returns-in_err-refuse-clause-grows : goal.returns-in_err-refuse-clause-grows
returns-in_err-refuse-clause-grows g c honest = let gave = c.in_err-refuse.ensures.given honest in grows_by (g.H.Host.history c.args.host.now) (g.H.Host.history c.refuse.new.host) gave.given gave.replied

pub returns-clause-grows : goal.returns-clause-grows
returns-clause-grows g c honest = grows_by (g.H.Host.history c.args.host.now) (g.H.Host.history c.refuse.new.host) _ (c.in_ok-refuse.ensures.given honest)
