use Rattle.std.proofs.Common.{◌∙◌, ap}
use Rattle.std.proofs.lemmas.Result.{err_from_is_err_and}
use Rattle.nova_script.specs.Replies as line
use Rattle.nova_runner.specs.Held.{Held}
use Rattle.nova_engine.specs.Seen.{seen}
use Rattle.nova_engine.proofs.Damage.{grows_by, read_replied}
use Rattle.nova_engine.proofs.Replying.{dropped_stops, dropped_takes, read_slot}
use Rattle.nova_engine.proofs.commands.drop_run.Goals as goal

pub returns-in_err-send-clause-answers : goal.returns-in_err-send-clause-answers
returns-in_err-send-clause-answers g c =
    let p = err_from_is_err_and c.from_residual.result c.from_residual.ensures.1 in
    let is = c.dropped-line.ensures ∙ ap (λ n. line.dropped n) c.task_name.ensures in
    rw (p.1, p.2) (dropped_stops _ c.args.store c.drop_run.new.self c.args.task _ c.dropped-line.result (seen g.H.Host c.args.host.now) (seen g.H.Host c.send.new.host)
    c.drop_run.ensures.slot c.send.ensures.bytes_read c.drop_run.ensures.step is c.in_err-send.ensures.given)

pub returns-clause-answers : goal.returns-clause-answers
returns-clause-answers g c =
    let is = c.dropped-line.ensures ∙ ap (λ n. line.dropped n) c.task_name.ensures in
    dropped_takes _ c.args.store c.drop_run.new.self c.args.task _ c.dropped-line.result (seen g.H.Host c.args.host.now) (seen g.H.Host c.send.new.host)
    c.drop_run.ensures.slot c.send.ensures.bytes_read c.drop_run.ensures.step is c.in_ok-send.ensures.given

pub returns-clause-store : goal.returns-clause-store
returns-clause-store g c = record {
  in_host = read_replied _ c.drop_run.new.self (g.H.Host.history c.args.host.now) (g.H.Host.history c.send.new.host) _ c.in_ok-send.ensures.given
      (read_slot _ c.args.store c.drop_run.new.self c.args.task _ (g.H.Host.history c.args.host.now) c.drop_run.ensures.slot c.requires.in_host);
  flow = ap (λ (n : Held). n.flow) c.drop_run.ensures.slot;
}

pub returns-in_err-send-clause-grows : goal.returns-in_err-send-clause-grows
returns-in_err-send-clause-grows g c honest = let gave = c.in_err-send.ensures.given honest in grows_by (g.H.Host.history c.args.host.now) (g.H.Host.history c.send.new.host) gave.given gave.replied

pub returns-clause-grows : goal.returns-clause-grows
returns-clause-grows g c honest = grows_by (g.H.Host.history c.args.host.now) (g.H.Host.history c.send.new.host) _ (c.in_ok-send.ensures.given honest)
