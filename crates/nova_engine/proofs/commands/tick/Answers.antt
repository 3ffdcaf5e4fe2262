use Rattle.std.proofs.lemmas.Result.{err_from_is_err_and}
use Rattle.nova_runner.specs.Steps.{AsksTick}
use Rattle.nova_engine.specs.Seen.{seen}
use Rattle.nova_engine.proofs.Damage.{grows_both, grows_by, grows_same, in_host_read, read_more, read_replied}
use Rattle.nova_engine.proofs.Replying.{reads_nothing, stopped_one, ticked_stops, ticked_takes}
use Rattle.nova_engine.proofs.commands.tick.Goals as goal

pub returns-in_err-send-in-Ok-clause-answers : goal.returns-in_err-send-in-Ok-clause-answers
returns-in_err-send-in-Ok-clause-answers g c =
    let p = err_from_is_err_and c.from_residual.result c.from_residual.ensures.1 in
    rw (p.1, p.2) (ticked_stops _ c.args.store c.in-Ok.store c.args.moment c.ticked-line.result
    (seen g.H.Host c.args.host.now) (seen g.H.Host c.tick.new.host) (seen g.H.Host c.send.new.host)
    c.in-Ok.ensures.step c.ticked-line.ensures c.tick.ensures.bytes_read c.send.ensures.bytes_read c.in_err-send-in-Ok.ensures.given)

pub returns-in_ok-send-in-Ok-clause-answers : goal.returns-in_ok-send-in-Ok-clause-answers
returns-in_ok-send-in-Ok-clause-answers g c =
    ticked_takes _ c.args.store c.in-Ok.store c.args.moment c.ticked-line.result
    (seen g.H.Host c.args.host.now) (seen g.H.Host c.tick.new.host) (seen g.H.Host c.send.new.host)
    c.in-Ok.ensures.step c.ticked-line.ensures c.tick.ensures.bytes_read c.send.ensures.bytes_read c.in_ok-send-in-Ok.ensures.given

pub returns-in_ok-send-in-Ok-clause-store : goal.returns-in_ok-send-in-Ok-clause-store
returns-in_ok-send-in-Ok-clause-store g c = record {
  in_host = read_replied _ c.in-Ok.store (g.H.Host.history c.tick.new.host) (g.H.Host.history c.send.new.host) _ c.in_ok-send-in-Ok.ensures.given
      (read_more _ c.args.store c.in-Ok.store _ (g.H.Host.history c.args.host.now) (g.H.Host.history c.tick.new.host) c.in-Ok.ensures.read c.requires.in_host);
  flow = c.in-Ok.ensures.flow;
}

pub returns-in-Err-clause-answers : goal.returns-in-Err-clause-answers
returns-in-Err-clause-answers g c =
    let asks = AsksTick c.args.moment in
    stopped_one _ asks c.args.store _ _ (seen g.H.Host c.args.host.now) (seen g.H.Host c.tick.new.host) c.stop_of.ensures c.in-Err.ensures.step (reads_nothing asks c.args.store _ _ c.tick.ensures.bytes_read)

pub tick-requires-clause-in_host : goal.tick-requires-clause-in_host
tick-requires-clause-in_host g c = in_host_read _ c.args.store (g.H.Host.history c.args.host.now) c.requires.in_host

pub returns-in_err-send-in-Ok-clause-grows : goal.returns-in_err-send-in-Ok-clause-grows
returns-in_err-send-in-Ok-clause-grows g c honest =
    let gave = c.in_err-send-in-Ok.ensures.given honest in
    grows_both _ _ _ (grows_same (g.H.Host.history c.args.host.now) (g.H.Host.history c.tick.new.host) (c.tick.ensures.touched honest).silent) (grows_by (g.H.Host.history c.tick.new.host) (g.H.Host.history c.send.new.host) gave.given gave.replied)

pub returns-in_ok-send-in-Ok-clause-grows : goal.returns-in_ok-send-in-Ok-clause-grows
returns-in_ok-send-in-Ok-clause-grows g c honest =
    grows_both _ _ _ (grows_same (g.H.Host.history c.args.host.now) (g.H.Host.history c.tick.new.host) (c.tick.ensures.touched honest).silent) (grows_by (g.H.Host.history c.tick.new.host) (g.H.Host.history c.send.new.host) _ (c.in_ok-send-in-Ok.ensures.given honest))

pub returns-in-Err-clause-grows : goal.returns-in-Err-clause-grows
returns-in-Err-clause-grows g c honest = grows_same (g.H.Host.history c.args.host.now) (g.H.Host.history c.tick.new.host) (c.tick.ensures.touched honest).silent
