use Rattle.std.proofs.Common.{refl, ◌∙◌, ap, arith}
use Rattle.std.proofs.lemmas.Result.{err_from_is_err_and}
use Rattle.nova_script.specs.Replies as line
use Rattle.nova_runner.specs.Steps.{AsksRun}
use Rattle.nova_engine.specs.Seen.{seen}
use Rattle.nova_engine.proofs.Damage.{err_is, grows_both, grows_by, grows_same, in_host_read, ran_damage, read_more, read_replied, stopped_disk, stopped_reply}
use Rattle.nova_engine.proofs.Replying.{ran_stops, ran_takes, run_reads, stopped_one}
use Rattle.nova_engine.proofs.commands.run.Goals as goal

pub returns-in_err-send-in-Ok-clause-answers : goal.returns-in_err-send-in-Ok-clause-answers
returns-in_err-send-in-Ok-clause-answers g c =
    let p = err_from_is_err_and c.from_residual.result c.from_residual.ensures.1 in
    let is = c.ran-line.ensures ∙ ap (λ n. line.ran n c.in-Ok.version) c.task_name.ensures in
    rw (p.1, p.2) (ran_stops _ c.args.store c.in-Ok.store c.args.task c.in-Ok.version c.ran-line.result
    (seen g.H.Host c.args.host.now) (seen g.H.Host c.run.new.host) (seen g.H.Host c.send.new.host)
    c.in-Ok.ensures.step c.in-Ok.ensures.flow c.in-Ok.ensures.version is c.run.ensures.bytes_read c.send.ensures.bytes_read c.in_err-send-in-Ok.ensures.given)

pub returns-in_ok-send-in-Ok-clause-answers : goal.returns-in_ok-send-in-Ok-clause-answers
returns-in_ok-send-in-Ok-clause-answers g c =
    let is = c.ran-line.ensures ∙ ap (λ n. line.ran n c.in-Ok.version) c.task_name.ensures in
    ran_takes _ c.args.store c.in-Ok.store c.args.task c.in-Ok.version c.ran-line.result
    (seen g.H.Host c.args.host.now) (seen g.H.Host c.run.new.host) (seen g.H.Host c.send.new.host)
    c.in-Ok.ensures.step c.in-Ok.ensures.flow c.in-Ok.ensures.version is c.run.ensures.bytes_read c.send.ensures.bytes_read c.in_ok-send-in-Ok.ensures.given

pub returns-in_ok-send-in-Ok-clause-store : goal.returns-in_ok-send-in-Ok-clause-store
returns-in_ok-send-in-Ok-clause-store g c = record {
  in_host = read_replied _ c.in-Ok.store (g.H.Host.history c.run.new.host) (g.H.Host.history c.send.new.host) _ c.in_ok-send-in-Ok.ensures.given
      (read_more _ c.args.store c.in-Ok.store _ (g.H.Host.history c.args.host.now) (g.H.Host.history c.run.new.host) c.in-Ok.ensures.read.2 c.requires.in_host);
  flow = c.in-Ok.ensures.flow;
}

pub returns-in-Err-clause-answers : goal.returns-in-Err-clause-answers
returns-in-Err-clause-answers g c =
    stopped_one _ (AsksRun c.args.task) c.args.store _ _ (seen g.H.Host c.args.host.now) (seen g.H.Host c.run.new.host) c.stop_of.ensures c.in-Err.ensures.step (run_reads c.args.store c.args.task _ _ c.run.ensures.bytes_read)

pub returns-in-Err-clause-cause : goal.returns-in-Err-clause-cause
returns-in-Err-clause-cause g c =
    let s = c.stop_of.result in
    let faults = c.run.ensures.reply_faults in
    record {
      disk_later = c.run.ensures.later;
      reply_later = omega (arith, faults);
      disk_rose = λ is. stopped_disk c.args.store _ _ s c.in-Err.stopped c.stop_of.ensures c.in-Err.ensures.cause (err_is s _ _ refl is);
      reply_rose = λ is. absurd (stopped_reply s c.in-Err.stopped c.stop_of.ensures (err_is s _ _ refl is));
      damage = λ file at is. ran_damage _ c.args.store c.args.task s c.in-Err.stopped (g.H.Host.history c.args.host.now) (g.H.Host.history c.run.new.host) c.stop_of.ensures c.requires.in_host c.requires.task
          c.in-Err.ensures.told c.in-Err.ensures.unchanged file at (err_is s _ _ refl is);
    }

pub run-requires-clause-in_host : goal.run-requires-clause-in_host
run-requires-clause-in_host g c = in_host_read _ c.args.store (g.H.Host.history c.args.host.now) c.requires.in_host

pub returns-in_err-send-in-Ok-clause-grows : goal.returns-in_err-send-in-Ok-clause-grows
returns-in_err-send-in-Ok-clause-grows g c honest =
    let gave = c.in_err-send-in-Ok.ensures.given honest in
    grows_both _ _ _ (grows_same (g.H.Host.history c.args.host.now) (g.H.Host.history c.run.new.host) (c.run.ensures.touched honest).silent) (grows_by (g.H.Host.history c.run.new.host) (g.H.Host.history c.send.new.host) gave.given gave.replied)

pub returns-in_ok-send-in-Ok-clause-grows : goal.returns-in_ok-send-in-Ok-clause-grows
returns-in_ok-send-in-Ok-clause-grows g c honest =
    grows_both _ _ _ (grows_same (g.H.Host.history c.args.host.now) (g.H.Host.history c.run.new.host) (c.run.ensures.touched honest).silent) (grows_by (g.H.Host.history c.run.new.host) (g.H.Host.history c.send.new.host) _ (c.in_ok-send-in-Ok.ensures.given honest))

pub returns-in-Err-clause-grows : goal.returns-in-Err-clause-grows
returns-in-Err-clause-grows g c honest = grows_same (g.H.Host.history c.args.host.now) (g.H.Host.history c.run.new.host) (c.run.ensures.touched honest).silent
