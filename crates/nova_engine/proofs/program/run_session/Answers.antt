use Rattle.std.proofs.Common.{Err, ap, refl, arith, length-take, length-take-le}
use Rattle.nova_engine.specs.declared.status.Status.TheVariants.{InputTooLong, ReadFault}
use Rattle.nova_engine.specs.Seen.{seen}
use Rattle.nova_engine.proofs.Damage.{grows_both, grows_nothing, stop_tells, tells_behind}
use Rattle.nova_engine.proofs.Reached.{reached_start, reached_more, reached_kept, consumes_nothing}
use Rattle.nova_engine.proofs.Running.{ran_between, ran_broken, ran_end}
use Rattle.nova_engine.proofs.program.run_session.Goals as goal

pub loop-taken-init : goal.loop-taken-init
loop-taken-init g c = record {
  reached = reached_start _ c.args.store c.opened-reader.result (seen g.H.Host c.args.host.now) _ c.opened-reader.ensures.store c.opened-reader.ensures.load c.opened-reader.ensures.held;
  room = rw c.opened-reader.ensures.load (omega arith);
  limit = omega arith;
  read = omega arith;
  in_host = rw c.opened-reader.ensures.store c.requires.in_host;
  grows = λ honest. grows_nothing _;
  disk = omega arith;
  replied = omega arith;
}

pub returns-in_default-clause-ran : goal.returns-in_default-clause-ran
returns-in_default-clause-ran g c = λ input is.
    ran_between _ c.args.store c.loop-taken.reader (seen g.H.Host c.args.host.now) (seen g.H.Host c.loop-taken.host) _ _ c.loop-taken.taken input is
    (reached_kept _ _ _ _ _ _ _ _ _ c.loop-taken.invariant.reached c.in_default.ensures.bytes)
    ReadFault (omega arith) (λ e. cc) (λ e. omega arith) (λ commits s done later. refl) (λ done later. refl) (λ e. cc) (λ e. cc)

pub returns-then-count-eq0-clause-ran : goal.returns-then-count-eq0-clause-ran
returns-then-count-eq0-clause-ran g c = λ input is.
    let bytes = rw c.if-count-eq0.true at c.in-Ok.ensures.bytes in
    ran_end _ c.args.store c.loop-taken.reader (seen g.H.Host c.args.host.now) (seen g.H.Host c.loop-taken.host) _ _ c.loop-taken.taken input is
    (reached_kept _ _ _ _ _ _ _ _ _ c.loop-taken.invariant.reached (consumes_nothing _ _ bytes))
    c.end_whole.result (seen g.H.Host c.end_whole.new.host) (c.in-Ok.ensures.end c.if-count-eq0.true) (omega arith) c.end_whole.ensures.told

pub returns-in-Err-clause-ran : goal.returns-in-Err-clause-ran
returns-in-Err-clause-ran g c = λ input is.
    ran_broken _ c.args.store c.loop-taken.reader (seen g.H.Host c.args.host.now) (seen g.H.Host c.loop-taken.host) _ _ c.loop-taken.taken input is c.loop-taken.invariant.reached
    _ _ c.in-Err.stop c.end_stopped.result (seen g.H.Host c.take_piece.new.host) (seen g.H.Host c.end_stopped.new.host)
    c.in-Ok.ensures.bytes (omega (arith, c.in-Ok.ensures.bound.0, c.in-Ok.ensures.bound.1, length-take c.in-Ok.count c.fill.new.buffer)) c.in-Err.ensures.told c.end_stopped.ensures.ends

pub returns-in-Err-clause-damage : goal.returns-in-Err-clause-damage
returns-in-Err-clause-damage g c honest e =
    tells_behind _ (g.H.Host.history c.args.host.now) (g.H.Host.history c.take_piece.new.host) (g.H.Host.history c.end_stopped.new.host)
    (grows_both _ _ _ (c.loop-taken.invariant.grows honest) (c.take_piece.ensures.grows honest))
    (stop_tells g.H.Host.is_honest honest (seen g.H.Host c.take_piece.new.host) (seen g.H.Host c.end_stopped.new.host) c.in-Err.stop c.end_stopped.result c.end_stopped.ensures.ends
    (λ file at is. c.in-Err.ensures.cause.damage file at (ap Err is) honest) e)

pub returns-then-count-eq0-clause-damage : goal.returns-then-count-eq0-clause-damage
returns-then-count-eq0-clause-damage g c honest e =
    tells_behind _ (g.H.Host.history c.args.host.now) (g.H.Host.history c.loop-taken.host) (g.H.Host.history c.end_whole.new.host)
    (c.loop-taken.invariant.grows honest) (c.end_whole.ensures.damage honest e)

pub loop-taken-preserved : goal.loop-taken-preserved
loop-taken-preserved g c = record {
  reached = reached_more _ _ c.loop-taken.reader c.in-Ok-take_piece.next _ _ _ _ _ _ c.loop-taken.taken c.in-Ok.count _ c.loop-taken.invariant.reached
      c.in-Ok.ensures.bytes (length-take-le c.in-Ok.count c.fill.new.buffer (omega (arith, c.in-Ok.ensures.bound.0))) c.in-Ok-take_piece.ensures.told;
  room = omega (arith, c.in-Ok-take_piece.ensures.lines, c.loop-taken.invariant.room, length-take c.in-Ok.count c.fill.new.buffer);
  limit = c.in-Ok.ensures.bound.1;
  read = omega (arith, c.loop-taken.invariant.read, c.fill.ensures.cause.later);
  in_host = c.in-Ok-take_piece.ensures.in_host;
  grows = λ honest. grows_both _ _ _ (c.loop-taken.invariant.grows honest) (c.take_piece.ensures.grows honest);
  disk = omega (arith, c.loop-taken.invariant.disk, c.take_piece.ensures.cause.disk_later);
  replied = omega (arith, c.loop-taken.invariant.replied, c.take_piece.ensures.cause.reply_later);
}

pub returns-clause-ran : goal.returns-clause-ran
returns-clause-ran g c = λ input is.
    ran_between _ c.args.store c.loop-taken.reader (seen g.H.Host c.args.host.now) (seen g.H.Host c.loop-taken.host) _ _ c.loop-taken.taken input is c.loop-taken.invariant.reached
    InputTooLong c.loop-taken.invariant.limit (λ e. omega arith) (λ e. cc) (λ commits s done later. refl) (λ done later. refl) (λ e. cc) (λ e. cc)
