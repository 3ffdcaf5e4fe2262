use Rattle.std.proofs.Common.{Err, ap}
use Rattle.nova_engine.specs.Seen.{seen}
use Rattle.nova_engine.proofs.Damage.{stop_tells, tells_behind}
use Rattle.nova_engine.proofs.program.end_whole.Goals as goal

pub returns-in-Err-clause-damage : goal.returns-in-Err-clause-damage
returns-in-Err-clause-damage g c honest e =
    tells_behind _ (g.H.Host.history c.args.host.now) (g.H.Host.history c.finish.new.host) (g.H.Host.history c.end_stopped.new.host) (c.finish.ensures.grows honest)
    (stop_tells g.H.Host.is_honest honest (seen g.H.Host c.finish.new.host) (seen g.H.Host c.end_stopped.new.host) c.in-Err.stop c.end_stopped.result c.end_stopped.ensures.ends
    (λ file at is. c.in-Err.ensures.cause.damage file at (ap Err is) honest) e)
