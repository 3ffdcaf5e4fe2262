use Rattle.nova_engine.specs.Seen.{seen}
use Rattle.nova_engine.proofs.Making.{ready_told, refusal_told}
use Rattle.nova_engine.proofs.opening.make_store.Goals as goal

pub returns-in-Ok-clause-told : goal.returns-in-Ok-clause-told
returns-in-Ok-clause-told g c honest =
    ready_told c.args.text.now (seen g.H.Host c.args.host.now) (seen g.H.Host c.init.new.host) (seen g.H.Host c.tell_ready.new.host) (c.requires.unmarked honest) c.init.ensures.bytes_read
    c.in-Ok.store (c.in-Ok.ensures.made honest) g.H.Host.is_honest honest c.tell_ready.result c.tell_ready.ensures.told

pub returns-in-Err-Flow-clause-told : goal.returns-in-Err-Flow-clause-told
returns-in-Err-Flow-clause-told g c honest =
    let has = rw c.in-Err-Flow.field-0-is at c.in-Err-Flow.ensures.cause in
    let rest = rw c.in-Err-Flow.field-0-is at (c.in-Err-Flow.ensures.made honest) in
    refusal_told c.args.text.now (seen g.H.Host c.args.host.now) (seen g.H.Host c.init.new.host) (seen g.H.Host c.tell_refused.new.host) (c.requires.unmarked honest) c.init.ensures.bytes_read
    c.in-Err-Flow.why has.0 rest g.H.Host.is_honest honest c.tell_refused.result c.tell_refused.ensures.told
