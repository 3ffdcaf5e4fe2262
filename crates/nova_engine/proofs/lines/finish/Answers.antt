use Rattle.nova_engine.proofs.Damage.{grows_both}
use Rattle.nova_engine.proofs.Moving.{finishes}
use Rattle.nova_engine.proofs.lines.finish.Goals as goal

pub returns-clause-told : goal.returns-clause-told
returns-clause-told g c = finishes _ c.end_session.result c.args.reader _ _ _ _ c.in_ok-session.ensures.told c.end_session.ensures.told

pub returns-clause-grows : goal.returns-clause-grows
returns-clause-grows g c honest = grows_both _ _ _ (c.in_ok-session.ensures.grows honest) (c.end_session.ensures.grows honest)
