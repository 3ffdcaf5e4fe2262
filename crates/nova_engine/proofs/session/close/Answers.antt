use Rattle.std.proofs.Common.{Some, ap, subst}
use Rattle.nova_engine.specs.Seen.{seen}
use Rattle.nova_engine.specs.declared.load.Pending.TheVariants.{Rows}
use Rattle.nova_engine.specs.Taking.{AsksClose}
use Rattle.nova_engine.proofs.SessionLines.{answers_by, close_cut, close_refused, close_rows}
use Rattle.nova_engine.proofs.session.close.Goals as goal

pub returns-in-Refused-clause-answers : goal.returns-in-Refused-clause-answers
returns-in-Refused-clause-answers g c =
    answers_by _ _ _ c.args.store (seen g.H.Host c.args.host.now) (seen g.H.Host c.refused.new.host) c.refused.result
    (λ commits s xs stands asks. close_refused c.in-Refused.refusal c.args.is_ended s xs (subst (λ p. AsksClose p c.args.is_ended s xs) c.in-Refused.is asks)) c.refused.ensures.answers

pub returns-then-is_ended-clause-answers : goal.returns-then-is_ended-clause-answers
returns-then-is_ended-clause-answers g c =
    answers_by _ _ _ c.args.store (seen g.H.Host c.args.host.now) (seen g.H.Host c.load.new.host) c.load.result
    (λ commits s xs stands asks. close_rows c.in-Rows.rows s xs (subst (λ e. AsksClose (Rows c.in-Rows.rows) e s xs) c.if-is_ended.true (subst (λ p. AsksClose p c.args.is_ended s xs) c.in-Rows.is asks))) c.load.ensures.answers

pub returns-clause-answers : goal.returns-clause-answers
returns-clause-answers g c =
    answers_by _ _ _ c.args.store (seen g.H.Host c.args.host.now) (seen g.H.Host c.refused-else-is_ended.new.host) c.refused-else-is_ended.result
    (λ commits s xs stands asks. close_cut c.in-Rows.rows s xs (subst (λ e. AsksClose (Rows c.in-Rows.rows) e s xs) c.if-is_ended.false (subst (λ p. AsksClose p c.args.is_ended s xs) c.in-Rows.is asks))) c.refused-else-is_ended.ensures.answers

pub load-requires-clause-channel : goal.load-requires-clause-channel
load-requires-clause-channel g c = (c.requires.fits c.in-Rows.rows (ap (λ p. Some p) c.in-Rows.is)).0

pub load-requires-clause-input : goal.load-requires-clause-input
load-requires-clause-input g c = (c.requires.fits c.in-Rows.rows (ap (λ p. Some p) c.in-Rows.is)).2
