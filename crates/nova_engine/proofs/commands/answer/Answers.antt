use Rattle.std.proofs.Common.{◌≡◌, ◌∙◌, Ok, ap, subst}
use Rattle.nova_script.specs.declared.context.Request.TheVariants.{Begin, Drop, Run, Show, Tick}
use Rattle.nova_runner.specs.Around.{around_held}
use Rattle.nova_engine.specs.Loading.{IsMet}
use Rattle.nova_engine.specs.Seen.{seen}
use Rattle.nova_engine.specs.Taking.{AsksMet}
use Rattle.nova_engine.proofs.SessionLines.{answers_by, met_begun, met_dropped, met_ran, met_refused, met_shown, met_ticked}
use Rattle.nova_engine.proofs.commands.answer.Goals as goal

pub returns-in-Ok-Tick-clause-answers : goal.returns-in-Ok-Tick-clause-answers
returns-in-Ok-Tick-clause-answers g c =
    let request : c.in-Ok-Tick.field-0 ≡ Tick c.in-Ok-Tick.moment = rw c.in-Ok-Tick.is at c.in-Ok-Tick.field-0-is in
    answers_by _ _ _ c.args.store (seen g.H.Host c.args.host.now) (seen g.H.Host c.tick.new.host) c.tick.result
    (λ commits s xs stands asks. met_ticked c.in-Ok-Tick.moment c.args.store commits _ s xs (subst (IsMet (around_held c.args.store)) (c.in-Ok-Tick.is ∙ ap Ok request) c.requires.met) stands
    (subst (λ m. AsksMet m s xs) (c.in-Ok-Tick.is ∙ ap Ok request) asks)) c.tick.ensures.answers

pub returns-in-Ok-Run-clause-answers : goal.returns-in-Ok-Run-clause-answers
returns-in-Ok-Run-clause-answers g c =
    let request : c.in-Ok-Run.field-0 ≡ Run c.in-Ok-Run.task = rw c.in-Ok-Run.is at c.in-Ok-Run.field-0-is in
    answers_by _ _ _ c.args.store (seen g.H.Host c.args.host.now) (seen g.H.Host c.run.new.host) c.run.result
    (λ commits s xs stands asks. met_ran c.in-Ok-Run.task c.args.store commits _ s xs (subst (IsMet (around_held c.args.store)) (c.in-Ok-Run.is ∙ ap Ok request) c.requires.met) stands
    (subst (λ m. AsksMet m s xs) (c.in-Ok-Run.is ∙ ap Ok request) asks)) c.run.ensures.answers

pub returns-in-Ok-Begin-clause-answers : goal.returns-in-Ok-Begin-clause-answers
returns-in-Ok-Begin-clause-answers g c =
    let request : c.in-Ok-Begin.field-0 ≡ Begin c.in-Ok-Begin.task = rw c.in-Ok-Begin.is at c.in-Ok-Begin.field-0-is in
    answers_by _ _ _ c.args.store (seen g.H.Host c.args.host.now) (seen g.H.Host c.begin.new.host) c.begin.result
    (λ commits s xs stands asks. met_begun c.in-Ok-Begin.task c.args.store commits _ s xs (subst (IsMet (around_held c.args.store)) (c.in-Ok-Begin.is ∙ ap Ok request) c.requires.met) stands
    (subst (λ m. AsksMet m s xs) (c.in-Ok-Begin.is ∙ ap Ok request) asks)) c.begin.ensures.answers

pub returns-in-Ok-Drop-clause-answers : goal.returns-in-Ok-Drop-clause-answers
returns-in-Ok-Drop-clause-answers g c =
    let request : c.in-Ok-Drop.field-0 ≡ Drop c.in-Ok-Drop.task = rw c.in-Ok-Drop.is at c.in-Ok-Drop.field-0-is in
    answers_by _ _ _ c.args.store (seen g.H.Host c.args.host.now) (seen g.H.Host c.drop_run.new.host) c.drop_run.result
    (λ commits s xs stands asks. met_dropped c.in-Ok-Drop.task c.args.store commits _ s xs (subst (IsMet (around_held c.args.store)) (c.in-Ok-Drop.is ∙ ap Ok request) c.requires.met) stands
    (subst (λ m. AsksMet m s xs) (c.in-Ok-Drop.is ∙ ap Ok request) asks)) c.drop_run.ensures.answers

pub returns-in-Ok-Show-clause-answers : goal.returns-in-Ok-Show-clause-answers
returns-in-Ok-Show-clause-answers g c =
    let request : c.in-Ok-Show.field-0 ≡ Show c.in-Ok-Show.channel = rw c.in-Ok-Show.is at c.in-Ok-Show.field-0-is in
    answers_by _ _ _ c.args.store (seen g.H.Host c.args.host.now) (seen g.H.Host c.show.new.host) c.show.result
    (λ commits s xs stands asks. met_shown c.in-Ok-Show.channel c.args.store commits _ s xs (subst (IsMet (around_held c.args.store)) (c.in-Ok-Show.is ∙ ap Ok request) c.requires.met) stands
    (subst (λ m. AsksMet m s xs) (c.in-Ok-Show.is ∙ ap Ok request) asks)) c.show.ensures.answers

pub returns-in-Err-clause-answers : goal.returns-in-Err-clause-answers
returns-in-Err-clause-answers g c =
    answers_by _ _ _ c.args.store (seen g.H.Host c.args.host.now) (seen g.H.Host c.refused-in-Err.new.host) c.refused-in-Err.result
    (λ commits s xs stands asks. met_refused c.in-Err.refusal s xs (subst (λ m. AsksMet m s xs) c.in-Err.is asks)) c.refused-in-Err.ensures.answers
