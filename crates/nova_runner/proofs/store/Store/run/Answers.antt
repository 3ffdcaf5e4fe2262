use Rattle.std.proofs.Common.{rules, ◌≡◌, inl, inr, ◌<◌, refl, ap, sym, ◌∙◌, subst, false, true, length, List}
use Rattle.nova_outside.specs.History.{Event, current}
use Rattle.nova_runner.specs.Committing.{ReadsOn, Touched}
use Rattle.nova_runner.specs.Held.{Held}
use Rattle.nova_runner.specs.Readable.{IsKept}
use Rattle.nova_runner.specs.Runs.{made_commit}
use Rattle.nova_runner.specs.Steps.{IsStopFull, NoRoom, Stopped, why_of}
use Rattle.nova_runner.proofs.Ran.{cut_off, finished, no_room, no_room_now, not_full, not_read, short_now, touched_same}
use Rattle.nova_runner.proofs.RunsReady.{IsReadyOf, files_there, ready_at}
use Rattle.nova_runner.proofs.Tasks.{output_there}
use Rattle.nova_runner.proofs.store.Store.run.Goals as goal

pub returns-then-not-may_run-clause-step : goal.returns-then-not-may_run-clause-step
returns-then-not-may_run-clause-step g c honest commits s x stands asks =
    let store = c.args.self in
    let end = c.length.ensures.is ∙ ap (λ (k : Held). k.journal.length) c.self.view_is in
    let none : c.may_run.result ≡ false = search rules in
    (refl, subst (λ n. NoRoom store s x n) (sym end) (no_room_now store c.args.task commits s x (g.H.Host.history c.args.host.now) stands asks (c.may_run.ensures.full none)))

pub returns-then-not-may_run-clause-full : goal.returns-then-not-may_run-clause-full
returns-then-not-may_run-clause-full g c stop =
    let none : c.may_run.result ≡ false = search rules in
    inl (c.may_run.ensures.full none)

pub returns-in-Err-clause-full : goal.returns-in-Err-clause-full
returns-in-Err-clause-full g c stop = absurd (not_full c.args.self c.in-Err.fault (subst IsStopFull c.not_read.ensures stop))

pub returns-in-Ok-None-clause-full : goal.returns-in-Ok-None-clause-full
returns-in-Ok-None-clause-full g c stop = inr (c.in-Ok.made, λ honest. c.in-Ok.ensures.given honest, subst (IsReadyOf c.args.self c.args.task c.in-Ok.made) c.in-Ok-None.field-0-is c.in-Ok-None.ensures)

pub returns-in-Err-clause-step : goal.returns-in-Err-clause-step
returns-in-Err-clause-step g c honest commits s x stands asks =
    let store = c.args.self in
    let a = g.H.Host.history c.args.host.now in
    let b = g.H.Host.history c.made.new.host in
    let some : c.may_run.result ≡ true = search rules in
    let stop = not_read store c.args.task commits s x a stands asks b c.in-Err.fault (c.made.ensures.same honest) (short_now store c.args.task commits s x a stands asks (c.may_run.ensures.room some)) (c.in-Err.ensures.told honest) in
    subst (λ w. Stopped (why_of w) store commits s x a b) (sym c.not_read.ensures) stop

pub returns-in-Ok-None-clause-step : goal.returns-in-Ok-None-clause-step
returns-in-Ok-None-clause-step g c honest commits s x stands asks =
    let store = c.args.self in
    let a = g.H.Host.history c.args.host.now in
    let end = c.length-in-Ok-None.ensures.is ∙ ap (λ (k : Held). k.journal.length) c.self.view_is in
    let is = c.in-Ok.ensures.made honest commits s stands in
    (c.made.ensures.same honest, subst (λ n. NoRoom store s x n) (sym end) (no_room store c.args.task commits s x a stands asks c.in-Ok.made is (subst (IsReadyOf c.args.self c.args.task c.in-Ok.made) c.in-Ok-None.field-0-is c.in-Ok-None.ensures)))

pub version-version-requires : goal.version-version-requires
version-version-requires g c =
    let inside : Held = record { journal = c.self.inside.journal; flow = c.self.inside.flow; catalog = c.self.inside.catalog; flight = c.self.inside.flight } in
    let lt = subst (λ (k : Held). c.args.task < length k.flow.tasks) (sym c.self.view_is) c.requires.task in
    subst (λ n. n < length inside.catalog.channels) (sym c.output.ensures) (output_there inside c.args.task c.self.invariant lt)

pub returns-in-Ok-commit-clause-step : goal.returns-in-Ok-commit-clause-step
returns-in-Ok-commit-clause-step g c honest commits s x stands asks =
    let kept = subst IsKept c.self.view_is c.self.invariant in
    finished c.args.self c.args.task commits s x (g.H.Host.history c.args.host.now) stands asks _ honest kept _ (g.H.Host.history c.commit.new.host) (c.made.ensures.same honest) c.in-Ok.made
    (c.in-Ok.ensures.made honest commits s stands) c.deref.result.now c.in-Ok-Some.all.1 (ready_at c.args.self c.args.task c.in-Ok.made c.in-Ok-Some.field-0 c.in-Ok-Some.all c.deref.result.now c.in-Ok-Some.field-0-is c.in-Ok-Some.ensures c.deref.ensures.value)
    c.in-Ok-commit.store c.in-Ok-commit.ensures.adds c.in-Ok-commit.ensures.journal.0 (c.commit.ensures.touched honest) (c.in-Ok.ensures.undamaged honest)

pub returns-in-Ok-commit-clause-read : goal.returns-in-Ok-commit-clause-read
returns-in-Ok-commit-clause-read g c =
    let made = ready_at c.args.self c.args.task c.in-Ok.made c.in-Ok-Some.field-0 c.in-Ok-Some.all c.deref.result.now c.in-Ok-Some.field-0-is c.in-Ok-Some.ensures c.deref.ensures.value in
    let own = made_commit c.args.self c.args.task c.in-Ok.made in (
      c.in-Ok.made,
      λ honest. c.in-Ok.ensures.given honest,
      λ honest. subst (λ (h : List Event). ReadsOn g.H.Host.is_honest c.args.self c.in-Ok-commit.store own h (g.H.Host.history c.commit.new.host)) (c.made.ensures.same honest)
          (c.in-Ok-commit.ensures.read own made.fits made.ready) honest,
      λ honest. files_there c.args.self.catalog.next c.in-Ok.made.block c.in-Ok.made.state _ (current (g.H.Host.history c.commit.new.host)) made.files (c.in-Ok-commit.ensures.bytes honest),
    )

pub returns-in-Ok-commit-clause-touched : goal.returns-in-Ok-commit-clause-touched
returns-in-Ok-commit-clause-touched g c honest =
    let made = ready_at c.args.self c.args.task c.in-Ok.made c.in-Ok-Some.field-0 c.in-Ok-Some.all c.deref.result.now c.in-Ok-Some.field-0-is c.in-Ok-Some.ensures c.deref.ensures.value in
    let own = made_commit c.args.self c.args.task c.in-Ok.made in
    touched_same c.args.self c.args.task _ _ (g.H.Host.history c.args.host.now) (g.H.Host.history c.commit.new.host)
    (subst (λ (h : List Event). Touched c.args.self own h (g.H.Host.history c.commit.new.host)) (c.made.ensures.same honest) (c.commit.ensures.touched honest own made.ready made.spare))

pub returns-clause-step : goal.returns-clause-step
returns-clause-step g c honest commits s x stands asks =
    let kept = subst IsKept c.self.view_is c.self.invariant in
    cut_off c.args.self c.args.task commits s x (g.H.Host.history c.args.host.now) stands asks _ honest kept _ (g.H.Host.history c.commit.new.host) (c.made.ensures.same honest) c.in-Ok.made
    (c.in-Ok.ensures.made honest commits s stands) c.deref.result.now c.in-Ok-Some.all.1 (ready_at c.args.self c.args.task c.in-Ok.made c.in-Ok-Some.field-0 c.in-Ok-Some.all c.deref.result.now c.in-Ok-Some.field-0-is c.in-Ok-Some.ensures c.deref.ensures.value)
    c.in-Err-commit.ensures.adds (c.commit.ensures.touched honest)

pub returns-clause-touched : goal.returns-clause-touched
returns-clause-touched g c honest =
    let made = ready_at c.args.self c.args.task c.in-Ok.made c.in-Ok-Some.field-0 c.in-Ok-Some.all c.deref.result.now c.in-Ok-Some.field-0-is c.in-Ok-Some.ensures c.deref.ensures.value in
    let own = made_commit c.args.self c.args.task c.in-Ok.made in
    touched_same c.args.self c.args.task _ _ (g.H.Host.history c.args.host.now) (g.H.Host.history c.commit.new.host)
    (subst (λ (h : List Event). Touched c.args.self own h (g.H.Host.history c.commit.new.host)) (c.made.ensures.same honest) (c.commit.ensures.touched honest own made.ready made.spare))
