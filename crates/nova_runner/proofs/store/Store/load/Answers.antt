use Rattle.std.proofs.Common.{rules, ◌≡◌, refl, ap, sym, ◌∙◌, subst, false}
use Rattle.nova_runner.specs.Acts.{load_commit}
use Rattle.nova_runner.specs.Held.{Held}
use Rattle.nova_runner.specs.Readable.{IsKept}
use Rattle.nova_runner.specs.Steps.{NoRoom}
use Rattle.nova_runner.proofs.Loads.{broke, done, leads, no_room, ready_room, short_log}
use Rattle.nova_runner.proofs.store.Store.load.Goals as goal

pub returns-then-not-has_room-clause-step : goal.returns-then-not-has_room-clause-step
returns-then-not-has_room-clause-step g c honest commits s x stands asks =
    let store = c.args.self in
    let end = c.length.ensures.is ∙ ap (λ (k : Held). k.journal.length) c.self.view_is in
    let none : c.has_room.result ≡ false = search rules in
    (refl, subst (λ n. NoRoom store s x n) (sym end) (no_room store c.args.channel c.args.delta.now commits s x (g.H.Host.history c.args.host.now) stands asks (c.has_room.ensures.full none)))

pub returns-in-Ok-commit-clause-step : goal.returns-in-Ok-commit-clause-step
returns-in-Ok-commit-clause-step g c honest commits s x stands asks =
    let store = c.args.self in
    let delta = c.args.delta.now in
    let made = c.in-Ok.ensures in
    let kept = subst IsKept c.self.view_is c.self.invariant in
    let h = g.H.Host.history c.args.host.now in
    let leads_now = leads store c.args.channel delta commits s x h stands asks c.in-Ok.made.0 kept c.ranges.channel.fits made.number made.bytes made.ready.prepared.allowed in
    done store c.args.channel delta commits s x h stands asks c.in-Ok-commit.store (g.H.Host.history c.commit.new.host)
    (c.in-Ok-commit.ensures.adds _ made.ready made.spare honest commits s _ stands leads_now) c.in-Ok-commit.ensures.journal.0 (c.in-Ok-commit.ensures.touched honest _ made.ready made.spare)
    (short_log store c.args.channel delta commits s x h stands asks (ready_room store (load_commit store.catalog c.args.channel delta) c.in-Ok.made.1 made.ready))

pub returns-clause-step : goal.returns-clause-step
returns-clause-step g c honest commits s x stands asks =
    let store = c.args.self in
    let delta = c.args.delta.now in
    let made = c.in-Ok.ensures in
    let kept = subst IsKept c.self.view_is c.self.invariant in
    let h = g.H.Host.history c.args.host.now in
    let leads_now = leads store c.args.channel delta commits s x h stands asks c.in-Ok.made.0 kept c.ranges.channel.fits made.number made.bytes made.ready.prepared.allowed in
    broke store c.args.channel delta commits s x h stands asks (g.H.Host.history c.commit.new.host)
    (c.in-Err-commit.ensures.adds _ made.ready made.spare honest commits s _ stands leads_now) (c.in-Err-commit.ensures.touched honest _ made.ready made.spare)
    (short_log store c.args.channel delta commits s x h stands asks (ready_room store (load_commit store.catalog c.args.channel delta) c.in-Ok.made.1 made.ready))

pub returns-in-Ok-commit-clause-read : goal.returns-in-Ok-commit-clause-read
returns-in-Ok-commit-clause-read g c = let made = c.in-Ok.ensures in c.in-Ok-commit.ensures.read (load_commit c.args.self.catalog c.args.channel c.args.delta.now) made.fits made.ready

pub returns-in-Ok-commit-clause-touched : goal.returns-in-Ok-commit-clause-touched
returns-in-Ok-commit-clause-touched g c honest = let made = c.in-Ok.ensures in c.commit.ensures.touched honest _ made.ready made.spare

pub returns-clause-touched : goal.returns-clause-touched
returns-clause-touched g c honest = let made = c.in-Ok.ensures in c.commit.ensures.touched honest _ made.ready made.spare
