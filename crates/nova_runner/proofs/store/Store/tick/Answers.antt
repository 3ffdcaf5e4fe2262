use Rattle.std.proofs.Common.{◌+◌, ◌<◌, ◌≤◌, ◌^◌, ◌++◌, ◌∷◌, [], List, ℕ, length, map, ap, sym, ◌∙◌, refl, subst, inl}
use Rattle.nova_outside.specs.History.{current}
use Rattle.nova_commit.specs.Commits.{commit_bytes}
use Rattle.nova_commit.specs.declared.commit.Commit.TheVariants as commit
use Rattle.nova_machine.specs.Steps.{Tick, after}
use Rattle.nova_journal.specs.Marks.{IsIn}
use Rattle.nova_runner.specs.Acts.{IsFull}
use Rattle.nova_runner.specs.Committing.{Touched}
use Rattle.nova_runner.specs.Held.{Held}
use Rattle.nova_runner.specs.Opening.{IsRead}
use Rattle.nova_runner.specs.Steps.{Done, IsStopFull, Stopped, StoreStands, why_of}
use Rattle.nova_runner.proofs.Writing.{added, left, read_holds, reads_on, still_holds, still_long, still_settled, touched}
use Rattle.nova_runner.proofs.Ticks.{all_left, broke, done, full_then, leads, none_put, none_spare, not_err, only_journal, short_log, stop_full, stopped_then, tick_allowed, tick_is_framed, tick_kept, within}
use Rattle.nova_runner.proofs.store.Store.tick.Goals as goal

pub returns-in-Ok-clause-step : goal.returns-in-Ok-clause-step
returns-in-Ok-clause-step g c honest commits s x stands asks =
    let e = c.self.view_is in
    let m = c.args.moment in
    let H0 = g.H.Host.history c.args.host.now in
    let H2 = g.H.Host.history c.append.new.host in
    let old : Held = record { journal = c.self.inside.journal; flow = c.self.inside.flow; catalog = c.self.inside.catalog; flight = c.self.inside.flight } in
    let new : Held = record { journal = c.in-Ok.journal; flow = c.self.inside.flow; catalog = c.tick.new.self; flight = c.self.inside.flight } in
    let stands_now = subst (λ (k : Held). StoreStands k commits H0 s) (sym e) stands in
    let later = subst (λ (k : Held). k.catalog.moment ≤ m) (sym e) c.requires.later in
    let lead = leads old m commits s x H0 asks stands_now c.ranges.moment.fits (tick_allowed old.catalog m c.self.invariant.begun later) in
    let spare = none_spare old.catalog m in
    let framed = c.as_slice.ensures.value ∙ c.frame_tick-framed.ensures ∙ tick_is_framed m in
    let holds = c.in-Ok.ensures.added honest (map commit_bytes commits) (commit_bytes (commit.Tick m)) (still_holds old commits (commit.Tick m) [] s (after s (Tick m)) H0 H0 stands_now lead spare (all_left H0)) framed in
    let add = added old commits (commit.Tick m) [] s (after s (Tick m)) H0 H0 stands_now lead spare (all_left H0) H2 (c.in-Ok.ensures.others honest) new (c.in-Ok.ensures.crash_others honest) (none_put H0)
    refl refl c.tick.ensures c.in-Ok.ensures.length.1 holds (c.in-Ok.ensures.settled honest) in
    let touch = touched old (commit.Tick m) [] spare H0 H0 H2 (all_left H0) refl (c.append.ensures.others honest) (c.append.ensures.replies honest) in
    let room = subst (λ (bs : List ℕ). old.journal.length + length bs ≤ 2 ^ 62) framed (within _ _ (λ past. not_err c.append.result c.in-Ok.journal c.in-Ok.is (c.append.ensures.full past).0)) in
    subst (λ (k : Held). Done k new commits s x [] H0 H2) e (done old m commits s x H0 asks new H2 add c.in-Ok.ensures.length.1 touch (short_log old m commits s x H0 asks stands_now room))

pub returns-in-Err-clause-step : goal.returns-in-Err-clause-step
returns-in-Err-clause-step g c honest commits s x stands asks =
    let e = c.self.view_is in
    let m = c.args.moment in
    let H0 = g.H.Host.history c.args.host.now in
    let H2 = g.H.Host.history c.append.new.host in
    let old : Held = record { journal = c.self.inside.journal; flow = c.self.inside.flow; catalog = c.self.inside.catalog; flight = c.self.inside.flight } in
    let stands_now = subst (λ (k : Held). StoreStands k commits H0 s) (sym e) stands in
    let later = subst (λ (k : Held). k.catalog.moment ≤ m) (sym e) c.requires.later in
    let lead = leads old m commits s x H0 asks stands_now c.ranges.moment.fits (tick_allowed old.catalog m c.self.invariant.begun later) in
    let spare = none_spare old.catalog m in
    let framed = c.as_slice.ensures.value ∙ c.frame_tick-framed.ensures ∙ tick_is_framed m in
    let touch = touched old (commit.Tick m) [] spare H0 H0 H2 (all_left H0) refl (c.append.ensures.others honest) (c.append.ensures.replies honest) in
    let moments = c.append.ensures.any_moment honest (map commit_bytes commits) (commit_bytes (commit.Tick m)) (still_long old commits (commit.Tick m) [] s (after s (Tick m)) H0 H0 stands_now lead spare (all_left H0)) framed
    (still_settled old commits (commit.Tick m) [] s (after s (Tick m)) H0 H0 stands_now lead spare (all_left H0)) in
    let kept = left old commits (commit.Tick m) [] s (after s (Tick m)) H0 H0 stands_now lead spare (all_left H0) H2 (c.append.ensures.others honest) (none_put H0) (g.met.H.Host.valid c.append.new.host) moments in
    let stop = stopped_then old m commits s x H0 asks H2 _ _ _ (λ past. ap g.H.Host.history (c.append.ensures.full past).1)
    (λ past. inl (subst (λ (bs : List ℕ). 2 ^ 62 < old.journal.length + length bs) framed past))
    (λ low. broke old m commits s x H0 asks H2 kept touch (short_log old m commits s x H0 asks stands_now (subst (λ (bs : List ℕ). old.journal.length + length bs ≤ 2 ^ 62) framed low)))
    c.in-Err.fault c.in-Err.ensures.cause in
    subst (λ (k : Held). Stopped (why_of c.stopped_by.result) k commits s x H0 H2) e (subst (λ w. Stopped (why_of w) old commits s x H0 H2) (sym c.stopped_by.ensures) stop)

pub returns-in-Ok-clause-read : goal.returns-in-Ok-clause-read
returns-in-Ok-clause-read g c honest commits read =
    let e = c.self.view_is in
    let m = c.args.moment in
    let H0 = g.H.Host.history c.args.host.now in
    let H2 = g.H.Host.history c.append.new.host in
    let old : Held = record { journal = c.self.inside.journal; flow = c.self.inside.flow; catalog = c.self.inside.catalog; flight = c.self.inside.flight } in
    let new : Held = record { journal = c.in-Ok.journal; flow = c.self.inside.flow; catalog = c.tick.new.self; flight = c.self.inside.flight } in
    let read_now = subst (λ (k : Held). IsRead k commits (current H0)) (sym e) read in
    let later = subst (λ (k : Held). k.catalog.moment ≤ m) (sym e) c.requires.later in
    let framed = c.as_slice.ensures.value ∙ c.frame_tick-framed.ensures ∙ tick_is_framed m in
    let holds = c.in-Ok.ensures.added honest (map commit_bytes commits) (commit_bytes (commit.Tick m)) (read_holds old commits (commit.Tick m) [] H0 H0 (all_left H0) read_now) framed in
    reads_on old commits (commit.Tick m) [] H0 H0 (all_left H0) read_now H2 new (c.in-Ok.ensures.others honest) refl c.tick.ensures c.in-Ok.ensures.length.1 holds c.ranges.moment.fits (tick_allowed old.catalog m c.self.invariant.begun later)

pub returns-in-Ok-clause-touched : goal.returns-in-Ok-clause-touched
returns-in-Ok-clause-touched g c honest =
    let m = c.args.moment in
    let H0 = g.H.Host.history c.args.host.now in
    let H2 = g.H.Host.history c.append.new.host in
    let old : Held = record { journal = c.self.inside.journal; flow = c.self.inside.flow; catalog = c.self.inside.catalog; flight = c.self.inside.flight } in
    subst (λ (k : Held). Touched k (commit.Tick m) H0 H2) c.self.view_is
    (touched old (commit.Tick m) [] (none_spare old.catalog m) H0 H0 H2 (all_left H0) refl (c.append.ensures.others honest) (c.append.ensures.replies honest))

pub returns-in-Err-clause-touched : goal.returns-in-Err-clause-touched
returns-in-Err-clause-touched g c honest =
    let m = c.args.moment in
    let H0 = g.H.Host.history c.args.host.now in
    let H2 = g.H.Host.history c.append.new.host in
    let old : Held = record { journal = c.self.inside.journal; flow = c.self.inside.flow; catalog = c.self.inside.catalog; flight = c.self.inside.flight } in
    subst (λ (k : Held). Touched k (commit.Tick m) H0 H2) c.self.view_is
    (touched old (commit.Tick m) [] (none_spare old.catalog m) H0 H0 H2 (all_left H0) refl (c.append.ensures.others honest) (c.append.ensures.replies honest))

pub returns-in-Ok-clause-in_host : goal.returns-in-Ok-clause-in_host
returns-in-Ok-clause-in_host g c honest =
    let m = c.args.moment in
    let framed = c.as_slice.ensures.value ∙ c.frame_tick-framed.ensures ∙ tick_is_framed m in
    let is = subst (λ (k : Held). IsIn k.journal.generation k.journal.length (current (g.H.Host.history c.args.host.now))) (sym c.self.view_is) (c.requires.in_host honest) in
    (is.0 ++ commit_bytes (commit.Tick m) ∷ [], rw c.in-Ok.ensures.length.1 (c.in-Ok.ensures.added honest is.0 (commit_bytes (commit.Tick m)) is.1 framed))

pub returns-in-Err-clause-full : goal.returns-in-Err-clause-full
returns-in-Err-clause-full g c stop =
    let m = c.args.moment in
    let old : Held = record { journal = c.self.inside.journal; flow = c.self.inside.flow; catalog = c.self.inside.catalog; flight = c.self.inside.flight } in
    let framed = c.as_slice.ensures.value ∙ c.frame_tick-framed.ensures ∙ tick_is_framed m in
    subst (λ (k : Held). IsFull k.journal.length k.catalog (commit.Tick m)) c.self.view_is
    (stop_full (IsFull old.journal.length old.catalog (commit.Tick m)) _ _ _ _ (λ past. inl (subst (λ (bs : List ℕ). 2 ^ 62 < old.journal.length + length bs) framed past)) c.in-Err.fault c.in-Err.ensures.cause
    (subst IsStopFull c.stopped_by.ensures stop))

pub returns-in-Err-clause-room : goal.returns-in-Err-clause-room
returns-in-Err-clause-room g c full =
    let m = c.args.moment in
    let old : Held = record { journal = c.self.inside.journal; flow = c.self.inside.flow; catalog = c.self.inside.catalog; flight = c.self.inside.flight } in
    let framed = c.as_slice.ensures.value ∙ c.frame_tick-framed.ensures ∙ tick_is_framed m in
    let here = subst (λ (k : Held). IsFull k.journal.length k.catalog (commit.Tick m)) (sym c.self.view_is) full in
    let past = subst (λ (bs : List ℕ). 2 ^ 62 < old.journal.length + length bs) (sym framed) (only_journal old.journal.length old.catalog m c.requires.low here) in
    (subst IsStopFull (sym c.stopped_by.ensures) (full_then _ _ _ _ past c.in-Err.fault c.in-Err.ensures.cause), (c.append.ensures.full past).1)

pub returns-in-Ok-clause-room : goal.returns-in-Ok-clause-room
returns-in-Ok-clause-room g c full =
    let m = c.args.moment in
    let old : Held = record { journal = c.self.inside.journal; flow = c.self.inside.flow; catalog = c.self.inside.catalog; flight = c.self.inside.flight } in
    let framed = c.as_slice.ensures.value ∙ c.frame_tick-framed.ensures ∙ tick_is_framed m in
    let here = subst (λ (k : Held). IsFull k.journal.length k.catalog (commit.Tick m)) (sym c.self.view_is) full in
    let past = subst (λ (bs : List ℕ). 2 ^ 62 < old.journal.length + length bs) (sym framed) (only_journal old.journal.length old.catalog m c.requires.low here) in
    absurd (not_err c.append.result c.in-Ok.journal c.in-Ok.is (c.append.ensures.full past).0)

pub invariant_of-result : goal.invariant_of-result
invariant_of-result g c =
    let old : Held = record { journal = c.self.inside.journal; flow = c.self.inside.flow; catalog = c.self.inside.catalog; flight = c.self.inside.flight } in
    tick_kept old c.args.moment c.in-Ok.journal c.tick.new.self c.self.invariant (subst (λ (k : Held). k.catalog.moment ≤ c.args.moment) (sym c.self.view_is) c.requires.later) c.tick.ensures
