use Rattle.std.proofs.Common.{◌+◌, ◌*◌, inr, refl}
use Rattle.nova_outside.specs.History.{current}
use Rattle.nova_outside.specs.History.Change.{Created, Synced, SyncFailed}
use Rattle.nova_outside.proofs.Outcomes.{created_fits, free_start, free_call}
use Rattle.nova_journal.proofs.journal.Journal.mark.Goals as goal

pub returns-in_err-create-clause-any_moment : goal.returns-in_err-create-clause-any_moment
returns-in_err-create-clause-any_moment g c = rw (← c.self.view_is) (λ honest.
    let H = g.H.Host in let mark = 4 * c.self.inside.generation + 1 in let h0 = H.history c.args.host.now in
    (free_call Created mark h0 h0 (H.history c.create.new.self) (free_start mark h0) (c.in_err-create.ensures.err honest)).moments)

pub returns-in_err-sync-clause-any_moment : goal.returns-in_err-sync-clause-any_moment
returns-in_err-sync-clause-any_moment g c = rw (← c.self.view_is) (λ honest.
    let H = g.H.Host in let mark = 4 * c.self.inside.generation + 1 in let h0 = H.history c.args.host.now in
    let h1 = H.history c.create.new.self in
    let made = free_call Created mark h0 h0 h1 (free_start mark h0) (inr (created_fits h0 h1 mark (c.in_ok-create.ensures.ok honest))) in
    (free_call SyncFailed mark h0 h1 (H.history c.sync.new.self) made (c.in_err-sync.ensures.err honest)).moments)

pub returns-clause-any_moment : goal.returns-clause-any_moment
returns-clause-any_moment g c = rw (← c.self.view_is) (λ honest.
    let H = g.H.Host in let mark = 4 * c.self.inside.generation + 1 in let h0 = H.history c.args.host.now in
    let h1 = H.history c.create.new.self in
    let made = free_call Created mark h0 h0 h1 (free_start mark h0) (inr (created_fits h0 h1 mark (c.in_ok-create.ensures.ok honest))) in
    (free_call Synced mark h0 h1 (H.history c.sync.new.self) made (inr (record { now = current h1 mark; fits = refl; is = c.in_ok-sync.ensures.ok honest }))).moments)
