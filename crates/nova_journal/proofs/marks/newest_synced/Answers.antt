use Rattle.std.proofs.Common.{◌+◌, ◌*◌}
use Rattle.nova_outside.proofs.Outcomes.{calm_start, calm_same, calm_sync}
use Rattle.nova_journal.proofs.marks.newest_synced.Goals as goal

pub returns-in_err-generation-clause-any_moment : goal.returns-in_err-generation-clause-any_moment
returns-in_err-generation-clause-any_moment g c honest =
    let H = g.H.Host in let h0 = H.history c.args.host.now in
    (calm_same h0 h0 (H.history c.marked.new.host) (calm_start h0) (c.marked.ensures.same honest)).moments

pub returns-in_default-clause-any_moment : goal.returns-in_default-clause-any_moment
returns-in_default-clause-any_moment g c honest =
    let H = g.H.Host in let h0 = H.history c.args.host.now in
    (calm_same h0 h0 (H.history c.marked.new.host) (calm_start h0) (c.marked.ensures.same honest)).moments

pub returns-in_err-sync-clause-any_moment : goal.returns-in_err-sync-clause-any_moment
returns-in_err-sync-clause-any_moment g c honest =
    let H = g.H.Host in let h0 = H.history c.args.host.now in let h1 = H.history c.marked.new.host in let mark = 4 * c.in-Some.generation + 1 in
    let looked = calm_same h0 h0 h1 (calm_start h0) (c.marked.ensures.same honest) in
    (calm_sync c.sync.result mark h0 h1 (H.history c.sync.new.self) looked (g.met.H.Host.valid c.marked.new.host) (c.sync.ensures.ok honest) (c.sync.ensures.err honest)).moments

pub returns-in_err-sync-2-clause-crash : goal.returns-in_err-sync-2-clause-crash
returns-in_err-sync-2-clause-crash g c honest =
    let H = g.H.Host in let h0 = H.history c.args.host.now in let h1 = H.history c.marked.new.host in let file = 4 * c.in-Some.generation in
    let looked = calm_same h0 h0 h1 (calm_start h0) (c.marked.ensures.same honest) in
    let marked = calm_sync c.sync.result (file + 1) h0 h1 (H.history c.sync.new.self) looked (g.met.H.Host.valid c.marked.new.host) (c.sync.ensures.ok honest) (c.sync.ensures.err honest) in
    (calm_sync c.sync-2.result file h0 (H.history c.sync.new.self) (H.history c.sync-2.new.self) marked (g.met.H.Host.valid c.sync.new.self) (c.sync-2.ensures.ok honest) (c.sync-2.ensures.err honest)).crash

pub returns-in_err-sync-2-clause-any_moment : goal.returns-in_err-sync-2-clause-any_moment
returns-in_err-sync-2-clause-any_moment g c honest =
    let H = g.H.Host in let h0 = H.history c.args.host.now in let h1 = H.history c.marked.new.host in let file = 4 * c.in-Some.generation in
    let looked = calm_same h0 h0 h1 (calm_start h0) (c.marked.ensures.same honest) in
    let marked = calm_sync c.sync.result (file + 1) h0 h1 (H.history c.sync.new.self) looked (g.met.H.Host.valid c.marked.new.host) (c.sync.ensures.ok honest) (c.sync.ensures.err honest) in
    (calm_sync c.sync-2.result file h0 (H.history c.sync.new.self) (H.history c.sync-2.new.self) marked (g.met.H.Host.valid c.sync.new.self) (c.sync-2.ensures.ok honest) (c.sync-2.ensures.err honest)).moments

pub returns-clause-crash : goal.returns-clause-crash
returns-clause-crash g c honest =
    let H = g.H.Host in let h0 = H.history c.args.host.now in let h1 = H.history c.marked.new.host in let file = 4 * c.in-Some.generation in
    let looked = calm_same h0 h0 h1 (calm_start h0) (c.marked.ensures.same honest) in
    let marked = calm_sync c.sync.result (file + 1) h0 h1 (H.history c.sync.new.self) looked (g.met.H.Host.valid c.marked.new.host) (c.sync.ensures.ok honest) (c.sync.ensures.err honest) in
    (calm_sync c.sync-2.result file h0 (H.history c.sync.new.self) (H.history c.sync-2.new.self) marked (g.met.H.Host.valid c.sync.new.self) (c.sync-2.ensures.ok honest) (c.sync-2.ensures.err honest)).crash

pub returns-clause-any_moment : goal.returns-clause-any_moment
returns-clause-any_moment g c honest =
    let H = g.H.Host in let h0 = H.history c.args.host.now in let h1 = H.history c.marked.new.host in let file = 4 * c.in-Some.generation in
    let looked = calm_same h0 h0 h1 (calm_start h0) (c.marked.ensures.same honest) in
    let marked = calm_sync c.sync.result (file + 1) h0 h1 (H.history c.sync.new.self) looked (g.met.H.Host.valid c.marked.new.host) (c.sync.ensures.ok honest) (c.sync.ensures.err honest) in
    (calm_sync c.sync-2.result file h0 (H.history c.sync.new.self) (H.history c.sync-2.new.self) marked (g.met.H.Host.valid c.sync.new.self) (c.sync-2.ensures.ok honest) (c.sync-2.ensures.err honest)).moments
