use Rattle.std.proofs.Common.{inr, ⊎_elim, List, length, refl, sym, subst}
use Rattle.nova_outside.specs.Disk.{TornFrom}
use Rattle.nova_outside.specs.History.{Event, Outcome, current}
use Rattle.nova_outside.specs.History.Change.{Written, Synced, SyncFailed}
use Rattle.nova_outside.proofs.Outcomes.{either, stays, there, write_follows, sync_follows, tears_none, written_fits, span, call}
use Rattle.nova_outside.proofs.writing.write_through.Goals as goal

pub returns-in_err-write-clause-crash : goal.returns-in_err-write-clause-crash
returns-in_err-write-clause-crash g c honest = write_follows c.args.at (length c.args.bytes.now) c.args.file (g.H.Host.history c.args.host.now) (g.H.Host.history c.write.new.self) (c.in_err-write.ensures.err honest)

pub returns-in_err-write-clause-any_moment : goal.returns-in_err-write-clause-any_moment
returns-in_err-write-clause-any_moment g c honest =
    let H = g.H.Host in let file = c.args.file in let h0 = H.history c.args.host.now in let n = length c.args.bytes.now in
    let Q = TornFrom c.args.at n (Outcome h0 file) in
    (call Q (Written c.args.at n) file h0 h0 (H.history c.write.new.self) (span Q file h0 (λ o was. (o, was, tears_none c.args.at n o))) (c.in_err-write.ensures.err honest) (returns-in_err-write-clause-crash g c honest)).moments

pub returns-clause-crash : goal.returns-clause-crash
returns-clause-crash g c honest o out =
    let H = g.H.Host in
    let file = c.args.file in let n = length c.args.bytes.now in
    let mid = H.history c.write.new.self in
    let written = write_follows c.args.at n file (H.history c.args.host.now) mid (inr (written_fits H.history c.args.host.now c.write.new.self c.args.at c.args.bytes.now file (g.met.H.Host.valid c.write.new.self) (c.in_ok-write.ensures.ok honest))) in
    ⊎_elim
    (λ synced. subst (TornFrom c.args.at n (Outcome (H.history c.args.host.now) file)) (sym (there Synced file (current mid file) mid o (subst (λ (h : List Event). Outcome h file o) synced out))) (written (current mid file) (stays mid file (g.met.H.Host.valid c.write.new.self))))
    (λ part. written o (sync_follows file mid (H.history c.sync.new.self) part o out))
    (either c.sync.result (c.sync.ensures.ok honest) (c.sync.ensures.err honest))

pub returns-clause-any_moment : goal.returns-clause-any_moment
returns-clause-any_moment g c honest =
    let H = g.H.Host in let file = c.args.file in let h0 = H.history c.args.host.now in let n = length c.args.bytes.now in
    let Q = TornFrom c.args.at n (Outcome h0 file) in
    let mid = H.history c.write.new.self in let end = H.history c.sync.new.self in
    let step = inr (written_fits H.history c.args.host.now c.write.new.self c.args.at c.args.bytes.now file (g.met.H.Host.valid c.write.new.self) (c.in_ok-write.ensures.ok honest)) in
    let written = call Q (Written c.args.at n) file h0 h0 mid (span Q file h0 (λ o was. (o, was, tears_none c.args.at n o))) step (write_follows c.args.at n file h0 mid step) in
    let here = returns-clause-crash g c honest in
    ⊎_elim (λ ok. (call Q Synced file h0 mid end written (inr (record { now = current mid file; fits = refl; is = ok })) here).moments)
    (λ part. (call Q SyncFailed file h0 mid end written part here).moments)
    (either c.sync.result (c.sync.ensures.ok honest) (c.sync.ensures.err honest))
