use Rattle.std.proofs.Common.{◌∙◌, inr, length}
use Rattle.nova_outside.specs.Disk.{OneChanges, TornFrom}
use Rattle.nova_outside.specs.History.{Outcome, replies}
use Rattle.nova_outside.specs.History.Change.{Created}
use Rattle.nova_outside.proofs.Moments.{and_then}
use Rattle.nova_outside.proofs.Outcomes.{created_fits, others_kept, leaves_then, span, call}
use Rattle.nova_outside.proofs.writing.put_file.Goals as goal

pub returns-in_err-create-clause-any_moment : goal.returns-in_err-create-clause-any_moment
returns-in_err-create-clause-any_moment g c honest =
    let H = g.H.Host in let file = c.args.file in let h0 = H.history c.args.host.now in
    (call (λ o. Unit {0}) Created file h0 h0 (H.history c.create.new.self) (span _ file h0 (λ o was. tt)) (c.in_err-create.ensures.err honest) (λ o now. tt)).moments

pub returns-clause-any_moment : goal.returns-clause-any_moment
returns-clause-any_moment g c honest =
    let H = g.H.Host in let file = c.args.file in let h0 = H.history c.args.host.now in
    let mid = H.history c.create.new.self in let end = H.history c.write_through.new.host in
    let made = call (λ o. Unit {0}) Created file h0 h0 mid (span _ file h0 (λ o was. tt)) (inr (created_fits h0 mid file (c.in_ok-create.ensures.ok honest))) (λ o now. tt) in
    and_then (OneChanges file (λ o. Unit {0}) (Outcome h0) (replies h0)) (OneChanges file (TornFrom 0 (length c.args.bytes.now) (Outcome mid file)) (Outcome mid) (replies mid)) h0 mid end made.moments (c.write_through.ensures.any_moment honest)
    (λ image said q. record { same_replies = q.same_replies ∙ made.same; here = tt; others = λ other ne. (made.others other ne).0 (image other) (q.others other ne) })

pub returns-clause-crash_others : goal.returns-clause-crash_others
returns-clause-crash_others g c honest =
    let H = g.H.Host in let file = c.args.file in let h0 = H.history c.args.host.now in let mid = H.history c.create.new.self in
    let made = others_kept Created file h0 mid (inr (created_fits h0 mid file (c.in_ok-create.ensures.ok honest))) in
    leaves_then file (Outcome h0) (Outcome mid) (Outcome (H.history c.write_through.new.host)) made.0 (c.write_through.ensures.crash_others honest)
