use Rattle.std.proofs.Common.{[], ◌∷◌, sym, subst}
use Rattle.nova_journal.specs.Marks.{Holds}
use Rattle.nova_outside.specs.History.{current}
use Rattle.nova_runner.proofs.Made.{has_first}
use Rattle.nova_runner.proofs.making.make.Goals as goal

pub returns-in-Ok-mark-clause-made : goal.returns-in-Ok-mark-clause-made
returns-in-Ok-mark-clause-made g c honest payload is =
    let H = g.H.Host.history in
    let number = c.in-Ok.ensures.length.1 in
    let first = c.in-Ok.ensures.made honest payload is in
    let kept = rw number at (c.in-Ok-mark.ensures.kept honest (payload ∷ [])) in
    let holds = subst (λ n. Holds 0 n (payload ∷ []) (current (H c.mark.new.host))) (sym c.in-Ok-mark.ensures.same.0) (kept first) in
    has_first (H c.args.host.now) (H c.create.new.host) (c.requires.unmarked honest) (c.in-Ok.ensures.others honest) (H c.mark.new.host) (rw number at (c.in-Ok-mark.ensures.others honest))
    c.in-Ok-mark.journal.length payload (c.in-Ok.ensures.crash_others honest) (rw number at (c.in-Ok-mark.ensures.crash_others honest)) holds (rw number at (c.in-Ok-mark.ensures.marked honest))
    (c.in-Ok.ensures.settled honest) (rw number at (c.in-Ok-mark.ensures.settled honest))
