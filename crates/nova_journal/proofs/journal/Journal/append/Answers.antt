use Rattle.std.proofs.Common.{◌+◌, ◌*◌, ◌<◌, ◌-◌, ◌^◌, inl, length, sym, subst, arith, ◌∙◌}
use Rattle.nova_outside.specs.Disk.{TornFrom, OneChanges}
use Rattle.nova_outside.specs.History.{Outcome, current, replies, Meanwhile}
use Rattle.nova_outside.proofs.Moments.{started, and_then, weaker}
use Rattle.nova_outside.proofs.Outcomes.{leaves_then}
use Rattle.nova_journal.specs.Log.{BeforeOrAfter}
use Rattle.nova_journal.proofs.Outcomes.{short_payload, body_outcome, gate_outcome, gate_done}
use Rattle.nova_journal.proofs.Generations.{mark_apart}
use Rattle.nova_journal.proofs.journal.Journal.append.Goals as goal

pub returns-in_err-write_through-clause-any_moment : goal.returns-in_err-write_through-clause-any_moment
returns-in_err-write_through-clause-any_moment g c = rw (← c.self.view_is) (λ honest payloads payload log is only.
    let H = g.H.Host in let file = 4 * c.self.inside.generation in let end = c.self.inside.length in let framed = c.args.framed.now in
    let h0 = H.history c.args.host.now in let h1 = H.history c.write_through.new.host in
    let P = OneChanges file (BeforeOrAfter payloads payload) (Outcome h0) (replies h0) in
    let Q = OneChanges file (TornFrom end (length framed) (Outcome h0 file)) (Outcome h0) (replies h0) in
    let body : Meanwhile P h0 h1 = weaker P Q h0 h1 (c.write_through.ensures.any_moment honest) (λ image r h. record { same_replies = h.same_replies; here = inl (body_outcome end payloads payload framed (current h0 file) log is (Outcome h0 file) only (image file) h.here); others = h.others }) in
    body)

pub returns-in_err-write_through-2-clause-any_moment : goal.returns-in_err-write_through-2-clause-any_moment
returns-in_err-write_through-2-clause-any_moment g c = rw (← c.self.view_is) (λ honest payloads payload log is only.
    let H = g.H.Host in let file = 4 * c.self.inside.generation in let end = c.self.inside.length in let framed = c.args.framed.now in
    let h0 = H.history c.args.host.now in let h1 = H.history c.write_through.new.host in
    let P = OneChanges file (BeforeOrAfter payloads payload) (Outcome h0) (replies h0) in
    let Q = OneChanges file (TornFrom end (length framed) (Outcome h0 file)) (Outcome h0) (replies h0) in
    let body : Meanwhile P h0 h1 = weaker P Q h0 h1 (c.write_through.ensures.any_moment honest) (λ image r h. record { same_replies = h.same_replies; here = inl (body_outcome end payloads payload framed (current h0 file) log is (Outcome h0 file) only (image file) h.here); others = h.others }) in
    let h2 = H.history c.write_through-2.new.host in let w = c.in_ok-write_through.ensures in
    let fits : length framed < 2 ^ 64 = omega arith in
    let short = short_payload payload framed is fits in
    let R = OneChanges file (TornFrom (end - 1) 1 (Outcome h1 file)) (Outcome h1) (replies h1) in
    and_then P R h0 h1 h2 body (c.write_through-2.ensures.any_moment honest) (λ image r h. record {
      same_replies = h.same_replies ∙ c.write_through.ensures.replies honest;
      here = gate_outcome end payloads payload framed (current h0 file) log is (current h1 file) (w.written honest) short (Outcome h1 file) (w.settled honest) (image file) h.here;
      others = λ other ne. (c.write_through.ensures.crash_others honest other ne).0 (image other) (h.others other ne);
    }))

pub returns-clause-any_moment : goal.returns-clause-any_moment
returns-clause-any_moment g c = rw (← c.self.view_is) (λ honest payloads payload log is only.
    let H = g.H.Host in let file = 4 * c.self.inside.generation in let end = c.self.inside.length in let framed = c.args.framed.now in
    let h0 = H.history c.args.host.now in let h1 = H.history c.write_through.new.host in
    let P = OneChanges file (BeforeOrAfter payloads payload) (Outcome h0) (replies h0) in
    let Q = OneChanges file (TornFrom end (length framed) (Outcome h0 file)) (Outcome h0) (replies h0) in
    let body : Meanwhile P h0 h1 = weaker P Q h0 h1 (c.write_through.ensures.any_moment honest) (λ image r h. record { same_replies = h.same_replies; here = inl (body_outcome end payloads payload framed (current h0 file) log is (Outcome h0 file) only (image file) h.here); others = h.others }) in
    let h2 = H.history c.write_through-2.new.host in let w = c.in_ok-write_through.ensures in
    let fits : length framed < 2 ^ 64 = omega arith in
    let short = short_payload payload framed is fits in
    let R = OneChanges file (TornFrom (end - 1) 1 (Outcome h1 file)) (Outcome h1) (replies h1) in
    and_then P R h0 h1 h2 body (c.write_through-2.ensures.any_moment honest) (λ image r h. record {
      same_replies = h.same_replies ∙ c.write_through.ensures.replies honest;
      here = gate_outcome end payloads payload framed (current h0 file) log is (current h1 file) (w.written honest) short (Outcome h1 file) (w.settled honest) (image file) h.here;
      others = λ other ne. (c.write_through.ensures.crash_others honest other ne).0 (image other) (h.others other ne);
    }))

pub returns-clause-added : goal.returns-clause-added
returns-clause-added g c = rw (← c.self.view_is) (λ honest payloads payload held is.
    let H = g.H.Host in let x = c.self.inside.generation in let file = 4 * x in
    let fits : length c.args.framed.now < 2 ^ 64 = omega arith in
    record {
      log = gate_done c.self.inside.length payloads payload c.args.framed.now (current (H.history c.args.host.now) file) held.log is (current (H.history c.write_through.new.host) file) (current (H.history c.write_through-2.new.host) file)
          (c.in_ok-write_through.ensures.written honest) (c.in_ok-write_through-2.ensures.written honest) (short_payload payload c.args.framed.now is fits);
      newest = λ y lt. c.write_through-2.ensures.others honest (4 * y + 1) (mark_apart x y) ∙ c.write_through.ensures.others honest (4 * y + 1) (mark_apart x y) ∙ held.newest y lt;
    })

pub returns-then-self-size-gt-LIMIT-clause-any_moment : goal.returns-then-self-size-gt-LIMIT-clause-any_moment
returns-then-self-size-gt-LIMIT-clause-any_moment g c = rw (← c.self.view_is) (λ honest payloads payload log is only.
    let H = g.H.Host in let file = 4 * c.self.inside.generation in let h0 = H.history c.args.host.now in
    started h0 (OneChanges file (BeforeOrAfter payloads payload) (Outcome h0) (replies h0))
    (λ image r w. record { same_replies = w.1; here = subst (BeforeOrAfter payloads payload) (sym (only (image file) (w.0 file))) (inl log.log); others = λ other ne. w.0 other }))

pub returns-in_err-write_through-2-clause-crash_others : goal.returns-in_err-write_through-2-clause-crash_others
returns-in_err-write_through-2-clause-crash_others g c = rw (← c.self.view_is) (λ honest.
    leaves_then _ _ _ _ (c.write_through.ensures.crash_others honest) (c.write_through-2.ensures.crash_others honest))

pub returns-clause-crash_others : goal.returns-clause-crash_others
returns-clause-crash_others g c = rw (← c.self.view_is) (λ honest.
    leaves_then _ _ _ _ (c.write_through.ensures.crash_others honest) (c.write_through-2.ensures.crash_others honest))

pub returns-in_err-write_through-clause-crash_others : goal.returns-in_err-write_through-clause-crash_others
returns-in_err-write_through-clause-crash_others g c = rw (← c.self.view_is) (λ honest. c.write_through.ensures.crash_others honest)
