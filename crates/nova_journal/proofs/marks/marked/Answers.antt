use Rattle.std.proofs.Common.{IsTrue, List, Option, Some, ℕ, ◌∙◌, ◌<◌, ◌^◌, arith, subst, rules}
use Rattle.nova_outside.specs.Disk.{IsNext}
use Rattle.nova_outside.specs.History.{Event, current}
use Rattle.nova_journal.proofs.Generations.{mark_hit, mark_miss}
use Rattle.nova_journal.proofs.marks.marked.Goals as goal

pub loop-file-preserved-then-file-eq1 : goal.loop-file-preserved-then-file-eq1
loop-file-preserved-then-file-eq1 g c =
    let H = g.H.Host in let i = c.loop-file.invariant in let e = c.next_file.ensures in
    let next : IsTrue H.is_honest → IsNext (current (H.history c.args.host.now)) c.loop-file.after (Some c.in-Some.file) = λ honest.
    subst (λ (h : List Event). IsNext (current h) c.loop-file.after (Some c.in-Some.file)) (i.same honest) (subst (λ (o : Option ℕ). IsNext (current (H.history c.loop-file.host)) c.loop-file.after o) c.in-Some.is (c.in_ok-file.ensures.answer honest)) in
    record {
      so_far = λ honest. mark_hit (current (H.history c.args.host.now)) c.loop-file.after c.in-Some.file (next honest) c.if-file-eq1.true;
      same = λ honest. e.same honest ∙ i.same honest;
      small = let fits : c.in-Some.file < 2 ^ 64 = search rules in omega (arith, c.if-file-eq1.true);
      later = omega (arith, i.later, e.cause.later);
      replies_kept = e.reply_faults ∙ i.replies_kept;
      format_fault = e.bytes_read ∙ i.format_fault;
    }

pub loop-file-preserved : goal.loop-file-preserved
loop-file-preserved g c =
    let H = g.H.Host in let i = c.loop-file.invariant in let e = c.next_file.ensures in
    let next : IsTrue H.is_honest → IsNext (current (H.history c.args.host.now)) c.loop-file.after (Some c.in-Some.file) = λ honest.
    subst (λ (h : List Event). IsNext (current h) c.loop-file.after (Some c.in-Some.file)) (i.same honest) (subst (λ (o : Option ℕ). IsNext (current (H.history c.loop-file.host)) c.loop-file.after o) c.in-Some.is (c.in_ok-file.ensures.answer honest)) in
    record {
      so_far = λ honest. mark_miss (current (H.history c.args.host.now)) c.loop-file.after c.loop-file.best c.in-Some.file (next honest) c.if-file-eq1.false (i.so_far honest);
      same = λ honest. e.same honest ∙ i.same honest;
      small = i.small;
      later = omega (arith, i.later, e.cause.later);
      replies_kept = e.reply_faults ∙ i.replies_kept;
      format_fault = e.bytes_read ∙ i.format_fault;
    }
