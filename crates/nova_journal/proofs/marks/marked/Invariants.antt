use Rattle.std.proofs.Common.{◌≡◌, ◌≤◌, ◌<◌, ◌+◌, ◌*◌, ◌-◌, ◌^◌, ℕ, Option, None, Some, IsTrue, IfSome}
use Rattle.nova_outside.specs.History.{current}
use Rattle.nova_journal.specs.Marks.{MarkSoFar}
use Rattle.nova_journal.proofs.marks.marked.Given as goal

abbrev pub invariant-loop-file : goal.invariant-loop-file
invariant-loop-file g l = record {
  so_far : IsTrue g.H.Host.is_honest → MarkSoFar (current (g.H.Host.history l.fn.host)) l.after l.best;
  same : IsTrue g.H.Host.is_honest → g.H.Host.history l.host ≡ g.H.Host.history l.fn.host;
  small : IfSome l.best (λ x. 4 * x + 1 < 2 ^ 64);
  later : g.H.Host.disk_faults l.fn.host ≤ g.H.Host.disk_faults l.host;
  replies_kept : g.H.Host.reply_faults l.host ≡ g.H.Host.reply_faults l.fn.host;
  format_fault : g.H.Host.bytes_read l.host ≡ g.H.Host.bytes_read l.fn.host;
}

abbrev left : Option ℕ → ℕ
left None = 2 ^ 64
left (Some a) = 2 ^ 64 - 1 - a

abbrev pub decreases-loop-file : goal.decreases-loop-file
decreases-loop-file g l = left l.after
