use Rattle.std.proofs.Common.{◌+◌, ◌-◌, ◌^◌, ◌≤◌}
use Rattle.nova_engine.specs.Damage.{IsReadIn}
use Rattle.nova_engine.specs.Loading.{line_count}
use Rattle.nova_engine.specs.Seen.{seen}
use Rattle.nova_engine.specs.Stopping.{RepliesGrow}
use Rattle.nova_engine.proofs.Reached.{Reached}
use Rattle.nova_engine.proofs.program.run_session.Given as goal

abbrev pub invariant-loop-taken : goal.invariant-loop-taken
invariant-loop-taken g l = record {
  reached : Reached g.H.Host.is_honest l.fn.store l.reader (seen g.H.Host l.fn.host) (seen g.H.Host l.host) (g.S.Source.left l.fn.source) (g.S.Source.left l.source) l.taken;
  room : line_count l.reader.session.load ≤ l.taken;
  limit : l.taken ≤ 2 ^ 40 + 1;
  read : g.S.Source.faults l.fn.source ≤ g.S.Source.faults l.source;
  in_host : IsReadIn g.H.Host.is_honest l.reader.session.store (g.H.Host.history l.host);
  grows : RepliesGrow g.H.Host.is_honest (g.H.Host.history l.fn.host) (g.H.Host.history l.host);
  disk : g.H.Host.disk_faults l.fn.host ≤ g.H.Host.disk_faults l.host;
  replied : g.H.Host.reply_faults l.fn.host ≤ g.H.Host.reply_faults l.host;
}

abbrev pub decreases-loop-taken : goal.decreases-loop-taken
decreases-loop-taken g l = 2 ^ 40 + 1 - l.taken
