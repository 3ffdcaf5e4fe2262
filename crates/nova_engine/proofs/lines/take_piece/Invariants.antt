use Rattle.std.proofs.Common.{◌≡◌, ◌+◌, ◌++◌, ◌≤◌, List, ℕ, length}
use Rattle.nova_engine.specs.Moves.{MovesOn}
use Rattle.nova_engine.specs.Damage.{IsReadIn}
use Rattle.nova_engine.specs.Loading.{line_count}
use Rattle.nova_engine.specs.Seen.{seen}
use Rattle.nova_engine.specs.Stopping.{RepliesGrow}
use Rattle.nova_engine.proofs.lines.take_piece.Given as goal

abbrev pub invariant-loop-line : goal.invariant-loop-line
invariant-loop-line g l = record {
  done : List ℕ;
  all : l.bytes ≡ done ++ l.rest;
  moves : MovesOn g.H.Host.is_honest l.fn.reader l.reader (seen g.H.Host l.fn.host) (seen g.H.Host l.host) done;
  room : line_count l.reader.session.load ≤ line_count l.fn.reader.session.load + length done;
  in_host : IsReadIn g.H.Host.is_honest l.reader.session.store (g.H.Host.history l.host);
  disk_later : g.H.Host.disk_faults l.fn.host ≤ g.H.Host.disk_faults l.host;
  grows : RepliesGrow g.H.Host.is_honest (g.H.Host.history l.fn.host) (g.H.Host.history l.host);
  later : g.H.Host.reply_faults l.fn.host ≤ g.H.Host.reply_faults l.host;
}

abbrev pub decreases-loop-line : goal.decreases-loop-line
decreases-loop-line g l = length l.rest
