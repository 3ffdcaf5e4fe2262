use Rattle.std.proofs.Common.{◌≡◌, ◌-◌, ◌≤◌, ℕ, List, length, Some}
use Rattle.nova_engine.specs.Taken.{TookText}
use Rattle.nova_engine.proofs.text.read_text.Given as goal

abbrev pub invariant-loop-buffer : goal.invariant-loop-buffer
invariant-loop-buffer g l = record {
  took : (input : List ℕ) → g.S.Source.left l.fn.source ≡ Some input → TookText input (g.S.Source.left l.source) l.text.items;
  limit : length l.text.items ≤ 1048577;
  read : g.S.Source.faults l.fn.source ≤ g.S.Source.faults l.source;
}

abbrev pub decreases-loop-buffer : goal.decreases-loop-buffer
decreases-loop-buffer g l = 1048577 - length l.text.items
