use Rattle.std.proofs.Common.{◌≡◌}
use Rattle.nova_pig_rows.specs.Keeps.{KeepsLater}
use Rattle.nova_pig_rows.proofs.work.Work.release.Given as goal

abbrev pub invariant-loop-node : goal.invariant-loop-node
invariant-loop-node l = record {
  keeps : KeepsLater l.reader l.fn.self.last.items l.fn.self.relations.items l.self.relations.items;
  last : l.self.last.items ≡ l.fn.self.last.items;
}
