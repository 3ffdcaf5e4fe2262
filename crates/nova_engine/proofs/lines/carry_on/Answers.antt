use Rattle.std.proofs.Common.{◌++◌}
use Rattle.nova_machine.proofs.Cuts.{has_newline-append}
use Rattle.nova_engine.proofs.ItemLines.{kept_clean}
use Rattle.nova_engine.proofs.lines.carry_on.Goals as goal

pub invariant_of-result : goal.invariant_of-result
invariant_of-result c = record {
  one_line = rw c.in_ok-push.ensures.held (kept_clean (c.args.reader.held ++ c.args.bytes.now) (has_newline-append c.args.reader.held c.args.bytes.now c.args.reader.one_line c.requires));
}
