use Rattle.std.proofs.Common.{◌≡◌, drop, length}
use Rattle.nova_pig_algebra.specs.Readers.{all_marked}
use Rattle.nova_pig_algebra.proofs.readers.mark_arms.Given as goal

abbrev pub invariant-loop-arm : goal.invariant-loop-arm
invariant-loop-arm l = record {
  long : length l.last.items ≡ length l.fn.last.items;
  marks : all_marked l.reader l.fn.last.items l.arms ≡ all_marked l.reader l.last.items (drop l.arm-index l.arms);
}
