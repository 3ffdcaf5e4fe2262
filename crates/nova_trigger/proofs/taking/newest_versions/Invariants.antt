use Rattle.std.proofs.Common.{◌≡◌, map, take}
use Rattle.arrayvec.specs.ArrayVec.{array_vec_len}
use Rattle.nova_trigger.specs.Due.{newest_in}
use Rattle.nova_trigger.proofs.taking.newest_versions.Given as goal

abbrev pub invariant-loop-input : goal.invariant-loop-input
invariant-loop-input l = record {
  items : l.versions.items ≡ map (newest_in l.catalog) (take l.input-index l.inputs);
  count : array_vec_len l.versions ≡ l.input-index;
}
