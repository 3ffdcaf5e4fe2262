use Rattle.std.proofs.Common.{◌≡◌, take}
use Rattle.nova_value.specs.Rows.{key_at}
use Rattle.nova_pig_slow.proofs.value.picked.Given as goal

abbrev pub invariant-loop-place : goal.invariant-loop-place
invariant-loop-place l = l.values.items ≡ key_at (take l.place-index l.places) l.row
