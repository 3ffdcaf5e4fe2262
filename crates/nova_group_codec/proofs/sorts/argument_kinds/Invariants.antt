use Rattle.std.proofs.Common.{◌≡◌, take}
use Rattle.nova_group_codec.specs.Sorts as spec
use Rattle.nova_group_codec.proofs.sorts.argument_kinds.Given as goal

abbrev pub invariant-loop-one : goal.invariant-loop-one
invariant-loop-one l = l.kinds.items ≡ spec.argument_kinds (take l.one-index l.kept)
