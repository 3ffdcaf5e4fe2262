use Rattle.std.proofs.Common.{◌≡◌, map, take}
use Rattle.nova_group_codec.specs.Pieces as spec
use Rattle.nova_group_codec.proofs.pieces.kinds_at.Given as goal

abbrev pub invariant-loop-column : goal.invariant-loop-column
invariant-loop-column l = l.all.items ≡ map (spec.kind_at l.kinds) (take l.column-index l.columns)
