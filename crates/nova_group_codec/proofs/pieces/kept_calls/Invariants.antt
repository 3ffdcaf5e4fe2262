use Rattle.std.proofs.Common.{◌≡◌, ◌++◌, map, drop}
use Rattle.std.specs.List.{filter_map}
use Rattle.nova_pig_rows.specs.Outcomes.{called}
use Rattle.nova_group_codec.specs.Pieces as spec
use Rattle.nova_group_codec.proofs.pieces.kept_calls.Given as goal

abbrev pub invariant-loop-call : goal.invariant-loop-call
invariant-loop-call l = l.all.items ++ filter_map (spec.kept_of l.kinds) (map called (drop l.call-index l.calls)) ≡ filter_map (spec.kept_of l.kinds) (map called l.calls)
