use Rattle.std.proofs.Common.{◌≡◌, ◌++◌}
use Rattle.std.specs.Map.{keys_of}
use Rattle.nova_pig_slow.proofs.groups.keys.Given as goal

abbrev pub invariant-loop-by : goal.invariant-loop-by
invariant-loop-by l = l.all.items ++ keys_of l.by-iterator ≡ keys_of l.lists.entries
