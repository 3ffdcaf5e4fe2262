use Rattle.std.proofs.Common.{◌≡◌, ◌++◌}
use Rattle.std.specs.List.{flat_map}
use Rattle.nova_group_codec.specs.Spelling as spec
use Rattle.nova_group_codec.proofs.encoding.put_counts.Given as goal

-- what is written, and what is left
abbrev pub invariant-loop-value : goal.invariant-loop-value
invariant-loop-value l = l.out.items ++ flat_map spec.count_bytes l.value-iterator ≡ l.fn.out.items ++ spec.list_bytes spec.count_bytes l.map.entries
