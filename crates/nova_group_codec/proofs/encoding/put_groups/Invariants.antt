use Rattle.std.proofs.Common.{◌≡◌, ◌++◌}
use Rattle.std.specs.List.{flat_map}
use Rattle.nova_group_codec.specs.Spelling as spec
use Rattle.nova_group_codec.proofs.encoding.put_groups.Given as goal

-- what is written, and what is left
abbrev pub invariant-loop-by : goal.invariant-loop-by
invariant-loop-by l = l.out.items ++ flat_map spec.group_bytes l.by-iterator ≡ l.fn.out.items ++ spec.list_bytes spec.group_bytes l.groups.entries
