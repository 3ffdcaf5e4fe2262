use Rattle.std.proofs.Common.{◌≡◌, ◌++◌}
use Rattle.std.specs.List.{flat_map}
use Rattle.nova_group_codec.specs.Spelling as spec
use Rattle.nova_group_codec.proofs.encoding.put_shares.Given as goal

-- what is written, and what is left
abbrev pub invariant-loop-key : goal.invariant-loop-key
invariant-loop-key l = l.out.items ++ flat_map spec.share_bytes l.key-iterator ≡ l.fn.out.items ++ spec.list_bytes spec.share_bytes l.shares.entries
