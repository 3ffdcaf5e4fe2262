use Rattle.std.proofs.Common.{◌≡◌, ◌++◌}
use Rattle.std.specs.FinMap.{entries}
use Rattle.nova_groups.specs.State.{moved_all, touches}
use Rattle.nova_state.specs.Plan.{rule_of}
use Rattle.nova_state.specs.Rule.{share_of}
use Rattle.nova_state.proofs.change.absorb.Given as goal

abbrev pub invariant-loop-key : goal.invariant-loop-key
invariant-loop-key l = record {
  state : moved_all (share_of (rule_of l.plan)) l.kinds l.state l.key-iterator ≡ moved_all (share_of (rule_of l.plan)) l.kinds l.fn.state (entries l.delta.entries);
  touched : l.touched.items ++ touches (share_of (rule_of l.plan)) l.kinds l.state l.key-iterator ≡ touches (share_of (rule_of l.plan)) l.kinds l.fn.state (entries l.delta.entries);
}
