use Rattle.std.proofs.Common.{◌≡◌, length}
use Rattle.nova_value.specs.Rows.{key_at}
use Rattle.nova_state.specs.Plan.{rule_of}
use Rattle.nova_state.specs.Advance.{answer_all, answer_of}
use Rattle.nova_state.proofs.change.answer.Given as goal

abbrev pub invariant-loop-by : goal.invariant-loop-by
invariant-loop-by l = record {
  rest : answer_all l.plan.output (rule_of l.plan) (key_at l.places) l.state.groups l.delta l.touched.items ≡ answer_of l.plan.output (rule_of l.plan) (key_at l.places) l.state.groups l.fn.touched.items;
}

abbrev pub decreases-loop-by : goal.decreases-loop-by
decreases-loop-by l = length l.touched.items
