use Rattle.std.proofs.Common.{Option, ap, ◌∙◌}
use Rattle.nova_groups.specs.Kinds.{Group}
use Rattle.nova_groups.specs.State.{and_then}
use Rattle.nova_state.specs.Rule.{row_from}
use Rattle.nova_state.specs.Plan.{rule_of}
use Rattle.nova_state.proofs.change.row_at.Goals as goal

pub returns-in_ok-row_of-in-Some : goal.returns-in_ok-row_of-in-Some
returns-in_ok-row_of-in-Some c =
    c.in_ok-row_of-in-Some.ensures
    ∙ ap (λ (o : Option Group). and_then o (row_from (rule_of c.args.plan.now) c.args.by.now)) c.in-Some.ensures

pub returns-in-None : goal.returns-in-None
returns-in-None c = ap (λ (o : Option Group). and_then o (row_from (rule_of c.args.plan.now) c.args.by.now)) c.in-None.ensures
