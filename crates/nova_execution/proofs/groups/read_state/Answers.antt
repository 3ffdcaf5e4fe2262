use Rattle.std.proofs.Common.{subst, sym, ◌∙◌}
use Rattle.std.specs.Result.{IfOk}
use Rattle.nova_outside.specs.History.{current}
use Rattle.nova_channel.specs.Reading.{block_file}
use Rattle.nova_group_codec.specs.Sorts.{SortsValue}
use Rattle.nova_state.specs.Sorts.{plan_sorts}
use Rattle.nova_state_part.specs.Files.{HoldsPart}
use Rattle.nova_execution.specs.Groups.{part_file}
use Rattle.nova_execution.proofs.Damages.{whole_state}
use Rattle.nova_execution.proofs.groups.read_state.Goals as goal

pub returns-in_ok-sorts-in-Some-clause-undamaged : goal.returns-in_ok-sorts-in-Some-clause-undamaged
returns-in_ok-sorts-in-Some-clause-undamaged g c honest =
    let files = current (g.H.Host.history c.args.host.now) in
    whole_state (plan_sorts c.args.plan.now) (part_file c.args.catalog.now c.args.task) c.in-Some.block c.in-Some.size files c.get.result (sym c.state_part.ensures ∙ c.in-Some.is)
    (subst (λ (s : SortsValue). IfOk c.get.result (HoldsPart s c.in-Some.size (files (block_file c.in-Some.block)))) c.in_ok-sorts-in-Some.ensures (c.get.ensures.found honest))
