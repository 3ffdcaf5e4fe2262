use Rattle.std.proofs.Common.{◌∙◌}
use Rattle.nova_groups.proofs.Small.{blank-items}
use Rattle.nova_groups.proofs.group.blank.Goals as goal

pub returns : goal.returns
returns c =
    let all = c.in_ok-blank_items.ensures ∙ blank-items c.args.kinds.now in
    λ i. record { members = 0; items = all i }
