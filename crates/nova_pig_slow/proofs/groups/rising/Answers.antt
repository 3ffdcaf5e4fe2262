use Rattle.std.proofs.Common.{ap, sym, ◌∙◌}
use Rattle.std.specs.FinMap.{keys}
use Rattle.nova_pig_slow.proofs.ByKey.{keys_seen}
use Rattle.nova_pig_slow.proofs.groups.rising.Goals as goal

pub returns : goal.returns
returns c = c.in_ok-keys.ensures ∙ sym (keys_seen c.in_ok-lists.lists.entries c.in_ok-lists.ensures.ordered) ∙ ap keys c.in_ok-lists.ensures.map
