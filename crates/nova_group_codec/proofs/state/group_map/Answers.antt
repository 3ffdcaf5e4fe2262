use Rattle.std.proofs.Common.{rules}
use Rattle.std.specs.BTreeMap.{IsFromIterResult}
use Rattle.std.proofs.lemmas.Result.{IfOk-weaker}
use Rattle.nova_value.specs.Order.{key_cmp}
use Rattle.nova_value.specs.Orders.{keys_total, exact_keys}
use Rattle.nova_group_codec.proofs.Rising.{map_of_rising}
use Rattle.nova_group_codec.proofs.state.group_map.Goals as goal

pub returns : goal.returns
returns c = IfOk-weaker c.collect.result (IsFromIterResult key_cmp c.args.groups.items) _ (λ map is. map_of_rising keys_total exact_keys c.args.groups.items map.entries c.requires is.0) (search rules)
