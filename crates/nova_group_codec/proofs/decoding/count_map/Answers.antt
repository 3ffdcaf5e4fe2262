use Rattle.std.proofs.Common.{rules}
use Rattle.std.specs.BTreeMap.{IsFromIterResult}
use Rattle.std.proofs.lemmas.Result.{IfOk-weaker}
use Rattle.nova_value.specs.Order.{value_cmp}
use Rattle.nova_value.specs.Orders.{values_total, exact_values}
use Rattle.nova_group_codec.proofs.Rising.{map_of_rising}
use Rattle.nova_group_codec.proofs.decoding.count_map.Goals as goal

pub returns : goal.returns
returns c = IfOk-weaker c.collect.result (IsFromIterResult value_cmp c.args.counts.items) _ (λ map is. map_of_rising values_total exact_values c.args.counts.items map.entries c.requires is.0) (search rules)
