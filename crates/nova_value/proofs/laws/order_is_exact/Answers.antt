use Rattle.nova_value.specs.Orders.{values_total, exact_values, keys_total, exact_keys}
use Rattle.nova_value.proofs.laws.order_is_exact.Goals as goal

pub returns : goal.returns
returns c = record { values = values_total; exact_values = exact_values; keys = keys_total; exact_keys = exact_keys }
