use Rattle.std.proofs.Common.{sym, ap, ◌∙◌}
use Rattle.std.specs.declared.cmp.Ordering.{Ordering}
use Rattle.std.specs.Ordering.{is_lt}
use Rattle.nova_value.specs.Order.{value_cmp}
use Rattle.nova_group_codec.proofs.Rising.{above_last}
use Rattle.nova_group_codec.proofs.decoding.is_above.Goals as goal

pub returns-in-Some : goal.returns-in-Some
returns-in-Some c =
    c.is_lt.ensures ∙ ap (λ (o : Ordering). is_lt o) c.compare_values.ensures
    ∙ sym (above_last value_cmp c.args.counts.now c.args.value.now c.in-Some.field-0.now c.in-Some.ensures.value)
