use Rattle.std.proofs.Common.{List, sym, ap, ◌∙◌}
use Rattle.std.specs.FinMap.{len, entries, len-entries}
use Rattle.std.proofs.lemmas.List.{length-map}
use Rattle.nova_value.specs.declared.value.Value.{Value}
use Rattle.nova_value.specs.declared.schema.Entry.{Entry}
use Rattle.nova_value.specs.Orders.{keys_total, exact_keys}
use Rattle.nova_delta.specs.Merge.{DeltaValue}
use Rattle.nova_delta.proofs.OrderedMap.{len-seen}
use Rattle.nova_delta.proofs.delta.Delta.len.Goals as goal

pub returns : goal.returns
returns c =
    c.len.ensures.len ∙ sym (len-seen keys_total exact_keys _ c.len.ensures.ordered) ∙ ap (λ (d : DeltaValue). len d.entries) c.self.view_is
    ∙ len-entries c.args.self.now.entries ∙ sym (length-map (entries c.args.self.now.entries) (λ (p : List Value × Entry). p.1))
