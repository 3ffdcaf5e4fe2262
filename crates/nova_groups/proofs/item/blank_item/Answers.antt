use Rattle.std.proofs.Common.{ap, sym, ◌∙◌, []}
use Rattle.nova_pig_tree.specs.declared.expression.CallKind.{CallKind}
use Rattle.nova_groups.specs.declared.item.Item.TheVariants.{Counts}
use Rattle.nova_groups.specs.State.{item}
use Rattle.nova_groups.proofs.Small.{counted-empty}
use Rattle.nova_groups.proofs.item.blank_item.Goals as goal

pub returns-in-Min : goal.returns-in-Min
returns-in-Min c = ap Counts (c.empty.ensures ∙ counted-empty) ∙ ap (λ (k : CallKind). item k []) (sym c.in-Min.is)

pub returns-in-Max : goal.returns-in-Max
returns-in-Max c = ap Counts (c.empty-in-Max.ensures ∙ counted-empty) ∙ ap (λ (k : CallKind). item k []) (sym c.in-Max.is)
