use Rattle.std.proofs.Common.{ap, sym, ◌∙◌}
use Rattle.std.specs.Option.{option_copied}
use Rattle.nova_workflow.specs.declared.flow.Channel.{Channel}
use Rattle.nova_admit.proofs.Patterned.{no_channel}
use Rattle.nova_admit.proofs.flows.name_of.Goals as goal

pub returns-in-None : goal.returns-in-None
returns-in-None c = c.new.ensures ∙ ap (λ (z : Channel). z.name) (sym (no_channel c.args.flow.now c.args.channel (sym c.get.ensures.value ∙ ap option_copied c.in-None.is)))
