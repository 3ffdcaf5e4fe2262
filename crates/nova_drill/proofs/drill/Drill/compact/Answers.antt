use Rattle.std.proofs.Common.{◌≡◌, ◌∷◌, ap, ◌∙◌, subst, arith}
use Rattle.nova_script.specs.declared.command.Command.TheVariants as command
use Rattle.nova_drill.specs.declared.drill.DrillStep.TheVariants.{Do}
use Rattle.nova_drill.specs.Places.{Place, left}
use Rattle.nova_drill.proofs.Giving.{another_left, last_done}
use Rattle.nova_drill.proofs.drill.Drill.compact.Goals as goal
use Rattle.nova_drill.proofs.drill.Drill.compact.Goals.{then-number-lt-CHANNELS, else-number-lt-CHANNELS}

pub returns : goal.returns
returns c =
    let opened : Place = record { count = c.self.inside.count; round = c.self.inside.round; number = c.self.inside.number; next = c.self.inside.next } in
    let next_is = ap (λ (p : Place). p.next) c.self.view_is ∙ c.requires.next in
    let name_is = c.new.ensures ∙ c.channel.ensures.name in
    subst (λ (p : Place). left p ≡ Do (command.Compact c.new.result) ∷ left c.if-number-lt-CHANNELS.self) c.self.view_is
    (elim c.if-number-lt-CHANNELS.branch [
      | then-number-lt-CHANNELS w ↦ another_left opened c.if-number-lt-CHANNELS.self c.args.number c.new.result c.requires.channel next_is name_is w.self-is
      | else-number-lt-CHANNELS w ↦ last_done opened c.if-number-lt-CHANNELS.self c.args.number c.new.result c.requires.channel (omega (arith, w.if-number-lt-CHANNELS)) next_is name_is w.self-is
    ])
