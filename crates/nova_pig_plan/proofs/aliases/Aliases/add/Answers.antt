use Rattle.std.proofs.Common.{◌++◌, ◌∷◌, [], ap, ◌∙◌}
use Rattle.nova_pig_plan.proofs.Named as named
use Rattle.nova_pig_plan.specs.Plans.{find}
use Rattle.nova_pig_plan.proofs.aliases.Aliases.add.Goals as goal

pub returns-in-Ok : goal.returns-in-Ok
returns-in-Ok c =
    ap named.seen c.in-Ok.ensures.entries
    ∙ named.added c.args.name c.args.scope c.self.inside.map.entries 0 (ap (find c.args.name.now 0) c.self.view_is ∙ c.requires.fresh)
    ∙ ap (λ d. d ++ (c.args.name.now, c.args.scope) ∷ []) c.self.view_is
