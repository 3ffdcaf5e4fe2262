use Rattle.std.proofs.Common.{ap, ◌∙◌}
use Rattle.nova_pig_plan.proofs.Named as named
use Rattle.nova_pig_plan.specs.Plans.{find}
use Rattle.nova_pig_plan.proofs.aliases.Aliases.find.Goals as goal

pub returns-in_err-place : goal.returns-in_err-place
returns-in_err-place c = rw c.from_residual.ensures (named.find_none c.args.name.now c.self.inside.map.entries c.in_err-place.ensures.value ∙ ap (find c.args.name.now 0) c.self.view_is)

pub returns : goal.returns
returns c = named.find_some c.args.name.now c.self.inside.map.entries c.in_ok-place.place c.in_ok-place.scope.now c.in_ok-place.ensures.index c.in_ok-place.ensures.value ∙ ap (find c.args.name.now 0) c.self.view_is
