use Rattle.nova_groups.proofs.Slots.{part_moved, part_untouched}
use Rattle.nova_groups.proofs.laws.parts_change_alone.Goals as goal

pub returns-clause-change : goal.returns-clause-change
returns-clause-change c = λ part s ks st k new. part_moved part s ks st k new

pub returns-clause-others : goal.returns-clause-others
returns-clause-others c = λ part s ks share st es keys bys. part_untouched part s ks share st es keys bys
