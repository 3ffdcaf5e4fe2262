use Rattle.nova_admit.proofs.Patterned.{tasks_are_within}
use Rattle.nova_admit.proofs.admitted.admit.Goals as goal

pub patterns_of-requires : goal.patterns_of-requires
patterns_of-requires c = rw c.as_slice.ensures (tasks_are_within c.args.flow c.requires)
