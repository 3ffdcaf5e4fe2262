use Rattle.nova_admit.proofs.Settled.{settled}
use Rattle.nova_admit.proofs.laws.tasks_are_settled.Goals as goal

pub returns : goal.returns
returns c = settled c.texts_are_settled.ensures c.patterns_have_shapes.ensures.admitted
