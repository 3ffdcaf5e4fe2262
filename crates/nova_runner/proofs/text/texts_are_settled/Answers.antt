use Rattle.nova_runner.proofs.Texts.{texts_are_settled}
use Rattle.nova_runner.proofs.text.texts_are_settled.Goals as goal

pub returns : goal.returns
returns c = texts_are_settled
