use Rattle.nova_engine.proofs.Texts.{texts_are_inputs}
use Rattle.nova_engine.proofs.laws.texts_are_inputs.Goals as goal

pub returns : goal.returns
returns c = texts_are_inputs
