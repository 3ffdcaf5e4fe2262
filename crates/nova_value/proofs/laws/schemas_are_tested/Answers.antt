use Rattle.nova_value.proofs.Shapes.{shape_from_test, test_from_shape}
use Rattle.nova_value.proofs.laws.schemas_are_tested.Goals as goal

pub returns : goal.returns
returns c s = (shape_from_test s, test_from_shape s)
