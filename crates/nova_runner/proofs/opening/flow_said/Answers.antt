use Rattle.std.proofs.Common.{subst}
use Rattle.nova_runner.specs.Texts.{HasFault, Says}
use Rattle.nova_runner.proofs.opening.flow_said.Goals as goal

pub returns-in-Err : goal.returns-in-Err
returns-in-Err c flow has =
    let why : HasFault c.args.text.now c.in-Err.field-0 = subst (Says c.args.text.now) c.in-Err.is c.in_ok-flow.ensures in
    (c.texts_are_settled.ensures c.args.text.now).never_both flow c.in-Err.field-0 has why
