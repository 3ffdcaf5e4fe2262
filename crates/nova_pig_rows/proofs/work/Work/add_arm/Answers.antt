use Rattle.std.proofs.Common.{arith}
use Rattle.std.proofs.lemmas.Result.{on_ok_weaker}
use Rattle.nova_pig_rows.proofs.Steps.{others_stay}
use Rattle.nova_pig_rows.proofs.work.Work.add_arm.Goals as goal

pub returns-then-not-contains-clause-rest : goal.returns-then-not-contains-clause-rest
returns-then-not-contains-clause-rest c =
    let value = c.contains.ensures.value in
    let none = c.if-not-contains.true in
    on_ok_weaker c.append.result
    (λ _. others_stay c.args.node c.args.rest.now c.args.self.now.relations.items c.take.new.self.relations.items (grind (arith, value, none)) c.take.ensures.keeps)
    c.append.ensures
