use Rattle.std.proofs.Common.{ap, sym, ◌∙◌, arith}
use Rattle.nova_drill.specs.Places.{Place, left}
use Rattle.nova_drill.proofs.Giving.{load_given}
use Rattle.nova_drill.proofs.drill.Drill.load.Goals as goal

pub returns-clause-given : goal.returns-clause-given
returns-clause-given c =
    let next_is = ap (λ (p : Place). p.next) c.self.view_is ∙ c.requires in
    sym (ap left c.self.view_is) ∙ load_given _ c.in_ok-delta.delta c.in_ok-delta.number next_is (omega (arith, c.if-self.false)) c.in_ok-delta.ensures.delta c.in_ok-delta.ensures.last
