use Rattle.std.proofs.Common.{sym, ◌∙◌, ◌-◌, arith}
use Rattle.nova_pig_algebra.specs.Keys.{is_column}
use Rattle.nova_pig_algebra.proofs.Steps.{missing}
use Rattle.nova_pig_algebra.proofs.places.places_of.Goals as goal

pub returns-in-None : goal.returns-in-None
returns-in-None c =
    let low = c.loop-at.invariant.0 in
    let some = c.loop-at-test.true in
    sym (missing is_column c.args.items.now c.args.key.now (c.loop-at.at - 1) (omega (arith, low, some)) (sym c.place_of.ensures ∙ c.in-None.is))
