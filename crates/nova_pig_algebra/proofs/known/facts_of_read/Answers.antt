use Rattle.std.proofs.Common.{List, ap, ◌∙◌, arith}
use Rattle.nova_pig_algebra.specs.declared.facts.Facts.{Facts}
use Rattle.nova_pig_algebra.specs.Readers.{last_at}
use Rattle.nova_pig_algebra.specs.Steps.{facts_if_read}
use Rattle.nova_pig_algebra.proofs.FactsOfTrees.{known_next}
use Rattle.nova_pig_algebra.proofs.known.facts_of_read.Goals as goal

pub loop-at-preserved : goal.loop-at-preserved
loop-at-preserved c =
    let inputs = c.args.inputs.now in
    let nodes = c.args.nodes.now in
    let last = c.args.last.now in
    let at = c.loop-at.at in
    let node = c.index-nodes-at.result in
    known_next inputs nodes last c.loop-at.done c.push.new.self at node c.in_ok-facts.facts
    c.requires.closed c.loop-at.invariant (omega arith) c.index-nodes-at.is
    (c.in_ok-facts.ensures ∙ ap (λ (fs : List Facts). facts_if_read inputs nodes fs (last_at last at) node) c.as_slice.ensures) c.in_ok-push.ensures.ok
