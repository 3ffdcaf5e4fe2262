use Rattle.std.proofs.Common.{ap, map, ◌∙◌}
use Rattle.nova_pig_algebra.specs.Meaning.{made, no_calls}
use Rattle.nova_pig_slow.proofs.Trees.{at_tree}
use Rattle.nova_pig_slow.proofs.nodes.mapped_at.Goals as goal

pub returns : goal.returns
returns c = λ tables ts are.
    c.in_ok-made.ensures ∙ ap (map (λ row. made c.args.items.now row no_calls)) (c.deref.ensures.value ∙ c.in_ok-rows.ensures ∙ at_tree tables ts _ are c.args.from)
