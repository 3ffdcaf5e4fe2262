use Rattle.std.proofs.Common.{List, ap, map, ◌∙◌}
use Rattle.nova_value.specs.Rows.{key_at}
use Rattle.nova_pig_algebra.specs.Meaning.{Row, calls_over, made}
use Rattle.nova_pig_algebra.specs.Tree.{members, rising}
use Rattle.nova_pig_slow.proofs.Trees.{at_tree}
use Rattle.nova_pig_slow.proofs.nodes.grouped_at.Goals as goal

pub returns : goal.returns
returns c = λ tables ts are.
    c.in_ok-made.ensures ∙ ap (λ (rows : List Row). map (λ by. made c.args.items.now by (calls_over (members c.args.columns.now rows by))) (rising (map (key_at c.args.columns.now) rows))) (c.deref.ensures.value ∙ c.in_ok-rows.ensures ∙ at_tree tables ts _ are c.args.from)
