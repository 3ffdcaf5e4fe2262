use Rattle.std.proofs.Common.{◌≡◌, ◌+◌, ◌*◌, ◌++◌, map, take}
use Rattle.nova_pig_algebra.specs.Nodes.{earlier_arms}
use Rattle.nova_rowwise.specs.Seen.{plain_of}
use Rattle.nova_rowwise.specs.Sources as spec
use Rattle.nova_rowwise.proofs.source.+sources.Given as goal

abbrev pub decreases-add_arms : goal.decreases-add_arms
decreases-add_arms l = l.node * 3 + 1

abbrev pub decreases-add_earlier : goal.decreases-add_earlier
decreases-add_earlier l = l.node * 3

abbrev pub decreases-add_sources : goal.decreases-add_sources
decreases-add_sources l = l.node * 3 + 2

abbrev pub invariant-add_arms-loop-arm : goal.invariant-add_arms-loop-arm
invariant-add_arms-loop-arm l =
    map (λ p. map plain_of p.items) l.out.items
    ≡ map (λ p. map plain_of p.items) l.fn.out.items ++ spec.arm_sources (earlier_arms l.nodes l.node (take l.arm-index l.arms)) (map plain_of l.fields)
