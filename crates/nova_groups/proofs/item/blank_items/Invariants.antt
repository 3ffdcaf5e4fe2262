use Rattle.std.proofs.Common.{◌≡◌, [], map, take}
use Rattle.nova_groups.specs.State.{item}
use Rattle.nova_groups.proofs.item.blank_items.Given as goal

abbrev pub invariant-loop-kind : goal.invariant-loop-kind
invariant-loop-kind l = l.items.items ≡ map (λ k. item k []) (take l.kind-index l.kinds)
