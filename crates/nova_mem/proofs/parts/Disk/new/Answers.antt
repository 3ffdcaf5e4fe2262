use Rattle.std.proofs.Common.{◌-◌, ◌^◌, reverse, ◌∙◌}
use Rattle.nova_mem.specs.Deeds.{view}
use Rattle.nova_mem.proofs.Changes.{empty_view}
use Rattle.nova_mem.proofs.Told.{kept_nothing, only_nothing, replies_told}
use Rattle.nova_mem.proofs.parts.Disk.new.Goals as goal

pub invariant_of-result : goal.invariant_of-result
invariant_of-result c =
    record { kept = kept_nothing c.new-3.result.items (2 ^ 64 - 1) (view c.new.result) c.new-2.result.items c.new-3.ensures.items (empty_view c.new.result c.new.ensures.empty) }

pub returns-clause-settled : goal.returns-clause-settled
returns-clause-settled c = only_nothing c.new-3.result.items (2 ^ 64 - 1) (view c.new.result) c.new-2.result.items c.new-3.ensures.items (empty_view c.new.result c.new.ensures.empty)

pub returns-clause-replies : goal.returns-clause-replies
returns-clause-replies c = replies_told (reverse c.new-3.result.items) (2 ^ 64 - 1) (view c.new.result) c.new-2.result.items ∙ c.new-2.ensures.items
