use Rattle.std.proofs.Common.{ap, sym, ◌∙◌}
use Rattle.std.specs.Prelude.{nat_eq}
use Rattle.std.specs.List.{list_any}
use Rattle.std.proofs.lemmas.List.Sorted.{list_any-IsPermutation, IsNonDecreasingBy-from_sort}
use Rattle.nova_meta.specs.Catalog.{Entered, Shelved}
use Rattle.nova_meta.proofs.Collected.{any_of_shelves}
use Rattle.nova_path.specs.declared.interval.Interval.{Interval}
use Rattle.nova_meta.proofs.catalog.Catalog.blocks.Goals as goal

pub returns-clause-order : goal.returns-clause-order
returns-clause-order c = IsNonDecreasingBy-from_sort (λ n. n) _ c.sort_unstable.ensures.sorted

pub returns-clause-blocks : goal.returns-clause-blocks
returns-clause-blocks c b =
    sym (list_any-IsPermutation (nat_eq b) _ _ c.sort_unstable.ensures.permutation)
    ∙ ap (list_any (nat_eq b)) c.in_ok-blocks.ensures
    ∙ any_of_shelves b c.as_slice.result.now
    ∙ ap (list_any (λ (s : Shelved). list_any (λ (x : Interval). nat_eq b x.block) s.intervals)) (c.as_slice.ensures ∙ ap (λ (e : Entered). e.channels) c.self.view_is)
