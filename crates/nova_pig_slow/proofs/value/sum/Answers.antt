use Rattle.std.proofs.Common.{◌≡◌, ◌+◌, ◌+ℤ◌, of_z, to_z, ap, sym, ◌∙◌, map, take}
use Rattle.std.specs.Int.{w64}
use Rattle.nova_value.specs.Wrapped.{wrapped}
use Rattle.nova_pig_algebra.specs.Meaning.{long_of, total}
use Rattle.nova_pig_slow.proofs.Calls.{total_more, wrapped_again, wrapped_more}
use Rattle.nova_pig_slow.proofs.Next.{map_next}
use Rattle.nova_pig_slow.proofs.value.sum.Goals as goal

pub loop-value-preserved : goal.loop-value-preserved
loop-value-preserved c =
    let values = c.args.values.now in
    let i = c.loop-value.value-index in
    let before = map long_of (take i values) in
    let value = c.value-item.result in
    let so_far = c.loop-value.invariant in
    let sum : c.add_value-sum.result ≡ wrapped (total (map long_of (take (i + 1) values))) =
    c.add_value-sum.ensures ∙ (λ k. wrapped (so_far k +ℤ long_of value)) ∙ wrapped_more (total before) (long_of value)
    ∙ ap wrapped (sym (total_more before (long_of value)) ∙ ap total (map_next long_of values i value c.loop-value-test.true c.value-item.is)) in
    ap (λ n. to_z w64 (of_z w64 n)) sum ∙ wrapped_again (total (map long_of (take (i + 1) values)))
