use Rattle.std.proofs.Common.{◌++◌, map, filter, ◌∙◌}
use Rattle.nova_value.specs.Rows.{key_at}
use Rattle.nova_pig_algebra.specs.Meaning.{Row, same_row}
use Rattle.nova_pig_slow.proofs.Next.{flat_map_next}
use Rattle.nova_pig_slow.proofs.rows.joined.Goals as goal

pub loop-row-preserved : goal.loop-row-preserved
loop-row-preserved c =
    let pairs_of = λ (a : Row). map (λ (b : Row). a ++ b) (filter (λ b. same_row (key_at c.args.left_by.now a) (key_at c.args.right_by.now b)) c.args.right.now) in
    let so_far = c.loop-row.invariant in
    let here = c.in_ok-more.ensures in
    c.in_ok-append.ensures.items ∙ (λ k. so_far k ++ here k) ∙ flat_map_next pairs_of c.args.left.now c.loop-row.row-index c.row-item.result c.loop-row-test.true c.row-item.is
