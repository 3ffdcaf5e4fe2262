use Rattle.std.proofs.Common.{◌∷◌, [], ◌++◌, ◌∙◌}
use Rattle.nova_pig_algebra.specs.Meaning.{Row, calls_over, made}
use Rattle.nova_pig_algebra.specs.Tree.{members}
use Rattle.nova_pig_slow.proofs.Next.{map_next}
use Rattle.nova_pig_slow.proofs.groups.group_rows.Goals as goal

pub loop-by-preserved : goal.loop-by-preserved
loop-by-preserved c =
    let row_of = λ (by : Row). made c.args.items.now by (calls_over (members c.args.columns.now c.args.rows.now by)) in
    let so_far = c.loop-by.invariant in
    let here = c.in_ok-group_row.ensures in
    c.in_ok-push.ensures.items ∙ (λ k. so_far k ++ here k ∷ []) ∙ map_next row_of c.args.bys.now c.loop-by.by-index c.by-item.result c.loop-by-test.true c.by-item.is
