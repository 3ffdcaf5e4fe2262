use Rattle.nova_pig_algebra.specs.Keys.{columns_from}
use Rattle.nova_pig_algebra.proofs.Steps.{columns_kept}
use Rattle.nova_pig_algebra.proofs.keys.all_columns.Goals as goal

pub loop-column-preserved : goal.loop-column-preserved
loop-column-preserved c =
    columns_kept c.args.width c.loop-column.column c.in_ok-narrow.field-0 (columns_from 0 c.args.width) c.loop-column.out c.push.new.self
    c.loop-column-test.true c.loop-column.invariant c.in_ok-narrow.ensures c.in_ok-push.ensures.ok
