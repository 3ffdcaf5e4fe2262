use Rattle.std.proofs.Common.{◌∙◌, arith}
use Rattle.nova_rowwise.proofs.NodeTrees.{filled, inserted}
use Rattle.nova_rowwise.proofs.run.put_at.Goals as goal

pub loop-alloc-preserved : goal.loop-alloc-preserved
loop-alloc-preserved c m = rw (c.in_ok-push.ensures.items, c.new.ensures) (filled c.args.place c.loop-alloc.relations.items (omega (arith, c.loop-alloc-test.true, c.len.ensures)) m ∙ c.loop-alloc.invariant m)

pub returns : goal.returns
returns c =
    c.in_ok-insert.ensures.items ∙ inserted c.args.place c.loop-alloc.relations.items c.args.rows (omega (arith, c.loop-alloc-test.false, c.len.ensures)) ∙ c.loop-alloc.invariant c.args.rows
