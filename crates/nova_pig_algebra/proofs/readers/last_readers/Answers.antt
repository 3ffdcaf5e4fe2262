use Rattle.std.proofs.Common.{◌-◌, arith}
use Rattle.nova_pig_algebra.proofs.Marks.{first_closing, close_one}
use Rattle.nova_pig_algebra.proofs.readers.last_readers.Goals as goal

pub loop-at-init : goal.loop-at-init
loop-at-init c = first_closing c.args.nodes.now c.args.stored c.in_ok-last.last.items c.in_ok-last.ensures

pub loop-at-preserved-then-index-gt0 : goal.loop-at-preserved-then-index-gt0
loop-at-preserved-then-index-gt0 c =
    close_one c.args.nodes.now c.args.stored c.loop-at.at (c.loop-at.at - 1) c.loop-at.last.items c.mark_read.new.last.items c.index-nodes-at.result (omega arith) c.loop-at.invariant c.index-nodes-at.is c.mark_read.ensures
