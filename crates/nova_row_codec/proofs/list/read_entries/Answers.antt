use Rattle.std.proofs.Common.{arith}
use Rattle.nova_row_codec.specs.declared.fault.CodecFault.TheVariants.{BadTag}
use Rattle.nova_row_codec.proofs.Blocks.{stops_at, left_after, whole_block}
use Rattle.nova_row_codec.proofs.list.read_entries.Goals as goal

pub returns-then-at-bytes-clause-refused : goal.returns-then-at-bytes-clause-refused
returns-then-at-bytes-clause-refused c = λ _.
    stops_at c.args.schema.now c.args.bytes.now c.args.count c.loop.at c.loop.entries.items BadTag (omega (arith, c.ranges.count.fits)) c.loop.invariant.read
    (left_after c.args.schema.now c.args.bytes.now c.args.count c.loop.at c.loop.entries.items c.if-at-bytes.true (omega (arith, c.loop.invariant.number)))

pub returns-clause-found : goal.returns-clause-found
returns-clause-found c = whole_block c.args.schema.now c.args.bytes.now c.args.count c.loop.at c.loop.entries.items (omega (arith, c.ranges.count.fits)) c.loop.invariant.read (omega arith) (omega (arith, c.loop.invariant.number))
