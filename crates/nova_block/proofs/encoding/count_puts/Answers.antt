use Rattle.std.proofs.Common.{◌<◌, ◌^◌, List, length, subst, arith}
use Rattle.nova_value.specs.declared.schema.Entry.{Entry}
use Rattle.nova_delta.specs.Listed.{entries_of}
use Rattle.nova_block.proofs.Puts.{fewer_puts}
use Rattle.nova_block.proofs.encoding.count_puts.Goals as goal

pub overflow_add-count : goal.overflow_add-count
overflow_add-count c =
    let fits = subst (λ (es : List Entry). length es < 2 ^ 63) c.entries-entry-items.ensures.entries c.entries-entry-items.ensures.fits in
    omega (arith, c.loop-entry.invariant, fits, fewer_puts (entries_of c.args.delta.now))
