use Rattle.std.proofs.Common.{arith}
use Rattle.nova_row_codec.specs.Written.{IsBytes}
use Rattle.nova_group_codec.proofs.Items.{counts_rise}
use Rattle.nova_group_codec.proofs.decoding.item_from.Goals as goal

pub count_map-requires : goal.count_map-requires
count_map-requires c =
    let fits : IsBytes c.args.bytes.now = λ i. omega (arith, c.type_inv.bytes i) in
    counts_rise c.in-Counts.kind c.args.bytes.now (c.in_ok-counts-in-Counts.counts.items, c.in_ok-counts-in-Counts.rest.now) fits c.in_ok-counts-in-Counts.ensures
