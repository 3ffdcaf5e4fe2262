use Rattle.std.proofs.Common.{◌≡◌, ◌+◌, ◌-◌, ◌^◌, List, length, min, ap, subst, arith}
use Rattle.std.proofs.lemmas.List.{length-append}
use Rattle.std.specs.List.{filter}
use Rattle.std.specs.FinMap as fin
use Rattle.nova_value.specs.declared.schema.Entry.{Entry}
use Rattle.nova_delta.specs.Listed.{entries_of}
use Rattle.nova_delta.specs.Merge.{puts}
use Rattle.nova_row_codec.specs.Spelling.{eight, entries_bytes}
use Rattle.nova_block.specs.Puts.{brings}
use Rattle.nova_block.proofs.Puts.{values_puts}
use Rattle.nova_block.proofs.length.puts_length.Goals as goal

pub returns : goal.returns
returns c =
    let es = filter brings (entries_of c.args.delta.now) in
    let is = subst (λ (left : List Entry). min (c.loop-entry.total + length (entries_bytes (filter brings left))) (2 ^ 64 - 1) ≡ min (8 + length (entries_bytes es)) (2 ^ 64 - 1)) c.in-None.ensures.steps.0 c.loop-entry.invariant.counted in
    let kept : List Entry = fin.values (puts c.args.delta.now.entries) in
    let whole = length-append (eight (length kept)) (entries_bytes kept) in
    let same = ap (λ (left : List Entry). length (entries_bytes left)) (values_puts c.args.delta.now.entries) in
    omega (arith, c.loop-entry.invariant.low, is, whole, same)
