use Rattle.std.proofs.Common.{◌≡◌, ◌+◌, ◌-◌, ◌^◌, List, length, min, subst, arith}
use Rattle.std.proofs.lemmas.List.{length-append}
use Rattle.nova_value.specs.declared.schema.Entry.{Entry}
use Rattle.nova_delta.specs.Listed.{entries_of}
use Rattle.nova_row_codec.specs.Spelling.{eight, entries_bytes}
use Rattle.nova_block.proofs.length.encoded_length.Goals as goal

pub returns : goal.returns
returns c =
    let es = entries_of c.args.delta.now in
    let is = subst (λ (left : List Entry). min (c.loop-entry.total + length (entries_bytes left)) (2 ^ 64 - 1) ≡ min (8 + length (entries_bytes es)) (2 ^ 64 - 1)) c.in-None.ensures.steps.0 c.loop-entry.invariant.counted in
    let whole = length-append (eight (length es)) (entries_bytes es) in
    omega (arith, c.loop-entry.invariant.low, is, whole)
