use Rattle.std.proofs.Common.{rules, ◌≡◌, ◌++◌, List, length, sym, subst}
use Rattle.std.specs.List.{filter}
use Rattle.nova_value.specs.declared.schema.Entry.{Entry}
use Rattle.nova_delta.specs.Listed.{entries_of}
use Rattle.nova_row_codec.specs.Spelling.{eight, entries_bytes}
use Rattle.nova_block.specs.Puts.{brings}
use Rattle.nova_block.proofs.Puts.{values_puts}
use Rattle.nova_block.proofs.encoding.encode_puts.Goals as goal

pub returns : goal.returns
returns c =
    let es = filter brings (entries_of c.args.delta.now) in
    let written : c.put_puts.new.out.items ≡ eight (length es) ++ entries_bytes es = search rules in
    subst (λ (kept : List Entry). c.put_puts.new.out.items ≡ eight (length kept) ++ entries_bytes kept) (sym (values_puts c.args.delta.now.entries)) written
