use Rattle.std.proofs.Common.{List, length, arith, ap}
use Rattle.std.specs.FinMap.{len-entries}
use Rattle.nova_value.specs.declared.value.Value.{Value}
use Rattle.nova_value.specs.declared.schema.Entry.{Entry}
use Rattle.nova_state.proofs.change.known.Goals as goal

pub returns-clause-entries : goal.returns-clause-entries
returns-clause-entries c =
    let many = len-entries c.args.delta.now.entries in
    let same = ap (λ (es : List (List Value × Entry)). length es) c.keyed_entries.ensures.entries in
    omega (arith, c.keyed_entries.ensures.fits, many, same)
