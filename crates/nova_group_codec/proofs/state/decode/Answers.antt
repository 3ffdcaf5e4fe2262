use Rattle.std.proofs.Common.{sym, subst, arith}
use Rattle.nova_row_codec.specs.Written.{IsBytes}
use Rattle.nova_groups.specs.State.{StateValue}
use Rattle.nova_group_codec.specs.declared.fault.StateFault.{StateFault}
use Rattle.nova_group_codec.specs.Written.{IsRefused, SpellsState}
use Rattle.nova_group_codec.proofs.States.{parts_take, spells, refused}
use Rattle.nova_group_codec.proofs.state.decode.Goals as goal

pub state_of-requires-clause-shares : goal.state_of-requires-clause-shares
state_of-requires-clause-shares c =
    let fits : IsBytes c.args.bytes.now = λ i. omega (arith, c.type_inv.bytes i) in
    (parts_take c.args.sorts.now c.args.bytes.now (c.in-Ok.shares.items, c.in-Ok.groups.items) fits c.in-Ok.ensures).shares.rise

pub state_of-requires-clause-groups : goal.state_of-requires-clause-groups
state_of-requires-clause-groups c =
    let fits : IsBytes c.args.bytes.now = λ i. omega (arith, c.type_inv.bytes i) in
    (parts_take c.args.sorts.now c.args.bytes.now (c.in-Ok.shares.items, c.in-Ok.groups.items) fits c.in-Ok.ensures).groups.rise

pub returns-in-Ok-state_of-clause-found : goal.returns-in-Ok-state_of-clause-found
returns-in-Ok-state_of-clause-found c =
    let fits : IsBytes c.args.bytes.now = λ i. omega (arith, c.type_inv.bytes i) in
    subst (λ (st : StateValue). SpellsState c.args.sorts.now c.args.bytes.now st) (sym c.in-Ok-state_of.ensures)
    (spells c.args.sorts.now c.args.bytes.now (c.in-Ok.shares.items, c.in-Ok.groups.items) (parts_take c.args.sorts.now c.args.bytes.now (c.in-Ok.shares.items, c.in-Ok.groups.items) fits c.in-Ok.ensures))

pub returns-in-Err-clause-refused : goal.returns-in-Err-clause-refused
returns-in-Err-clause-refused c =
    let fits : IsBytes c.args.bytes.now = λ i. omega (arith, c.type_inv.bytes i) in
    subst (λ (fault : StateFault). IsRefused c.args.sorts.now c.args.bytes.now fault) (sym c.fault_of.ensures)
    (refused c.args.sorts.now c.args.bytes.now c.in-Err.flaw c.in-Err.left fits c.in-Err.ensures)
