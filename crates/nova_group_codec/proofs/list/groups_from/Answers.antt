use Rattle.std.proofs.Common.{◌-◌, ◌+◌, ◌<◌, List, length, ap, ◌∙◌, arith}
use Rattle.nova_value.specs.declared.value.Value.{Value}
use Rattle.nova_value.specs.Order.{key_cmp}
use Rattle.nova_groups.specs.Kinds.{Group}
use Rattle.nova_group_codec.specs.Reading.{group_at, next_at, more_at}
use Rattle.nova_group_codec.proofs.Loop.{not_refused, fails_at, goes_on, stops, ends}
use Rattle.nova_group_codec.proofs.list.groups_from.Goals as goal

pub returns-in-Err : goal.returns-in-Err
returns-in-Err c =
    let here : c.loop.counter < c.args.count = omega arith in
    fails_at c.in-Err.flaw (length c.loop.rest.now) (next_at key_cmp (group_at c.args.sorts.now) c.loop.groups.items c.loop.rest.now) _
    (λ f is. stops key_cmp (group_at c.args.sorts.now) c.args.count c.loop.counter c.loop.groups.items c.loop.rest.now _ c.loop.invariant here f is)
    (rw c.deref.ensures.value at c.in-Err.ensures)

pub loop-preserved : goal.loop-preserved
loop-preserved c =
    let here : c.loop.counter < c.args.count = omega arith in
    let pushed = not_refused c.push.new.self.items _ _ _ _ c.is_err.ensures.negation c.if-is_err.false c.push.ensures.items in
    ap (λ (es : List (List Value × Group)). more_at key_cmp (group_at c.args.sorts.now) (c.args.count - (c.loop.counter + 1)) es c.in-Ok.after.now) pushed
    ∙ goes_on key_cmp (group_at c.args.sorts.now) c.args.count c.loop.counter c.loop.groups.items c.loop.rest.now _ c.loop.invariant here c.in-Ok.found c.in-Ok.after.now (rw c.deref.ensures.value at c.in-Ok.ensures)

pub returns : goal.returns
returns c = ends key_cmp (group_at c.args.sorts.now) c.args.count c.loop.counter c.loop.groups.items c.loop.rest.now _ c.loop.invariant (omega arith)
