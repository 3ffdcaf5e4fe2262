use Rattle.std.proofs.Common.{◌+◌, ◌<◌, List, drop, length, ap, ◌∙◌, arith}
use Rattle.std.proofs.lemmas.Result.{err_from_is_err_and}
use Rattle.nova_groups.specs.declared.item.Item.{Item}
use Rattle.nova_group_codec.specs.declared.sorts.Kept.TheVariants.{Total}
use Rattle.nova_group_codec.specs.Reading.{items_at}
use Rattle.nova_group_codec.proofs.Loop.{with_prefix, item_goes_on, item_stops, items_end}
use Rattle.nova_group_codec.proofs.decoding.items_from.Goals as goal

pub returns-in_err-item : goal.returns-in_err-item
returns-in_err-item c =
    let p = err_from_is_err_and c.from_residual-in_err-item.result c.from_residual-in_err-item.ensures.1 in
    let here : c.loop-i.i < length c.args.kept.now = omega arith in
    rw (p.1, p.2) (item_stops c.loop-i.items.items c.loop-i.i c.args.kept.now _ c.loop-i.rest.now _ c.loop-i.invariant here c.in_err-item.field-0.0 c.in_err-item.ensures)

pub loop-i-preserved : goal.loop-i-preserved
loop-i-preserved c =
    let here : c.loop-i.i < length c.args.kept.now = omega arith in
    ap (λ (xs : List Item). with_prefix xs (items_at (drop (c.loop-i.i + 1) c.args.kept.now) c.in_ok-item.after.now)) c.in_ok-push.ensures.items
    ∙ item_goes_on c.loop-i.items.items c.loop-i.i c.args.kept.now _ c.loop-i.rest.now _ c.loop-i.invariant here c.in_ok-item.item c.in_ok-item.after.now c.in_ok-item.ensures

pub returns : goal.returns
returns c = items_end c.loop-i.items.items c.loop-i.i c.args.kept.now Total c.loop-i.rest.now _ c.loop-i.invariant (omega arith)
