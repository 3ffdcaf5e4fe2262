use Rattle.std.proofs.Common.{◌<◌, length, sym, arith}
use Rattle.std.proofs.lemmas.Result.{err_from_is_err_and}
use Rattle.nova_script.proofs.Giving.{pushes_failed, pushes_nothing, pushes_then}
use Rattle.nova_script.proofs.Fields.{tail_text-more, tail_text-tab, tail_text-value}
use Rattle.nova_script.proofs.rows.ReplyBuffer.push_tail.Goals as goal

pub loop-value-init : goal.loop-value-init
loop-value-init g c = pushes_nothing _ _ _

pub returns-in_err-push : goal.returns-in_err-push
returns-in_err-push g c =
    let p = err_from_is_err_and c.from_residual.result c.from_residual.ensures.1 in
    let below : c.loop-value.value-index < length c.args.values.now = omega arith in
    let all = sym (tail_text-tab c.args.values.now c.loop-value.value-index c.value-item.result below c.value-item.is) in
    rw p.1 (pushes_failed _ _ _ _ _ _ _ _ _ _ _ all (pushes_then _ _ _ _ _ _ _ _ _ _ _ c.loop-value.invariant c.in_err-push.ensures))

pub returns-in_err-push_value : goal.returns-in_err-push_value
returns-in_err-push_value g c =
    let p = err_from_is_err_and c.from_residual-in_err-push_value.result c.from_residual-in_err-push_value.ensures.1 in
    let below : c.loop-value.value-index < length c.args.values.now = omega arith in
    let all = sym (tail_text-value c.args.values.now c.loop-value.value-index c.value-item.result below c.value-item.is) in
    rw p.1 (pushes_failed _ _ _ _ _ _ _ _ _ _ _ all
    (pushes_then _ _ _ _ _ _ _ _ _ _ _ c.loop-value.invariant (pushes_then _ _ _ _ _ _ _ _ _ _ _ c.in_ok-push.ensures c.in_err-push_value.ensures)))

pub loop-value-preserved : goal.loop-value-preserved
loop-value-preserved g c =
    let below : c.loop-value.value-index < length c.args.values.now = omega arith in
    rw (tail_text-more c.args.values.now c.loop-value.value-index c.value-item.result below c.value-item.is)
    (pushes_then _ _ _ _ _ _ _ _ _ _ _ c.loop-value.invariant (pushes_then _ _ _ _ _ _ _ _ _ _ _ c.in_ok-push.ensures c.in_ok-push_value.ensures))
