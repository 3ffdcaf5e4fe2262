use Rattle.std.proofs.Common.{◌+◌, ◌<◌, List, drop, length, ap, ◌∙◌, arith}
use Rattle.std.proofs.lemmas.Result.{err_from_is_err_and}
use Rattle.nova_value.specs.declared.value.Value.{Value}
use Rattle.nova_row_codec.specs.Reading.{values_at}
use Rattle.nova_row_codec.proofs.Loop.{with_prefix, goes_on, ends, is_done}
use Rattle.nova_row_codec.proofs.decoding.values_of.Goals as goal

pub returns-in_err-value : goal.returns-in_err-value
returns-in_err-value c =
    let p = err_from_is_err_and c.from_residual-in_err-value.result c.from_residual-in_err-value.ensures.1 in
    let ks = c.args.kinds.now in
    let here : c.loop-i.i < length ks = omega arith in
    rw (p.1, p.2) (ends c.loop-i.values.items c.loop-i.i ks _ c.loop-i.rest.now _ here c.loop-i.invariant c.in_err-value.field-0.0 c.in_err-value.ensures)

pub loop-i-preserved : goal.loop-i-preserved
loop-i-preserved c =
    let ks = c.args.kinds.now in
    let here : c.loop-i.i < length ks = omega arith in
    ap (λ (vs : List Value). with_prefix vs (values_at (drop (c.loop-i.i + 1) ks) c.in_ok-value.after.now)) c.in_ok-push.ensures.items
    ∙ goes_on c.loop-i.values.items c.loop-i.i ks _ c.loop-i.rest.now _ here c.loop-i.invariant c.in_ok-value.value c.in_ok-value.after.now c.in_ok-value.ensures

pub returns : goal.returns
returns c = is_done c.loop-i.values.items c.loop-i.i c.args.kinds.now c.loop-i.rest.now _ (omega arith) c.loop-i.invariant
