use Rattle.std.proofs.Common.{◌≡◌, ℕ, ◌-◌, ◌+◌, ◌<◌, [], List, refl, sym, ap, ◌∙◌, arith}
use Rattle.std.proofs.lemmas.Result.{err_from_is_err_and}
use Rattle.nova_value.specs.declared.value.Value.{Value}
use Rattle.nova_value.specs.Order.{value_cmp}
use Rattle.nova_group_codec.specs.Reading.{Listed, number_at, count_at, counts_at, next_at, more_at, without_place}
use Rattle.nova_group_codec.proofs.Lists.{list_cut, list_more}
use Rattle.nova_group_codec.proofs.Loop.{fails_too, goes_on, stops, ends}
use Rattle.nova_group_codec.proofs.decoding.counts_from.Goals as goal

pub returns-in_err-count : goal.returns-in_err-count
returns-in_err-count c =
    let p = err_from_is_err_and c.from_residual.result c.from_residual.ensures.1 in
    rw (p.1, p.2) (fails_too c.in_err-count.field-0.0 (number_at c.args.bytes.now) (counts_at c.args.kind c.args.bytes.now)
    (λ f is. ap (λ (r : Listed (Value × ℕ)). without_place r) (list_cut value_cmp (count_at c.args.kind) c.args.bytes.now f is)) c.in_err-count.ensures)

pub loop-init : goal.loop-init
loop-init c =
    let n = c.in_ok-count.count in
    let whole : n - 0 ≡ n = omega arith in
    ap (λ (es : List (Value × ℕ)). without_place (more_at value_cmp (count_at c.args.kind) (n - 0) es c.in_ok-count.after.now)) c.new-counts.ensures.items
    ∙ ap (λ (k : ℕ). without_place (more_at value_cmp (count_at c.args.kind) k [] c.in_ok-count.after.now)) whole
    ∙ sym (ap (λ (r : Listed (Value × ℕ)). without_place r) (list_more value_cmp (count_at c.args.kind) c.args.bytes.now (n, c.in_ok-count.after.now) c.in_ok-count.ensures))

pub returns-in_err-found : goal.returns-in_err-found
returns-in_err-found c =
    let p = err_from_is_err_and c.from_residual-in_err-found.result c.from_residual-in_err-found.ensures.1 in
    let here : c.loop.counter < c.in_ok-count.count = omega arith in
    rw (p.1, p.2) (fails_too c.in_err-found.field-0.0 (next_at value_cmp (count_at c.args.kind) c.loop.counts.items c.loop.rest.now) (counts_at c.args.kind c.args.bytes.now)
    (λ f is. sym c.loop.invariant ∙ ap (λ (r : Listed (Value × ℕ)). without_place r) (stops value_cmp (count_at c.args.kind) c.in_ok-count.count c.loop.counter c.loop.counts.items c.loop.rest.now _ refl here f is))
    (rw c.deref.ensures.value at c.in_err-found.ensures))

pub loop-preserved : goal.loop-preserved
loop-preserved c =
    let here : c.loop.counter < c.in_ok-count.count = omega arith in
    ap (λ (es : List (Value × ℕ)). without_place (more_at value_cmp (count_at c.args.kind) (c.in_ok-count.count - (c.loop.counter + 1)) es c.in_ok-found.after.now)) c.in_ok-push.ensures.items
    ∙ ap (λ (r : Listed (Value × ℕ)). without_place r)
    (goes_on value_cmp (count_at c.args.kind) c.in_ok-count.count c.loop.counter c.loop.counts.items c.loop.rest.now _ refl here c.in_ok-found.found c.in_ok-found.after.now (rw c.deref.ensures.value at c.in_ok-found.ensures))
    ∙ c.loop.invariant

pub returns : goal.returns
returns c = sym c.loop.invariant ∙ ap (λ (r : Listed (Value × ℕ)). without_place r) (ends value_cmp (count_at c.args.kind) c.in_ok-count.count c.loop.counter c.loop.counts.items c.loop.rest.now _ refl (omega arith))
