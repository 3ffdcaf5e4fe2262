use Rattle.std.proofs.Common.{◌≡◌, ◌++◌, ◌≤◌, List, length, take, sym, subst, arith, length-take, length-append}
use Rattle.std.proofs.lemmas.Result.{err_from_is_err_and}
use Rattle.nova_engine.specs.Taken.{TookText}
use Rattle.nova_engine.proofs.Texts.{read_end, took_kept, took_more}
use Rattle.nova_engine.proofs.text.read_text.Goals as goal

pub returns-in_err-count-clause-text : goal.returns-in_err-count-clause-text
returns-in_err-count-clause-text g c input is =
    let p = err_from_is_err_and c.from_residual.result c.from_residual.ensures.1 in
    rw p.1 (c.loop-buffer.text.items, took_kept input _ _ c.loop-buffer.text.items (c.loop-buffer.invariant.took input is) c.in_err-count.ensures.bytes)

pub returns-then-count-eq0-clause-text : goal.returns-then-count-eq0-clause-text
returns-then-count-eq0-clause-text g c input is =
    let bytes = rw c.if-count-eq0.true at c.in_ok-count.ensures.bytes in
    read_end input _ _ c.loop-buffer.text.items (c.loop-buffer.invariant.took input is) bytes (c.in_ok-count.ensures.end c.if-count-eq0.true)

pub loop-buffer-preserved : goal.loop-buffer-preserved
loop-buffer-preserved g c =
    let old = c.loop-buffer.text.items in
    let count = c.in_ok-count.count in
    let bytes = take count c.fill_text.new.buffer in
    let held = c.len-in-loop-buffer.ensures in
    let room = c.in_ok-count.ensures.bound.1 in
    let short = length-take count c.fill_text.new.buffer in
    let long = length-append old bytes in
    let items : c.extend_from_slice.new.self.items ≡ old ++ bytes = c.in_ok-extend_from_slice.ensures.items in
    record {
      took = λ input is. subst (λ t. TookText input (g.S.Source.left c.fill_text.new.source) t) (sym items)
          (took_more input _ _ old bytes (c.loop-buffer.invariant.took input is) c.in_ok-count.ensures.bytes (omega (arith, held, room, short)));
      limit = subst (λ (t : List _). length t ≤ 1048577) (sym items) (omega (arith, held, room, short, long));
      read = omega (arith, c.loop-buffer.invariant.read, c.fill_text.ensures.cause.later);
    }

pub returns-in_err-extend_from_slice-clause-text : goal.returns-in_err-extend_from_slice-clause-text
returns-in_err-extend_from_slice-clause-text g c input is =
    let p = err_from_is_err_and c.from_residual-in_err-extend_from_slice.result c.from_residual-in_err-extend_from_slice.ensures.1 in
    let old = c.loop-buffer.text.items in
    let count = c.in_ok-count.count in
    let bytes = take count c.fill_text.new.buffer in
    let held = c.len-in-loop-buffer.ensures in
    let room = c.in_ok-count.ensures.bound.1 in
    let short = length-take count c.fill_text.new.buffer in
    rw p.1 (old ++ bytes, took_more input _ _ old bytes (c.loop-buffer.invariant.took input is) c.in_ok-count.ensures.bytes (omega (arith, held, room, short)))
