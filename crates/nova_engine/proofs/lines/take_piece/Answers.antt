use Rattle.std.proofs.Common.{◌++◌, ◌∷◌, [], refl, arith, length-append}
use Rattle.std.proofs.lemmas.Result.{err_from_is_err_and}
use Rattle.nova_engine.specs.Seen.{seen}
use Rattle.nova_engine.proofs.Damage.{grows_both, grows_nothing}
use Rattle.nova_engine.proofs.Moving.{moves_nothing, moves_both, breaks_behind, breaks_before, next_bytes, moves_kept}
use Rattle.nova_engine.proofs.lines.take_piece.Goals as goal

pub loop-line-init : goal.loop-line-init
loop-line-init g c = record {
  done = [];
  all = refl;
  moves = moves_nothing _ c.args.reader (seen g.H.Host c.args.host.now);
  room = omega arith;
  in_host = c.requires.in_host;
  grows = λ honest. grows_nothing _;
  disk_later = omega arith;
  later = omega arith;
}

pub returns-in_err-reader-clause-told : goal.returns-in_err-reader-clause-told
returns-in_err-reader-clause-told g c =
    let p = err_from_is_err_and c.from_residual.result c.from_residual.ensures.1 in
    let done = c.loop-line.invariant.done in
    let line = c.in-Some.line.now in
    let more = c.in-Some.more.now in
    let all = next_bytes c.args.bytes.now done c.loop-line.rest.now line more c.loop-line.invariant.all c.in-Some.ensures.is in
    rw (p.1, p.2, all) (breaks_before _ _ c.args.reader _ _ (done ++ (line ++ 10 ∷ [])) more
    (breaks_behind _ _ c.args.reader c.loop-line.reader _ _ _ done (line ++ 10 ∷ []) c.loop-line.invariant.moves c.in_err-reader.ensures.told))

pub loop-line-preserved : goal.loop-line-preserved
loop-line-preserved g c =
    let done = c.loop-line.invariant.done in
    let line = c.in-Some.line.now in
    let more = c.in-Some.more.now in
    record {
      done = done ++ (line ++ 10 ∷ []);
      all = next_bytes c.args.bytes.now done c.loop-line.rest.now line more c.loop-line.invariant.all c.in-Some.ensures.is;
      moves = moves_both _ c.args.reader c.loop-line.reader c.in_ok-reader.reader _ _ _ done (line ++ 10 ∷ []) c.loop-line.invariant.moves c.in_ok-reader.ensures.told;
      room = omega (arith, c.in_ok-reader.ensures.lines, c.loop-line.invariant.room, length-append done (line ++ 10 ∷ []), length-append line (10 ∷ []));
      in_host = c.in_ok-reader.ensures.in_host;
      grows = λ honest. grows_both _ _ _ (c.loop-line.invariant.grows honest) (c.end_line.ensures.grows honest);
      disk_later = omega (arith, c.loop-line.invariant.disk_later, c.end_line.ensures.cause.disk_later);
      later = omega (arith, c.loop-line.invariant.later, c.end_line.ensures.cause.reply_later);
    }

pub returns-clause-told : goal.returns-clause-told
returns-clause-told g c =
    moves_kept _ c.carry_on.result c.args.reader c.loop-line.reader (seen g.H.Host c.args.host.now) (seen g.H.Host c.loop-line.host) c.args.bytes.now c.loop-line.invariant.done c.loop-line.rest.now
    c.loop-line.invariant.all c.in_default.ensures c.loop-line.invariant.moves c.carry_on.ensures.session c.carry_on.ensures.held c.carry_on.ensures.memory

pub returns-in_err-reader-clause-grows : goal.returns-in_err-reader-clause-grows
returns-in_err-reader-clause-grows g c honest = grows_both _ _ _ (c.loop-line.invariant.grows honest) (c.end_line.ensures.grows honest)
