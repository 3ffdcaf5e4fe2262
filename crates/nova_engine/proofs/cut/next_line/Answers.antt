use Rattle.std.proofs.Common.{◌≡◌, ◌<◌, length, arith}
use Rattle.std.proofs.Math.Seq.{take-length}
use Rattle.std.proofs.lemmas.List.{take_rest}
use Rattle.nova_machine.proofs.Cuts.{has_newline-take, cut_at}
use Rattle.nova_engine.proofs.cut.next_line.Goals as goal

pub returns-then-length-bytes : goal.returns-then-length-bytes
returns-then-length-bytes c =
    let bytes = c.args.bytes.now in
    let clean = has_newline-take c.line_length-length.result bytes c.line_length-length.ensures.before in
    let all : c.line_length-length.result ≡ length bytes = omega arith in
    rw (all, take-length bytes) at clean

pub returns : goal.returns
returns c =
    let bytes = c.args.bytes.now in
    let below : c.line_length-length.result < length bytes = omega arith in
    record {
      is = rw take_rest (cut_at c.line_length-length.result bytes below (c.line_length-length.ensures.end below));
      clean = has_newline-take c.line_length-length.result bytes c.line_length-length.ensures.before;
    }
