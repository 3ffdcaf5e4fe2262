use Rattle.std.proofs.Common.{Ok, take}
use Rattle.nova_outside.specs.declared.Failed.{Failed}
use Rattle.nova_value.specs.RowLine.{tail_text}
use Rattle.nova_script.specs.Replying.{Pushes}
use Rattle.nova_script.proofs.rows.ReplyBuffer.push_tail.Given as goal

abbrev pub invariant-loop-value : goal.invariant-loop-value
invariant-loop-value g l = Pushes {T = Unit {0}} {E = Failed} g.H.Host l.fn.host l.host l.fn.self l.self (tail_text (take l.value-index l.values)) (Ok tt)
