use Rattle.std.proofs.Common.{◌≡◌, length}
use Rattle.nova_pig_grammar.specs.StatementReading.{listed, ahead, more}
use Rattle.nova_pig_grammar.specs.ExpressionReading.{field_at}
use Rattle.nova_pig_grammar.proofs.item.fields_at.Given as goal

abbrev pub invariant-loop-alloc : goal.invariant-loop-alloc
invariant-loop-alloc l = listed field_at l.fn.parser ≡ ahead l.out (more field_at l.parser)

abbrev pub decreases-loop-alloc : goal.decreases-loop-alloc
decreases-loop-alloc l = length l.parser
