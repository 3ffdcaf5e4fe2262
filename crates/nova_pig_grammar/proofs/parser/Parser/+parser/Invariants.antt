use Rattle.std.proofs.Common.{◌≡◌, ◌+◌, ◌*◌, ◌<◌, length}
use Rattle.nova_pig_grammar.specs.ExpressionReading.{read, At, After, rank}
use Rattle.nova_pig_grammar.specs.Expression.{Left, Neg, Comp, Unary, Primary, operand}
use Rattle.nova_pig_grammar.proofs.parser.Parser.+parser.Given as goal

abbrev pub decreases-left : goal.decreases-left
decreases-left l = 20 * length l.self.now + 2 * rank (At (Left l.level))

abbrev pub decreases-operand : goal.decreases-operand
decreases-operand l = 20 * length l.self.now + (2 * rank (At (operand l.level)) + 1)

abbrev pub decreases-neg : goal.decreases-neg
decreases-neg l = 20 * length l.self.now + 2 * rank (At Neg)

abbrev pub decreases-comp : goal.decreases-comp
decreases-comp l = 20 * length l.self.now + 2 * rank (At Comp)

abbrev pub decreases-unary : goal.decreases-unary
decreases-unary l = 20 * length l.self.now + 2 * rank (At Unary)

abbrev pub decreases-primary : goal.decreases-primary
decreases-primary l = 20 * length l.self.now + 2 * rank (At Primary)

abbrev pub invariant-left-loop-op : goal.invariant-left-loop-op
invariant-left-loop-op l = (read (At (Left l.level)) l.fn.self ≡ read (After l.level l.x) l.self) × (length l.self < length l.fn.self)

abbrev pub decreases-left-loop-op : goal.decreases-left-loop-op
decreases-left-loop-op l = length l.self

abbrev pub decreases-opened : goal.decreases-opened
decreases-opened l = 20 * length l.self.now + 16
