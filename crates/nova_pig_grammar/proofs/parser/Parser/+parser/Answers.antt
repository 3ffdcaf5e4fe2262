use Rattle.std.proofs.Common.{rules, arith}
use Rattle.std.proofs.lemmas.Grind.{common_steps}
use Rattle.nova_pig_grammar.proofs.Next.{comp_at, left_at}
use Rattle.nova_pig_grammar.proofs.parser.Parser.+parser.Goals as goal

pub comp-returns-in_err-a-clause-reading : goal.comp-returns-in_err-a-clause-reading
comp-returns-in_err-a-clause-reading t c = let e = comp_at c.args.self.now in first_of (search rules, grind (arith, common_steps))

pub comp-returns-in_default-clause-reading : goal.comp-returns-in_default-clause-reading
comp-returns-in_default-clause-reading t c = let e = comp_at c.args.self.now in first_of (search rules, grind (arith, common_steps))

pub comp-returns-in_err-b-clause-reading : goal.comp-returns-in_err-b-clause-reading
comp-returns-in_err-b-clause-reading t c = let e = comp_at c.args.self.now in first_of (search rules, grind (arith, common_steps))

pub comp-returns-clause-reading : goal.comp-returns-clause-reading
comp-returns-clause-reading t c = let e = comp_at c.args.self.now in first_of (search rules, grind (arith, common_steps))

pub left-returns-in_err-x-clause-reading : goal.left-returns-in_err-x-clause-reading
left-returns-in_err-x-clause-reading t c = let e = left_at c.args.level c.args.self.now in first_of (search rules, grind (arith, common_steps))

pub left-loop-op-init : goal.left-loop-op-init
left-loop-op-init t c = let e = left_at c.args.level c.args.self.now in first_of (search rules, grind (arith, common_steps))

pub operand-left-requires : goal.operand-left-requires
operand-left-requires t c = let d = rw c.in-Or.is at c.decreases in first_of (search rules, grind arith)

pub operand-neg-requires : goal.operand-neg-requires
operand-neg-requires t c = let d = rw c.in-And.is at c.decreases in first_of (search rules, grind arith)

pub operand-left-requires-in-Sum : goal.operand-left-requires-in-Sum
operand-left-requires-in-Sum t c = let d = rw c.in-Sum.is at c.decreases in first_of (search rules, grind arith)

pub operand-unary-requires : goal.operand-unary-requires
operand-unary-requires t c = let d = rw c.in-Prod.is at c.decreases in first_of (search rules, grind arith)
