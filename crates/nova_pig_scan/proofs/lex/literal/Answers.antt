use Rattle.std.proofs.Common.{rules, arith}
use Rattle.std.proofs.lemmas.Grind.{common_steps}
use Rattle.nova_pig_scan.proofs.Runs.{literal_at, literal_end}
use Rattle.nova_pig_scan.proofs.lex.literal.Goals as goal

pub returns-in-Bad-clause-value : goal.returns-in-Bad-clause-value
returns-in-Bad-clause-value c = let e = literal_at c.args.text.now c.loop-at.at c.loop-at.escaped (omega arith) in first_of (search rules, grind (arith, common_steps))

pub returns-in-Close-clause-value : goal.returns-in-Close-clause-value
returns-in-Close-clause-value c = let e = literal_at c.args.text.now c.loop-at.at c.loop-at.escaped (omega arith) in first_of (search rules, grind (arith, common_steps))

pub loop-at-preserved : goal.loop-at-preserved
loop-at-preserved c = let e = literal_at c.args.text.now c.loop-at.at c.loop-at.escaped (omega arith) in first_of (search rules, grind (arith, common_steps))

pub returns-clause-value : goal.returns-clause-value
returns-clause-value c = let e = literal_end c.args.text.now c.loop-at.at c.loop-at.escaped (omega arith) in first_of (search rules, grind (arith, common_steps))
