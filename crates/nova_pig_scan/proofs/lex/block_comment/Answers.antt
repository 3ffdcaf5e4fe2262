use Rattle.std.proofs.Common.{rules, arith}
use Rattle.std.proofs.lemmas.Grind.{common_steps}
use Rattle.nova_pig_scan.specs.Lex.{block}
use Rattle.nova_pig_scan.proofs.Runs.{block_more}
use Rattle.nova_pig_scan.proofs.lex.block_comment.Goals as goal

pub returns-then-begins-clause-value : goal.returns-then-begins-clause-value
unfolding block
returns-then-begins-clause-value c = first_of (search rules, grind (arith, common_steps))

pub loop-first-preserved : goal.loop-first-preserved
loop-first-preserved c =
    let more = block_more c.in-Some.first.now c.in-Some.rest.now c.loop-first.taken in
    (first_of (search (rules, more), grind (arith, common_steps, more)), grind (arith, common_steps))

pub returns-clause-value : goal.returns-clause-value
unfolding block
returns-clause-value c = first_of (search rules, grind (arith, common_steps))
