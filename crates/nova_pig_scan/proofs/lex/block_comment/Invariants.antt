use Rattle.std.proofs.Common.{◌≡◌, ◌+◌, length}
use Rattle.nova_pig_scan.specs.Lex.{block, from_place}
use Rattle.nova_pig_scan.proofs.lex.block_comment.Given as goal

abbrev pub invariant-loop-first : goal.invariant-loop-first
invariant-loop-first l = (block l.initial.text ≡ from_place l.taken (block l.text)) × (l.taken + length l.text ≡ length l.initial.text)

abbrev pub decreases-loop-first : goal.decreases-loop-first
decreases-loop-first l = length l.text
