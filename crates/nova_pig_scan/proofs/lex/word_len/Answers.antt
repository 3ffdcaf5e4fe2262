use Rattle.std.proofs.Common.{arith, ◌≡◌, length, sym}
use Rattle.std.proofs.lemmas.Grind.{common_steps}
use Rattle.std.proofs.lemmas.List.Sums.{position_or_len_is}
use Rattle.nova_pig_scan.proofs.lex.word_len.Goals as goal

pub returns-then-not-is_word-clause-value : goal.returns-then-not-is_word-clause-value
returns-then-not-is_word-clause-value c = sym (position_or_len_is _ c.args.text.now c.loop-i.i 0 (omega arith) c.loop-i.invariant (λ h. grind (arith, common_steps)))

pub returns-clause-value : goal.returns-clause-value
returns-clause-value c =
    let all : c.loop-i.i ≡ length c.args.text.now = omega arith in
    rw (← all) (sym (position_or_len_is _ c.args.text.now c.loop-i.i 0 (omega arith) c.loop-i.invariant (λ h. absurd (omega arith))))
