use Rattle.std.proofs.Common.{◌≡◌, ℕ, ◌<◌, get_or, false, not}
use Rattle.nova_pig_scan.specs.Lexemes.{is_word}
use Rattle.nova_pig_scan.proofs.lex.word_len.Given as goal

abbrev pub invariant-loop-i : goal.invariant-loop-i
invariant-loop-i l = (k : ℕ) → k < l.i → not (is_word (get_or l.text k 0)) ≡ false
