-- The letters, digits and `_` after a letter make a name with it.
use Rattle.std.proofs.Common.{◌+◌, take, sym, subst}
use Rattle.nova_pig_scan.specs.Lexemes.{IsName}
use Rattle.nova_pig_scan.proofs.Texts.{word_name}
use Rattle.nova_pig_scan.proofs.piece.word.Goals as goal

pub word_token-requires : goal.word_token-requires
word_token-requires c =
    subst (λ n. IsName (take (n + 1) c.args.text.now)) (sym c.word_len-n.ensures.value) (word_name c.requires.0 c.args.text.now c.args.rest.now c.requires.1 c.requires.2)
