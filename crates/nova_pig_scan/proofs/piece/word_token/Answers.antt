-- A name that isn't too long is a text.
use Rattle.std.proofs.Common.{arith}
use Rattle.nova_pig_scan.proofs.Texts.{name_text}
use Rattle.nova_pig_scan.proofs.piece.word_token.Goals as goal

pub text_of-requires : goal.text_of-requires
text_of-requires c = name_text c.args.word.now c.requires (omega arith)
