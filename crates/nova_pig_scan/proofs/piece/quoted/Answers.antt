-- The inside of a literal is a text.
use Rattle.std.proofs.Common.{sym, subst}
use Rattle.nova_value.specs.Text.{IsText}
use Rattle.std.proofs.lemmas.Str.{IsUtf8-from_is_utf8}
use Rattle.nova_pig_scan.proofs.Texts.{literal_text}
use Rattle.nova_pig_scan.proofs.piece.quoted.Goals as goal

pub text_of-requires : goal.text_of-requires
text_of-requires c =
    subst IsText (sym c.as_slice.ensures)
    (literal_text c.args.rest.now c.in-Ok.text c.in-Ok.n (IsUtf8-from_is_utf8 c.args.rest.now c.requires.utf8) c.requires.short c.in-Ok.ensures.value)
