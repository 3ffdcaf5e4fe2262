use Rattle.std.proofs.Common.{ap, Bool, Ok, Err, if◌then◌else◌, ◌&&◌}
use Rattle.nova_value.specs.declared.value.Value.TheVariants.{Text}
use Rattle.nova_value.specs.Text.{is_clean}
use Rattle.nova_row_codec.specs.declared.fault.CodecFault.TheVariants.{BadText}
use Rattle.nova_row_codec.specs.Reading.{text_of}
use Rattle.nova_row_codec.proofs.Prefixes.{not_utf8}
use Rattle.nova_row_codec.proofs.decoding.text_from.Goals as goal

pub returns-in-Err : goal.returns-in-Err
unfolding text_of
returns-in-Err c = ap (λ (b : Bool). if b && is_clean c.args.text.now then Ok (Text c.args.text.now) else Err BadText) (not_utf8 c.args.text.now c.in-Err.ensures.cases.0)
