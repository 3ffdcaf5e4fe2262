use Rattle.nova_name.proofs.NamesAreText.{name_is_text}
use Rattle.nova_name.proofs.names.name_of.Goals as goal

pub returns-in-Err : goal.returns-in-Err
returns-in-Err c = absurd (name_is_text c.args.word.now (cc) c.in-Err.ensures.cases.0)
