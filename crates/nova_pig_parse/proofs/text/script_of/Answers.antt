use Rattle.std.proofs.Common.{rules, Ok}
use Rattle.nova_pig_scan.proofs.Exact.{ok_found}
use Rattle.nova_pig_parse.proofs.Size.{read_small}
use Rattle.nova_pig_parse.proofs.text.script_of.Goals as goal

pub new-requires : goal.new-requires
new-requires c =
    read_small c.args.text.now c.in-Ok.tokens c.in_ok-statements_of-in-None.field-0 (search rules) (ok_found c.args.text.now (Ok c.in-Ok.tokens) c.in-Ok.ensures) (search rules) (search rules)
