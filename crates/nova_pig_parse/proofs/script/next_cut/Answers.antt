use Rattle.std.proofs.Common.{rules, arith, ◌≤◌, ◌<◌, length}
use Rattle.std.proofs.lemmas.Grind.{common_steps}
use Rattle.nova_pig_parse.specs.Parse.{before_semicolon}
use Rattle.nova_pig_parse.proofs.Cuts.{cuts_some, cuts_whole}
use Rattle.nova_pig_parse.proofs.script.next_cut.Goals as goal

pub returns-then-n-tokens-clause-split : goal.returns-then-n-tokens-clause-split
returns-then-n-tokens-clause-split c =
    let h : before_semicolon c.args.tokens.now < length c.args.tokens.now = first_of (search rules, grind (arith, common_steps)) in
    let e = cuts_some c.args.tokens.now h in
    first_of (search rules, grind (arith, common_steps))

pub returns-else-n-tokens-clause-split : goal.returns-else-n-tokens-clause-split
returns-else-n-tokens-clause-split c =
    let h : length c.args.tokens.now ≤ before_semicolon c.args.tokens.now = first_of (search rules, grind (arith, common_steps)) in
    cuts_whole c.args.tokens.now _ _ c.before_semicolon-n.result h c.requires c.if-n-tokens.false c.split_at-else-n-tokens.ensures.front c.split_at-else-n-tokens.ensures.back
