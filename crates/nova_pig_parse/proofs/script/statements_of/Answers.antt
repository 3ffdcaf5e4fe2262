use Rattle.std.proofs.Common.{rules, arith, sym, ap, ◌∙◌}
use Rattle.std.proofs.lemmas.Grind.{common_steps}
use Rattle.nova_pig_parse.specs.Parse.{statements, cuts, ahead, read_cut}
use Rattle.nova_pig_parse.proofs.Cuts.{turn, fails, done, nil_of}
use Rattle.nova_pig_parse.proofs.script.statements_of.Goals as goal

pub returns-in_err-statement_of : goal.returns-in_err-statement_of
returns-in_err-statement_of c =
    let e = fails c.args.len c.loop-rest.out c.loop-rest.rest.now _ _ _ _ c.loop-rest.invariant c.next_cut.ensures.split c.is_none.result c.is_none.ensures c.in_err-statement_of.ensures in
    first_of (search rules, grind (arith, common_steps))

pub loop-rest-preserved : goal.loop-rest-preserved
loop-rest-preserved c =
    c.loop-rest.invariant
    ∙ turn c.args.len c.loop-rest.out c.loop-rest.rest.now _ c.next_cut.result.1.now _ c.next_cut.ensures.split (c.in_ok-statement_of.ensures ∙ ap (λ b. read_cut c.args.len b c.next_cut.result.0.now) c.is_none.ensures)
    ∙ ap (λ o. ahead o (statements c.args.len (cuts c.next_cut.result.1.now))) (sym c.in_ok-push.ensures.ok)

pub returns : goal.returns
returns c = sym (c.loop-rest.invariant ∙ done c.args.len c.loop-rest.out c.loop-rest.rest.now (nil_of c.loop-rest.rest.now (first_of (search rules, grind (arith, common_steps)))))
