use Rattle.std.proofs.Common.{rules, arith, Some, length, ap, sym, ◌∙◌}
use Rattle.std.proofs.lemmas.Grind.{common_steps}
use Rattle.nova_pig_grammar.specs.StatementReading.{ahead, more}
use Rattle.nova_pig_grammar.specs.StatementReading.{item_at}
use Rattle.nova_pig_grammar.proofs.Lists.{turn, fault, last}
use Rattle.nova_pig_grammar.proofs.Shrink.{item-no_longer}
use Rattle.nova_pig_grammar.proofs.item.items_at.Goals as goal

pub returns-in_err-item_at-2 : goal.returns-in_err-item_at-2
returns-in_err-item_at-2 c =
    let e = fault item_at item-no_longer c.loop-alloc.out c.args.parser.now c.loop-alloc.parser _ _ c.item_at-in-loop-alloc.new.parser _ c.loop-alloc.invariant c.loop-alloc-test.ensures.reading c.in_err-item_at-2.ensures in
    first_of (search rules, grind (arith, common_steps))

pub loop-alloc-preserved : goal.loop-alloc-preserved
loop-alloc-preserved c =
    c.loop-alloc.invariant ∙ turn item_at item-no_longer c.loop-alloc.out c.loop-alloc.parser _ _ _ c.loop-alloc-test.ensures.reading c.in_ok-item_at-2.ensures
    ∙ ap (λ o. ahead o (more item_at c.item_at-in-loop-alloc.new.parser)) (sym c.in_ok-push-2.ensures.ok)

pub loop-alloc-smaller : goal.loop-alloc-smaller
loop-alloc-smaller c =
    let h = item-no_longer _ _ _ c.in_ok-item_at-2.ensures in
    let e = ap length c.loop-alloc-test.ensures.reading in
    omega (arith, h, e)

pub returns : goal.returns
returns c = c.loop-alloc.invariant ∙ last item_at c.loop-alloc.out c.loop-alloc.parser c.loop-alloc-test.ensures.reading.1 ∙ ap (λ ts. Some (c.loop-alloc.out, ts)) (sym c.loop-alloc-test.ensures.reading.0)
