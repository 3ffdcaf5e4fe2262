use Rattle.std.proofs.Common.{rules, arith, subst, sym, ap, ◌∙◌, ◌≡◌}
use Rattle.std.specs.Prelude.{IfOk}
use Rattle.std.proofs.lemmas.Grind.{common_steps}
use Rattle.nova_value.specs.declared.value.Value.{Value}
use Rattle.nova_pig_algebra.specs.Meaning as meaning
use Rattle.nova_pig_slow.proofs.Laws as laws
use Rattle.nova_pig_slow.proofs.value.+value.Goals as goal

pub holds-returns-in_ok-b-in-Compare : goal.holds-returns-in_ok-b-in-Compare
holds-returns-in_ok-b-in-Compare t c =
    let g = laws.given-Compare c.in-Compare.op c.in-Compare.a c.in-Compare.b in
    first_of (search rules, grind (arith, common_steps))

pub holds-returns-then-a : goal.holds-returns-then-a
holds-returns-then-a t c =
    let g = laws.given-And c.in-And.a c.in-And.b in
    first_of (search rules, grind (arith, common_steps))

pub holds-returns-else-a : goal.holds-returns-else-a
holds-returns-else-a t c =
    let g = laws.given-And c.in-And.a c.in-And.b in
    first_of (search rules, grind (arith, common_steps))

pub holds-returns-then-a-2 : goal.holds-returns-then-a-2
holds-returns-then-a-2 t c =
    let g = laws.given-Or c.in-Or.a c.in-Or.b in
    first_of (search rules, grind (arith, common_steps))

pub holds-returns-else-a-2 : goal.holds-returns-else-a-2
holds-returns-else-a-2 t c =
    let g = laws.given-Or c.in-Or.a c.in-Or.b in
    first_of (search rules, grind (arith, common_steps))

pub holds-returns-in_ok-holds-in-Not : goal.holds-returns-in_ok-holds-in-Not
holds-returns-in_ok-holds-in-Not t c =
    let g = laws.given-Not c.in-Not.a in
    first_of (search rules, grind (arith, common_steps))

pub holds-returns-in_default : goal.holds-returns-in_default
holds-returns-in_default t c = laws.no_condition c.args.expr.now c.in_default.not-Compare c.in_default.not-And c.in_default.not-Or c.in_default.not-Not c.args.row.now _

pub value-returns-in-Num : goal.value-returns-in-Num
value-returns-in-Num t c =
    let g = laws.given-Num c.in-Num.n in
    first_of (search rules, grind (arith, common_steps))

pub value-returns-in_ok-copy-in-Lit : goal.value-returns-in_ok-copy-in-Lit
value-returns-in_ok-copy-in-Lit t c =
    let g = laws.given-Lit c.in-Lit.text in
    first_of (search rules, grind (arith, common_steps))

pub value-returns-in-Column : goal.value-returns-in-Column
value-returns-in-Column t c =
    let v = λ (g : meaning.Given). g.value c.args.row.now (meaning.calls_over c.args.members.now) in
    subst (λ (x : Value). IfOk c.at.result (λ v. v ≡ x)) (sym (ap (λ x. v (meaning.given x)) c.in-Column.is ∙ ap v (laws.given-Column c.in-Column.place))) c.at.ensures

pub value-returns-in-GroupColumn : goal.value-returns-in-GroupColumn
value-returns-in-GroupColumn t c =
    let v = λ (g : meaning.Given). g.value c.args.row.now (meaning.calls_over c.args.members.now) in
    subst (λ (x : Value). IfOk c.at-in-GroupColumn.result (λ v. v ≡ x)) (sym (ap (λ x. v (meaning.given x)) c.in-GroupColumn.is ∙ ap v (laws.given-GroupColumn c.in-GroupColumn.place))) c.at-in-GroupColumn.ensures

pub value-returns-in-Agg : goal.value-returns-in-Agg
value-returns-in-Agg t c =
    let v = λ (g : meaning.Given). g.value c.args.row.now (meaning.calls_over c.args.members.now) in
    subst (λ (x : Value). IfOk c.call.result (λ v. v ≡ x)) (sym (ap (λ x. v (meaning.given x)) c.in-Agg.is ∙ ap v (laws.given-Agg c.in-Agg.kind c.in-Agg.column))) c.call.ensures

pub value-returns-in_ok-a-in-Neg : goal.value-returns-in_ok-a-in-Neg
value-returns-in_ok-a-in-Neg t c =
    let g = laws.given-Neg c.in-Neg.a in
    first_of (search rules, grind (arith, common_steps))

pub value-returns-in_ok-b-in-Add : goal.value-returns-in_ok-b-in-Add
value-returns-in_ok-b-in-Add t c =
    let g = laws.given-Add c.in-Add.a c.in-Add.b in
    first_of (search rules, grind (arith, common_steps))

pub value-returns-in_ok-b-in-Sub : goal.value-returns-in_ok-b-in-Sub
value-returns-in_ok-b-in-Sub t c =
    let g = laws.given-Sub c.in-Sub.a c.in-Sub.b in
    first_of (search rules, grind (arith, common_steps))

pub value-returns-in_ok-b-in-Mul : goal.value-returns-in_ok-b-in-Mul
value-returns-in_ok-b-in-Mul t c =
    let g = laws.given-Mul c.in-Mul.a c.in-Mul.b in
    first_of (search rules, grind (arith, common_steps))

pub value-returns-then-branch : goal.value-returns-then-branch
value-returns-then-branch t c =
    let g = laws.given-If c.in-If.cond c.in-If.a c.in-If.b in
    first_of (search rules, grind (arith, common_steps))

pub value-returns-else-branch : goal.value-returns-else-branch
value-returns-else-branch t c =
    let g = laws.given-If c.in-If.cond c.in-If.a c.in-If.b in
    first_of (search rules, grind (arith, common_steps))

pub value-returns-in-Compare : goal.value-returns-in-Compare
value-returns-in-Compare t c =
    let g = laws.given-Compare c.in-Compare.op c.in-Compare.a c.in-Compare.b in
    first_of (search rules, grind (arith, common_steps))

pub value-returns-in-And : goal.value-returns-in-And
value-returns-in-And t c =
    let g = laws.given-And c.in-And.field-0 c.in-And.field-1 in
    first_of (search rules, grind (arith, common_steps))

pub value-returns-in-Or : goal.value-returns-in-Or
value-returns-in-Or t c =
    let g = laws.given-Or c.in-Or.field-0 c.in-Or.field-1 in
    first_of (search rules, grind (arith, common_steps))

pub value-returns-in-Not : goal.value-returns-in-Not
value-returns-in-Not t c =
    let g = laws.given-Not c.in-Not.field-0 in
    first_of (search rules, grind (arith, common_steps))
