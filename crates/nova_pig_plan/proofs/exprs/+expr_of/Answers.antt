use Rattle.std.proofs.Common.{rules, arith}
use Rattle.std.proofs.lemmas.Grind.{common_steps}
use Rattle.nova_pig_plan.proofs.Laws as laws
use Rattle.nova_pig_plan.proofs.exprs.+expr_of.Goals as goal

pub returns-in_err-a-in-Neg : goal.returns-in_err-a-in-Neg
returns-in_err-a-in-Neg t c =
    let g = laws.expr-Neg c.args.scope.now c.in-Neg.a in
    first_of (search rules, grind (arith, common_steps))

pub returns-in_err-check-in-Neg : goal.returns-in_err-check-in-Neg
returns-in_err-check-in-Neg t c =
    let g = laws.expr-Neg c.args.scope.now c.in-Neg.a in
    first_of (search rules, grind (arith, common_steps))

pub returns-in_err-a-in-Add : goal.returns-in_err-a-in-Add
returns-in_err-a-in-Add t c =
    let g = laws.expr-Add c.args.scope.now c.in-Add.a c.in-Add.b in
    first_of (search rules, grind (arith, common_steps))

pub returns-in_err-b-in-Add : goal.returns-in_err-b-in-Add
returns-in_err-b-in-Add t c =
    let g = laws.expr-Add c.args.scope.now c.in-Add.a c.in-Add.b in
    first_of (search rules, grind (arith, common_steps))

pub returns-in_err-check-in-Add : goal.returns-in_err-check-in-Add
returns-in_err-check-in-Add t c =
    let g = laws.expr-Add c.args.scope.now c.in-Add.a c.in-Add.b in
    first_of (search rules, grind (arith, common_steps))

pub returns-in_err-a-in-Sub : goal.returns-in_err-a-in-Sub
returns-in_err-a-in-Sub t c =
    let g = laws.expr-Sub c.args.scope.now c.in-Sub.a c.in-Sub.b in
    first_of (search rules, grind (arith, common_steps))

pub returns-in_err-b-in-Sub : goal.returns-in_err-b-in-Sub
returns-in_err-b-in-Sub t c =
    let g = laws.expr-Sub c.args.scope.now c.in-Sub.a c.in-Sub.b in
    first_of (search rules, grind (arith, common_steps))

pub returns-in_err-check-in-Sub : goal.returns-in_err-check-in-Sub
returns-in_err-check-in-Sub t c =
    let g = laws.expr-Sub c.args.scope.now c.in-Sub.a c.in-Sub.b in
    first_of (search rules, grind (arith, common_steps))

pub returns-in_err-a-in-Mul : goal.returns-in_err-a-in-Mul
returns-in_err-a-in-Mul t c =
    let g = laws.expr-Mul c.args.scope.now c.in-Mul.a c.in-Mul.b in
    first_of (search rules, grind (arith, common_steps))

pub returns-in_err-b-in-Mul : goal.returns-in_err-b-in-Mul
returns-in_err-b-in-Mul t c =
    let g = laws.expr-Mul c.args.scope.now c.in-Mul.a c.in-Mul.b in
    first_of (search rules, grind (arith, common_steps))

pub returns-in_err-check-in-Mul : goal.returns-in_err-check-in-Mul
returns-in_err-check-in-Mul t c =
    let g = laws.expr-Mul c.args.scope.now c.in-Mul.a c.in-Mul.b in
    first_of (search rules, grind (arith, common_steps))

pub returns-in_err-a-in-Compare : goal.returns-in_err-a-in-Compare
returns-in_err-a-in-Compare t c =
    let g = laws.expr-Compare c.args.scope.now c.in-Compare.op c.in-Compare.a c.in-Compare.b in
    first_of (search rules, grind (arith, common_steps))

pub returns-in_err-b-in-Compare : goal.returns-in_err-b-in-Compare
returns-in_err-b-in-Compare t c =
    let g = laws.expr-Compare c.args.scope.now c.in-Compare.op c.in-Compare.a c.in-Compare.b in
    first_of (search rules, grind (arith, common_steps))

pub returns-in_err-check-in-Compare : goal.returns-in_err-check-in-Compare
returns-in_err-check-in-Compare t c =
    let g = laws.expr-Compare c.args.scope.now c.in-Compare.op c.in-Compare.a c.in-Compare.b in
    first_of (search rules, grind (arith, common_steps))

pub returns-in_err-a-in-And : goal.returns-in_err-a-in-And
returns-in_err-a-in-And t c =
    let g = laws.expr-And c.args.scope.now c.in-And.a c.in-And.b in
    first_of (search rules, grind (arith, common_steps))

pub returns-in_err-b-in-And : goal.returns-in_err-b-in-And
returns-in_err-b-in-And t c =
    let g = laws.expr-And c.args.scope.now c.in-And.a c.in-And.b in
    first_of (search rules, grind (arith, common_steps))

pub returns-in_err-check-in-And : goal.returns-in_err-check-in-And
returns-in_err-check-in-And t c =
    let g = laws.expr-And c.args.scope.now c.in-And.a c.in-And.b in
    first_of (search rules, grind (arith, common_steps))

pub returns-in_err-a-in-Or : goal.returns-in_err-a-in-Or
returns-in_err-a-in-Or t c =
    let g = laws.expr-Or c.args.scope.now c.in-Or.a c.in-Or.b in
    first_of (search rules, grind (arith, common_steps))

pub returns-in_err-b-in-Or : goal.returns-in_err-b-in-Or
returns-in_err-b-in-Or t c =
    let g = laws.expr-Or c.args.scope.now c.in-Or.a c.in-Or.b in
    first_of (search rules, grind (arith, common_steps))

pub returns-in_err-check-in-Or : goal.returns-in_err-check-in-Or
returns-in_err-check-in-Or t c =
    let g = laws.expr-Or c.args.scope.now c.in-Or.a c.in-Or.b in
    first_of (search rules, grind (arith, common_steps))

pub returns-in_err-a-in-Not : goal.returns-in_err-a-in-Not
returns-in_err-a-in-Not t c =
    let g = laws.expr-Not c.args.scope.now c.in-Not.a in
    first_of (search rules, grind (arith, common_steps))

pub returns-in_err-check-in-Not : goal.returns-in_err-check-in-Not
returns-in_err-check-in-Not t c =
    let g = laws.expr-Not c.args.scope.now c.in-Not.a in
    first_of (search rules, grind (arith, common_steps))

pub returns-in_err-cond-in-If : goal.returns-in_err-cond-in-If
returns-in_err-cond-in-If t c =
    let g = laws.expr-If c.args.scope.now c.in-If.cond c.in-If.a c.in-If.b in
    first_of (search rules, grind (arith, common_steps))

pub returns-in_err-a-in-If : goal.returns-in_err-a-in-If
returns-in_err-a-in-If t c =
    let g = laws.expr-If c.args.scope.now c.in-If.cond c.in-If.a c.in-If.b in
    first_of (search rules, grind (arith, common_steps))

pub returns-in_err-b-in-If : goal.returns-in_err-b-in-If
returns-in_err-b-in-If t c =
    let g = laws.expr-If c.args.scope.now c.in-If.cond c.in-If.a c.in-If.b in
    first_of (search rules, grind (arith, common_steps))

pub returns-in_err-check-in-If : goal.returns-in_err-check-in-If
returns-in_err-check-in-If t c =
    let g = laws.expr-If c.args.scope.now c.in-If.cond c.in-If.a c.in-If.b in
    first_of (search rules, grind (arith, common_steps))

pub returns-in-Num : goal.returns-in-Num
returns-in-Num t c =
    let g = laws.expr-Num c.args.scope.now c.in-Num.n in
    first_of (search rules, grind (arith, common_steps))

pub returns-in-Lit : goal.returns-in-Lit
returns-in-Lit t c =
    let g = laws.expr-Lit c.args.scope.now c.in-Lit.text in
    first_of (search rules, grind (arith, common_steps))

pub returns-in-Ref : goal.returns-in-Ref
returns-in-Ref t c =
    let g = laws.expr-Ref c.args.scope.now c.in-Ref.field in
    first_of (search rules, grind (arith, common_steps))

pub returns-in-Call : goal.returns-in-Call
returns-in-Call t c =
    let g = laws.expr-Call c.args.scope.now c.in-Call.kind c.in-Call.alias c.in-Call.field in
    first_of (search rules, grind (arith, common_steps))

pub returns-in_ok-check-in-Neg : goal.returns-in_ok-check-in-Neg
returns-in_ok-check-in-Neg t c =
    let g = laws.expr-Neg c.args.scope.now c.in-Neg.a in
    first_of (search rules, grind (arith, common_steps))

pub returns-in_ok-check-in-Add : goal.returns-in_ok-check-in-Add
returns-in_ok-check-in-Add t c =
    let g = laws.expr-Add c.args.scope.now c.in-Add.a c.in-Add.b in
    first_of (search rules, grind (arith, common_steps))

pub returns-in_ok-check-in-Sub : goal.returns-in_ok-check-in-Sub
returns-in_ok-check-in-Sub t c =
    let g = laws.expr-Sub c.args.scope.now c.in-Sub.a c.in-Sub.b in
    first_of (search rules, grind (arith, common_steps))

pub returns-in_ok-check-in-Mul : goal.returns-in_ok-check-in-Mul
returns-in_ok-check-in-Mul t c =
    let g = laws.expr-Mul c.args.scope.now c.in-Mul.a c.in-Mul.b in
    first_of (search rules, grind (arith, common_steps))

pub returns-in_ok-check-in-Compare : goal.returns-in_ok-check-in-Compare
returns-in_ok-check-in-Compare t c =
    let g = laws.expr-Compare c.args.scope.now c.in-Compare.op c.in-Compare.a c.in-Compare.b in
    first_of (search rules, grind (arith, common_steps))

pub returns-in_ok-check-in-And : goal.returns-in_ok-check-in-And
returns-in_ok-check-in-And t c =
    let g = laws.expr-And c.args.scope.now c.in-And.a c.in-And.b in
    first_of (search rules, grind (arith, common_steps))

pub returns-in_ok-check-in-Or : goal.returns-in_ok-check-in-Or
returns-in_ok-check-in-Or t c =
    let g = laws.expr-Or c.args.scope.now c.in-Or.a c.in-Or.b in
    first_of (search rules, grind (arith, common_steps))

pub returns-in_ok-check-in-Not : goal.returns-in_ok-check-in-Not
returns-in_ok-check-in-Not t c =
    let g = laws.expr-Not c.args.scope.now c.in-Not.a in
    first_of (search rules, grind (arith, common_steps))

pub returns-in_ok-check-in-If : goal.returns-in_ok-check-in-If
returns-in_ok-check-in-If t c =
    let g = laws.expr-If c.args.scope.now c.in-If.cond c.in-If.a c.in-If.b in
    first_of (search rules, grind (arith, common_steps))
