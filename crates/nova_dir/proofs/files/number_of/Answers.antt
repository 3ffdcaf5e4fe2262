use Rattle.std.proofs.Common.{refl, sym, subst}
use Rattle.std.proofs.lemmas.Fmt.{parse-decimal}
use Rattle.nova_dir.specs.Names.{IsPlain}
use Rattle.nova_dir.proofs.Names.{read_back, digits_plain}
use Rattle.nova_dir.proofs.files.number_of.Goals as goal

pub returns-then-not-is_plain-clause-all : goal.returns-then-not-is_plain-clause-all
returns-then-not-is_plain-clause-all c = λ n fits is.
    let plain = c.if-not-is_plain.ensures.1 (subst IsPlain (sym c.as_bytes.ensures.value) (digits_plain c.args.name.now n fits is)) in
    absurd (cc plain)

pub returns-in-Ok-clause-some : goal.returns-in-Ok-clause-some
returns-in-Ok-clause-some c = read_back c.args.name.now c.in-Ok.number c.parse.result c.in-Ok.is c.parse.ensures.value.0 (subst IsPlain c.as_bytes.ensures.value (c.if-not-is_plain.ensures.0 refl))

pub returns-in-Ok-clause-all : goal.returns-in-Ok-clause-all
returns-in-Ok-clause-all c = λ n fits is.
    let parsed = parse-decimal 64 n c.args.name.now c.parse.result fits fits (sym is) c.parse.ensures.value.0 in cc (parsed, c.in-Ok.is)

pub returns-in-Err-clause-all : goal.returns-in-Err-clause-all
returns-in-Err-clause-all c = λ n fits is.
    let parsed = parse-decimal 64 n c.args.name.now c.parse.result fits fits (sym is) c.parse.ensures.value.0 in absurd (cc (parsed, c.in-Err.is))
