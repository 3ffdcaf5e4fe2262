use Rattle.std.proofs.Common.{rules, arith, drop, sym, ap, ◌∙◌}
use Rattle.std.proofs.lemmas.Grind.{common_steps}
use Rattle.nova_pig_scan.specs.declared.piece.Piece.TheVariants.{End, Skip, Take, TooLarge, Bad}
use Rattle.nova_pig_scan.specs.Tokens.{piece}
use Rattle.nova_pig_scan.proofs.Texts.{quote_utf8}
use Rattle.nova_pig_scan.proofs.Turns.{turn, turn_skip, turn_take, within_at}
use Rattle.nova_pig_scan.proofs.scan.scan_text.Goals as goal

pub returns-in-End : goal.returns-in-End
returns-in-End c =
    let e = turn c.loop-out.out c.loop-out.at c.args.text.now End (sym c.in-End.is ∙ c.in_ok-piece_at.ensures ∙ ap piece (c.text_from.ensures ∙ ap (drop c.loop-out.at) c.as_bytes-bytes.ensures.value)) in
    first_of (search rules, grind (arith, common_steps))

pub overflow_add-at : goal.overflow_add-at
overflow_add-at c =
    let h = within_at c.loop-out.at c.args.text.now (Skip c.in-Skip.n) c.loop-out.invariant.within (sym c.in-Skip.is ∙ c.in_ok-piece_at.ensures ∙ ap piece (c.text_from.ensures ∙ ap (drop c.loop-out.at) c.as_bytes-bytes.ensures.value)) in
    first_of (search rules, grind (arith, common_steps))

pub loop-out-preserved-in-Skip : goal.loop-out-preserved-in-Skip
loop-out-preserved-in-Skip c =
    let is = sym c.in-Skip.is ∙ c.in_ok-piece_at.ensures ∙ ap piece (c.text_from.ensures ∙ ap (drop c.loop-out.at) c.as_bytes-bytes.ensures.value) in
    let h = within_at c.loop-out.at c.args.text.now (Skip c.in-Skip.n) c.loop-out.invariant.within is in
    let e = turn_skip c.loop-out.out c.loop-out.at c.in-Skip.n c.args.text.now is in
    record { read = c.loop-out.invariant.read ∙ e; within = omega (arith, h, c.loop-out.invariant.within) }

pub overflow_add-at-in-Take : goal.overflow_add-at-in-Take
overflow_add-at-in-Take c =
    let h = within_at c.loop-out.at c.args.text.now (Take c.in-Take.token c.in-Take.n) c.loop-out.invariant.within (sym c.in-Take.is ∙ c.in_ok-piece_at.ensures ∙ ap piece (c.text_from.ensures ∙ ap (drop c.loop-out.at) c.as_bytes-bytes.ensures.value)) in
    first_of (search rules, grind (arith, common_steps))

pub overflow_add-at-in-Take-2 : goal.overflow_add-at-in-Take-2
overflow_add-at-in-Take-2 c =
    let h = within_at c.loop-out.at c.args.text.now (Take c.in-Take.token c.in-Take.n) c.loop-out.invariant.within (sym c.in-Take.is ∙ c.in_ok-piece_at.ensures ∙ ap piece (c.text_from.ensures ∙ ap (drop c.loop-out.at) c.as_bytes-bytes.ensures.value)) in
    first_of (search rules, grind (arith, common_steps))

pub loop-out-smaller : goal.loop-out-smaller
loop-out-smaller c =
    let h = within_at c.loop-out.at c.args.text.now (Take c.in-Take.token c.in-Take.n) c.loop-out.invariant.within (sym c.in-Take.is ∙ c.in_ok-piece_at.ensures ∙ ap piece (c.text_from.ensures ∙ ap (drop c.loop-out.at) c.as_bytes-bytes.ensures.value)) in
    first_of (search rules, grind (arith, common_steps))

pub loop-out-preserved : goal.loop-out-preserved
loop-out-preserved c =
    let is = sym c.in-Take.is ∙ c.in_ok-piece_at.ensures ∙ ap piece (c.text_from.ensures ∙ ap (drop c.loop-out.at) c.as_bytes-bytes.ensures.value) in
    let h = within_at c.loop-out.at c.args.text.now (Take c.in-Take.token c.in-Take.n) c.loop-out.invariant.within is in
    let e = turn_take c.loop-out.out c.loop-out.at c.in-Take.n c.args.text.now c.in-Take.token is in
    record { read = c.loop-out.invariant.read ∙ e ∙ first_of (search rules, cc, grind (arith, common_steps)); within = omega (arith, h, c.loop-out.invariant.within) }

pub returns-in-TooLarge : goal.returns-in-TooLarge
returns-in-TooLarge c =
    let e = turn c.loop-out.out c.loop-out.at c.args.text.now (TooLarge c.in-TooLarge.field-0) (sym c.in-TooLarge.is ∙ c.in_ok-piece_at.ensures ∙ ap piece (c.text_from.ensures ∙ ap (drop c.loop-out.at) c.as_bytes-bytes.ensures.value)) in
    first_of (search rules, grind (arith, common_steps))

pub returns-in-Bad : goal.returns-in-Bad
returns-in-Bad c =
    let e = turn c.loop-out.out c.loop-out.at c.args.text.now Bad (sym c.in-Bad.is ∙ c.in_ok-piece_at.ensures ∙ ap piece (c.text_from.ensures ∙ ap (drop c.loop-out.at) c.as_bytes-bytes.ensures.value)) in
    first_of (search rules, grind (arith, common_steps))

pub loop-out-smaller-in-Skip : goal.loop-out-smaller-in-Skip
loop-out-smaller-in-Skip c =
    let h = within_at c.loop-out.at c.args.text.now (Skip c.in-Skip.n) c.loop-out.invariant.within (sym c.in-Skip.is ∙ c.in_ok-piece_at.ensures ∙ ap piece (c.text_from.ensures ∙ ap (drop c.loop-out.at) c.as_bytes-bytes.ensures.value)) in
    first_of (search rules, grind (arith, common_steps))

pub piece_at-requires-clause-utf8 : goal.piece_at-requires-clause-utf8
piece_at-requires-clause-utf8 c =
    rw c.text_from.ensures (quote_utf8 c.as_bytes-bytes.result.now c.loop-out.at c.as_bytes-bytes.ensures.utf8)
