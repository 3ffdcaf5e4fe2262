use Rattle.std.proofs.Common.{rules, arith, map}
use Rattle.std.proofs.lemmas.Grind.{common_steps}
use Rattle.nova_pig_grammar.proofs.ExpressionWhole.{all_sound, all_value, all_rest, all_fault}
use Rattle.nova_pig_grammar.proofs.read.read_expr.Goals as goal

pub returns-in_err-found-clause-complete : goal.returns-in_err-found-clause-complete
returns-in_err-found-clause-complete c = λ x d.
    let e = all_fault (map (λ q. q.token) c.args.tokens.now) _ _ _ c.new-parser.ensures c.in_err-found.ensures x d in
    first_of (search rules, grind (arith, common_steps))

pub returns-then-not-is_done-clause-complete : goal.returns-then-not-is_done-clause-complete
returns-then-not-is_done-clause-complete c = λ x d.
    let e = all_rest (map (λ q. q.token) c.args.tokens.now) _ _ (rw c.new-parser.ensures at c.in_ok-found.ensures) x d in
    first_of (search rules, grind (arith, common_steps))

pub returns-clause-sound : goal.returns-clause-sound
returns-clause-sound c = all_sound (map (λ q. q.token) c.args.tokens.now) c.whole.new.self _ (rw c.new-parser.ensures at c.in_ok-found.ensures) (search rules)

pub returns-clause-complete : goal.returns-clause-complete
returns-clause-complete c = all_value (map (λ q. q.token) c.args.tokens.now) c.whole.new.self _ (rw c.new-parser.ensures at c.in_ok-found.ensures)
