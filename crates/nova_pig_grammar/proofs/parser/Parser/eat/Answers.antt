use Rattle.std.proofs.Common.{rules, sym, ap, map, ◌∙◌}
use Rattle.std.proofs.lemmas.List.{length-map}
use Rattle.nova_pig_grammar.proofs.Next as next
use Rattle.nova_pig_grammar.proofs.parser.Parser.eat.Goals as goal

pub returns-in_default-clause-token : goal.returns-in_default-clause-token
returns-in_default-clause-token c = next.eats_end c.args.self.now (rw (← c.self.view_is) (rw length-map (search rules))) c.args.mark

pub returns-in_default-clause-reading : goal.returns-in_default-clause-reading
returns-in_default-clause-reading c = next.decides_end c.args.self.now (rw (← c.self.view_is) (rw length-map (search rules))) c.args.mark

pub returns-then-is-clause-token : goal.returns-then-is-clause-token
returns-then-is-clause-token c = next.eats_true (sym c.self.view_is ∙ ap (map (λ q. q.token)) c.in-Some.ensures.cases.0) c.args.mark (search rules)

pub returns-then-is-clause-reading : goal.returns-then-is-clause-reading
returns-then-is-clause-reading c = next.decides_true (sym c.self.view_is ∙ ap (map (λ q. q.token)) c.in-Some.ensures.cases.0) c.args.mark (search rules)

pub returns-else-is-clause-token : goal.returns-else-is-clause-token
returns-else-is-clause-token c = next.eats_false (sym c.self.view_is ∙ ap (map (λ q. q.token)) c.in-Some.ensures.cases.0) c.args.mark (search rules)

pub returns-else-is-clause-reading : goal.returns-else-is-clause-reading
returns-else-is-clause-reading c = next.decides_false (sym c.self.view_is ∙ ap (map (λ q. q.token)) c.in-Some.ensures.cases.0) c.args.mark (search rules)
