use Rattle.std.proofs.Common.{rules, sym, ap, map, ◌∙◌}
use Rattle.std.proofs.lemmas.List.{length-map}
use Rattle.nova_pig_grammar.proofs.Next as next
use Rattle.nova_pig_grammar.proofs.parser.Parser.operator.Goals as goal

pub returns-in_default : goal.returns-in_default
returns-in_default c = next.operator_end (rw (← c.self.view_is) (rw length-map (search rules))) c.args.level

pub returns-in-Some-operator : goal.returns-in-Some-operator
returns-in-Some-operator c = next.operator_some (sym c.self.view_is ∙ ap (map (λ q. q.token)) c.in-Some.ensures.cases.0) c.args.level (search rules)

pub returns-in-None : goal.returns-in-None
returns-in-None c = next.operator_other (sym c.self.view_is ∙ ap (map (λ q. q.token)) c.in-Some.ensures.cases.0) c.args.level (search rules)
