use Rattle.std.proofs.Common.{rules, sym, ap, map, ◌∙◌}
use Rattle.std.proofs.lemmas.List.{length-map}
use Rattle.nova_pig_grammar.proofs.Next as next
use Rattle.nova_pig_grammar.proofs.parser.Parser.comparison.Goals as goal

pub returns-in_default : goal.returns-in_default
returns-in_default c = next.comparison_end (rw (← c.self.view_is) (rw length-map (search rules)))

pub returns-in-Some-comparison : goal.returns-in-Some-comparison
returns-in-Some-comparison c = next.comparison_some (sym c.self.view_is ∙ ap (map (λ q. q.token)) c.in-Some.ensures.cases.0) (search rules)

pub returns-in-None : goal.returns-in-None
returns-in-None c = next.comparison_other (sym c.self.view_is ∙ ap (map (λ q. q.token)) c.in-Some.ensures.cases.0) (search rules)
