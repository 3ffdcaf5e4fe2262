use Rattle.std.proofs.Common.{ℕ, List, [], ◌∷◌, ◌++◌, arith, subst, sym, ap, ◌∙◌}
use Rattle.nova_pig_algebra.specs.Meaning.{Row}
use Rattle.nova_pig_rows.specs.Keeps.{KeepsLater}
use Rattle.nova_pig_rows.proofs.Steps.{keeps_twice, led_skip, led_more}
use Rattle.nova_pig_rows.proofs.nodes.add_node.Goals as goal

pub returns-clause-led : goal.returns-clause-led
returns-clause-led c = λ closed led.
    let e = c.last_of.ensures in
    let last = c.args.work.now.last.items in
    let done = c.args.work.now.relations.items in
    let made = c.rows_of_node.new.work.relations.items in
    let kept = c.release.new.self.relations.items in
    let keeps = subst (λ (ls : List ℕ). KeepsLater c.args.at ls made kept) c.in_ok-rows.ensures.last c.release.ensures.keeps in
    led_more c.args.tables.now c.args.nodes.now last done c.args.at c.index-nodes-at.result (omega arith) c.index-nodes-at.is led closed (omega (arith, e))
    kept c.in_ok-rows.rows c.push-2.new.self.items (keeps_twice c.args.at last done made kept c.in_ok-rows.ensures.keeps keeps) c.in_ok-rows.ensures.rows c.in_ok-push-2.ensures.items

pub returns-then-last_of-eq0-clause-led : goal.returns-then-last_of-eq0-clause-led
returns-then-last_of-eq0-clause-led c = λ closed led.
    let done = c.args.work.now.relations.items in
    led_skip c.args.tables.now c.args.nodes.now c.args.work.now.last.items done c.args.at c.index-nodes-at.result (omega arith) c.index-nodes-at.is led
    c.push.new.self.items (sym c.last_of.ensures ∙ c.if-last_of-eq0.true) (c.in_ok-push.ensures.items ∙ ap (λ (r : List Row). done ++ r ∷ []) c.new.ensures)
