use Rattle.std.proofs.Common.{sym, ap, ◌∙◌}
use Rattle.std.specs.FinMap.{empty}
use Rattle.nova_value.specs.Rows.{key_at}
use Rattle.nova_value.specs.declared.schema.Entry.{Entry}
use Rattle.nova_delta.specs.Merge.{DeltaValue}
use Rattle.nova_state.specs.Plan.{rule_of}
use Rattle.nova_state.specs.Advance.{answer_all, answered}
use Rattle.nova_state.proofs.Whole.{answer_all-push}
use Rattle.nova_state.proofs.change.answer.Goals as goal

pub loop-by-init : goal.loop-by-init
loop-by-init c =
    let s = c.args.plan.now.output in
    let p = rule_of c.args.plan.now in
    let gs = c.args.state.now.groups in
    record { rest = ap (λ (d : DeltaValue). answer_all s p (key_at c.args.places.now) gs d c.args.touched.items) (c.empty-delta.ensures ∙ (λ i. record { schema = (c.in_ok-copy.ensures ∙ c.output.ensures) i; entries = empty })) }

pub loop-by-preserved : goal.loop-by-preserved
loop-by-preserved c =
    let s = c.args.plan.now.output in
    let p = rule_of c.args.plan.now in
    let k = key_at c.args.places.now in
    let gs = c.args.state.now.groups in
    record {
      rest =
          ap (λ (d : DeltaValue). answer_all s p k gs d c.pop.new.self.items) (c.in_ok-set_answer.ensures ∙ ap (λ (e : Entry). answered c.loop-by.delta e) c.in_ok-entry.ensures)
          ∙ sym (answer_all-push s p k gs c.loop-by.delta c.pop.new.self.items c.in-Some.by)
          ∙ ap (answer_all s p k gs c.loop-by.delta) (sym c.in-Some.ensures.items)
          ∙ c.loop-by.invariant.rest;
    }
