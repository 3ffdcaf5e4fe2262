use Rattle.std.proofs.Common.{List, map, arith, ap, ◌∙◌}
use Rattle.std.specs.FinMap as fin
use Rattle.nova_value.specs.Rows.{key_at}
use Rattle.nova_delta.specs.Merge.{DeltaValue, merged}
use Rattle.nova_pig_tree.specs.declared.expression.CallKind.{CallKind}
use Rattle.nova_pig_algebra.specs.Meaning.{Row, Call}
use Rattle.nova_pig_rows.specs.Outcomes.{called}
use Rattle.nova_groups.specs.State.{StateValue, moved_all, touches}
use Rattle.nova_state.specs.Rule.{share_of, kept, kepts}
use Rattle.nova_state.specs.Plan.{rule_of, out_key}
use Rattle.nova_state.specs.Advance.{state_of, answer_of}
use Rattle.nova_state.proofs.Whole.{answer_schema, state_changes, touched_changes}
use Rattle.nova_state.proofs.Answered.{answer_changes}
use Rattle.nova_state.proofs.WholeStates.{state_is, is_state}
use Rattle.nova_state.proofs.change.advance.Goals as goal

pub returns-clause-moved : goal.returns-clause-moved
returns-clause-moved c =
    let p = rule_of c.args.plan.now in
    let es = fin.entries c.args.delta.now.entries in
    let kinds = c.deref-3.ensures.value ∙ c.in_ok-kinds.ensures ∙ ap (λ (cs : List Call). map (λ d. d.kind) (kept cs)) (ap (map called) c.deref.ensures.value ∙ c.in_ok-calls.ensures) in
    c.in_ok-state.ensures.state ∙ ap (λ (ks : List CallKind). moved_all (share_of p) ks c.args.state es) kinds

pub returns-clause-state : goal.returns-clause-state
returns-clause-state c = λ m is.
    let p = rule_of c.args.plan.now in
    let es = fin.entries c.args.delta.now.entries in
    let was = state_is c.args.plan.now c.args.state m is in
    let kinds = c.deref-3.ensures.value ∙ c.in_ok-kinds.ensures ∙ ap (λ (cs : List Call). map (λ d. d.kind) (kept cs)) (ap (map called) c.deref.ensures.value ∙ c.in_ok-calls.ensures) in
    is_state c.args.plan.now c.in_ok-state.state (merged m c.args.delta.now.entries)
    (c.in_ok-state.ensures.state
    ∙ ap (λ (ks : List CallKind). moved_all (share_of p) ks c.args.state es) kinds
    ∙ ap (λ (st : StateValue). moved_all (share_of p) (kepts p) st es) was
    ∙ state_changes p m c.args.delta.now.entries (omega (arith, c.known.ensures.shares, c.known.ensures.entries, ap (λ (st : StateValue). fin.len st.shares) was)))

pub returns-clause-delta : goal.returns-clause-delta
unfolding out_key
returns-clause-delta c = λ m is table schema.
    let p = rule_of c.args.plan.now in
    let s = c.args.plan.now.output in
    let d = c.args.delta.now.entries in
    let es = fin.entries d in
    let was = state_is c.args.plan.now c.args.state m.rows is in
    let kinds = c.deref-3.ensures.value ∙ c.in_ok-kinds.ensures ∙ ap (λ (cs : List Call). map (λ d. d.kind) (kept cs)) (ap (map called) c.deref.ensures.value ∙ c.in_ok-calls.ensures) in
    let moves =
    c.in_ok-state.ensures.state
    ∙ ap (λ (ks : List CallKind). moved_all (share_of p) ks c.args.state es) kinds
    ∙ ap (λ (st : StateValue). moved_all (share_of p) (kepts p) st es) was
    ∙ state_changes p m.rows d (omega (arith, c.known.ensures.shares, c.known.ensures.entries, ap (λ (st : StateValue). fin.len st.shares) was)) in
    let bys =
    c.in_ok-state.ensures.touched
    ∙ ap (λ (ks : List CallKind). touches (share_of p) ks c.args.state es) kinds
    ∙ ap (λ (st : StateValue). touches (share_of p) (kepts p) st es) was
    ∙ touched_changes p m.rows d in
    c.in_ok-answer.ensures
    ∙ ap (λ (key_of : Row → Row). answer_of s p key_of c.in_ok-state.state.groups c.in_ok-state.touched.items) (ap key_at (c.deref-5.ensures.value ∙ c.in_ok-places.ensures))
    ∙ ap (λ (st : StateValue). answer_of s p (out_key c.args.plan.now) st.groups c.in_ok-state.touched.items) moves
    ∙ ap (answer_of s p (out_key c.args.plan.now) (state_of c.args.plan.now (merged m.rows d)).groups) bys
    ∙ answer_changes c.rows_fit_their_kinds.ensures.nodes c.args.plan.now c.known.ensures.plan c.known.ensures.shape c.known.ensures.output m c.args.delta.now table schema c.known.ensures.delta

pub returns-clause-schema : goal.returns-clause-schema
returns-clause-schema c =
    ap (λ (d : DeltaValue). d.schema) c.in_ok-answer.ensures
    ∙ answer_schema c.args.plan.now.output (rule_of c.args.plan.now) (key_at c.deref-5.result.now) c.in_ok-state.state.groups c.in_ok-state.touched.items
