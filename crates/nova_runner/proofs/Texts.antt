-- A text says at most one workflow, or has at most one first fault.
use Rattle.std.proofs.Common.{◌≡◌, ◌≢◌, ◌≤◌, nat_le, ℕ, List, [], ◌∷◌, length, map, Result, Ok, Err, codes, refl, ap, sym, ◌∙◌, subst, inl, inr}
use Rattle.nova_workflow.specs.declared.flow.Task.{Task}
use Rattle.nova_workflow.specs.declared.flow.Flow.{Flow}
use Rattle.nova_flow.specs.declared.fault.FlowFault.{FlowFault}
use Rattle.nova_flow.specs.declared.fault.FlowFault.TheVariants as flow_fault
use Rattle.nova_flow.specs.Answers.{◌>>=◌}
use Rattle.nova_flow.specs.Rules.{at_most}
use Rattle.nova_flow.specs.Flows.{document_needed, flow_of_document, flow_of}
use Rattle.nova_flow.proofs.Binds.{bind_ok, require_ok}
use Rattle.nova_flow.proofs.WholeChannels.{within_limit}
use Rattle.nova_pig_parse.proofs.Faults.{settled as parsed}
use Rattle.nova_pig_pattern.proofs.Shaped.{admitted_have}
use Rattle.nova_admit.specs.Flows.{HasFirstFault, HavePatterns}
use Rattle.nova_admit.specs.Settled.{TasksAreSettled}
use Rattle.nova_admit.specs.declared.plans.Pattern.{Pattern}
use Rattle.nova_admit.specs.declared.fault.AdmitFault.{AdmitFault}
use Rattle.nova_admit.specs.declared.fault.AdmitFault.TheVariants as admit_fault
use Rattle.nova_admit.proofs.Settled.{settled}
use Rattle.nova_machine.specs.Workflow.{Workflow, TaskPlan}
use Rattle.nova_runner.specs.Texts.{HasFault, HasFlow, TextsAreSettled, task_plan}
use Rattle.nova_runner.specs.declared.text.TextFault.{TextFault}
use Rattle.nova_runner.specs.declared.text.TextFault.TheVariants as fault

tasks : TasksAreSettled
tasks = settled parsed admitted_have

ok_same : (f g : Flow) → (let r : Result Flow FlowFault = Ok f in r) ≡ Ok g → f ≡ g
ok_same f g e = cc

err_same : (d e : FlowFault) → (let r : Result Flow FlowFault = Err d in r) ≡ Err e → d ≡ e
err_same d e same = cc

never : (f : Flow) (e : FlowFault) → Ok f ≡ Err e → ⊥
never f e same = absurd cc

-- ---- the patterns of tasks

same_plans : (f : Flow) (ts : List Task) (qs rs : List Pattern) → HavePatterns f ts qs → HavePatterns f ts rs → map task_plan qs ≡ map task_plan rs
same_plans f [] [] [] a b = refl
same_plans f [] [] (r ∷ rs) a b = absurd b
same_plans f [] (q ∷ qs) rs a b = absurd a
same_plans f (t ∷ ts) [] rs a b = absurd a
same_plans f (t ∷ ts) (q ∷ qs) [] a b = absurd b
same_plans f (t ∷ ts) (q ∷ qs) (r ∷ rs) a b =
    let one = (tasks f t).one_pattern q r a.0 b.0 in
    let rest = same_plans f ts qs rs a.1 b.1 in
    λ i. (let p : TaskPlan = record { plan = one.1 i; pattern = one.0 i } in p) ∷ rest i

one_first : (f : Flow) (ts : List Task) (d e : AdmitFault) → d ≢ admit_fault.NoMemory → e ≢ admit_fault.NoMemory → HasFirstFault f ts d → HasFirstFault f ts e → d ≡ e
one_first f [] d e k l a b = absurd a
one_first f (t ∷ ts) d e k l (inl a) (inl b) = (tasks f t).one_fault d e k l a b
one_first f (t ∷ ts) d e k l (inl a) (inr (q, has, more)) = absurd ((tasks f t).never_both q d k has a)
one_first f (t ∷ ts) d e k l (inr (q, has, more)) (inl b) = absurd ((tasks f t).never_both q e l has b)
one_first f (t ∷ ts) d e k l (inr (q, has, more)) (inr (r, have, others)) = one_first f ts d e k l more others

never_first : (f : Flow) (ts : List Task) (qs : List Pattern) (e : AdmitFault) → e ≢ admit_fault.NoMemory → HavePatterns f ts qs → HasFirstFault f ts e → ⊥
never_first f [] qs e k a b = b
never_first f (t ∷ ts) [] e k a b = absurd a
never_first f (t ∷ ts) (q ∷ qs) e k a (inl b) = (tasks f t).never_both q e k a.0 b
never_first f (t ∷ ts) (q ∷ qs) e k a (inr (r, has, more)) = never_first f ts qs e k a.1 more

-- ---- texts

pub one_flow : (text : List ℕ) (v w : Workflow) → HasFlow text v → HasFlow text w → v ≡ w
one_flow text v w a b =
    let same : a.flow ≡ b.flow = ok_same a.flow b.flow (sym a.read ∙ b.read) in
    let plans = same_plans b.flow b.flow.tasks a.patterns b.patterns (subst (λ (f : Flow). HavePatterns f f.tasks a.patterns) same a.admitted) b.admitted in
    sym a.is ∙ (λ i. record { text = text; channels = (same i).channels; tasks = (same i).tasks; plans = plans i }) ∙ b.is

one_fault : (text : List ℕ) (d e : TextFault) → HasFault text d → HasFault text e → d ≡ e
one_fault text (fault.Flow d) (fault.Flow e) a b = ap (λ (x : FlowFault). fault.Flow x) (err_same d e (sym a.1 ∙ b.1))
one_fault text (fault.Flow d) (fault.Admit e) a b = absurd (never b.1 d (sym b.2 ∙ a.1))
one_fault text (fault.Admit d) (fault.Flow e) a b = absurd (never a.1 e (sym a.2 ∙ b.1))
one_fault text (fault.Admit d) (fault.Admit e) a b =
    let same : a.1 ≡ b.1 = ok_same a.1 b.1 (sym a.2 ∙ b.2) in
    ap (λ (x : AdmitFault). fault.Admit x) (one_first b.1 b.1.tasks d e a.0 b.0 (subst (λ (f : Flow). HasFirstFault f f.tasks d) same a.3) b.3)

pub never_both : (text : List ℕ) (w : Workflow) (e : TextFault) → HasFlow text w → HasFault text e → ⊥
never_both text w (fault.Flow e) a b = never a.flow e (sym a.read ∙ b.1)
never_both text w (fault.Admit e) a b =
    let same : a.flow ≡ b.1 = ok_same a.flow b.1 (sym a.read ∙ b.2) in
    never_first b.1 b.1.tasks a.patterns e b.0 (subst (λ (f : Flow). HavePatterns f f.tasks a.patterns) same a.admitted) b.3

pub texts_are_settled : TextsAreSettled
texts_are_settled text = record { one_flow = one_flow text; one_fault = one_fault text; never_both = never_both text }

pub text_kept : (text : List ℕ) (w : Workflow) → HasFlow text w → w.text ≡ text
text_kept text w has = ap (λ (v : Workflow). v.text) (sym has.is)

-- what is said by a workflow's own text is said by the text
pub of_text : (text : List ℕ) (w : Workflow) → HasFlow text w → HasFlow w.text w
of_text text w has = subst (λ t. HasFlow t w) (sym (text_kept text w has)) has

-- texts of workflows are short
pub short_text : (text : List ℕ) (f : Flow) → flow_of text ≡ Ok f → length text ≤ 1048576
unfolding flow_of
short_text text f e =
    let step = bind_ok (at_most (codes "text") 1048576 (length text)) (λ _. document_needed text >>= λ d. flow_of_document d) f e in
    within_limit (length text) 1048576 (require_ok (flow_fault.TooMany (codes "text")) (nat_le (length text) 1048576) step.0 step.1)
