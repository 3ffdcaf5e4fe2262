-- The plans of an admitted workflow and what they are wired to, one task after the other.
use Rattle.std.proofs.Common.{◌≡◌, ℕ, zero, suc, ◌≤◌, List, [], ◌∷◌, ◌++◌, length, map, take, drop, Option, Some, ap, sym, ◌∙◌, subst, arith}
use Rattle.std.specs.Prelude.{slice_get}
use Rattle.std.proofs.lemmas.List.{append_assoc}
use Rattle.nova_pig_algebra.specs.Plan.{IsPlan}
use Rattle.nova_admit.specs.TaskPlans.{plan_of}
use Rattle.nova_admit.specs.declared.plans.Pattern.{Pattern}
use Rattle.nova_workflow.specs.declared.flow.Task.{Task}
use Rattle.nova_meta.specs.declared.wiring.Wire.{Wire}
use Rattle.nova_meta.specs.declared.wiring.Wiring.{Wiring}
use Rattle.nova_workflow.specs.declared.flow.Channel.{Channel}
use Rattle.nova_workflow.specs.declared.flow.Flow.{Flow}
use Rattle.nova_machine.specs.Workflow.{Workflow}
use Rattle.nova_runner.specs.Texts.{ArePlans, task_plan, workflow_of}
use Rattle.nova_runner.specs.Workflow.{wire_of, wires_of, wiring_of}

some_same : {X : Type 0} (x y : X) → Some x ≡ Some y → x ≡ y
some_same x y e = cc

-- one plan more
pub next_plan : (qs : List Pattern) (i : ℕ) (q : Pattern) → ArePlans (take i qs) → slice_get qs i ≡ Some q → IsPlan (plan_of q) → ArePlans (take (suc i) qs)
next_plan [] i q are got is = absurd (cc)
next_plan (r ∷ qs) zero q are got is = (subst (λ (z : Pattern). IsPlan (plan_of z)) (sym (some_same r q got)) is, tt)
next_plan (r ∷ qs) (suc i) q are got is = (are.0, next_plan qs i q are.1 got is)

pub all_plans : (qs : List Pattern) (n : ℕ) → length qs ≤ n → ArePlans (take n qs) → ArePlans qs
all_plans [] n long are = tt
all_plans (q ∷ qs) zero long are = absurd (omega (arith, long))
all_plans (q ∷ qs) (suc n) long are = (are.0, all_plans qs n (omega (arith, long)) are.1)

-- what is left begins with the element at its place
pub drop_at : {X : Type 0} (xs : List X) (i : ℕ) (x : X) → slice_get xs i ≡ Some x → drop i xs ≡ x ∷ drop (suc i) xs
drop_at [] i x got = absurd (cc)
drop_at (y ∷ xs) zero x got = ap (λ z. z ∷ xs) (some_same y x got)
drop_at (y ∷ xs) (suc i) x got = drop_at xs i x got

-- one wire more
pub next_wire : (ts : List Task) (qs : List Pattern) (i : ℕ) (t : Task) (q : Pattern) (wires all : List Wire) → slice_get ts i ≡ Some t → slice_get qs i ≡ Some q →
    all ≡ wires ++ wires_of (drop i ts) (map task_plan (drop i qs)) →
    all ≡ (wires ++ wire_of t (task_plan q) ∷ []) ++ wires_of (drop (suc i) ts) (map task_plan (drop (suc i) qs))
next_wire ts qs i t q wires all task pattern is =
    is
    ∙ (λ k. wires ++ wires_of (drop_at ts i t task k) (map task_plan (drop_at qs i q pattern k)))
    ∙ sym (append_assoc wires (wire_of t (task_plan q) ∷ []) (wires_of (drop (suc i) ts) (map task_plan (drop (suc i) qs))))

-- the wiring of a workflow by its parts
pub wired_with : (text : List ℕ) (f : Flow) (qs : List Pattern) (w : Workflow) (writers : List (Option ℕ)) (wires : List Wire) → workflow_of text f qs ≡ w → writers ≡ map (λ (c : Channel). c.writer) f.channels → wires ≡ wires_of f.tasks (map task_plan qs) →
    (let x : Wiring = record { writers = writers; tasks = wires } in x) ≡ wiring_of w
unfolding wiring_of
wired_with text f qs w writers wires is a b = (λ i. record { writers = a i; tasks = b i }) ∙ ap wiring_of is
