-- The rule on a catalog is the machine's.
use Rattle.std.proofs.Common.{◌≡◌, ◌⊎◌, inl, inr, ℕ, zero, suc, ◌<◌, Bool, false, List, [], ◌∷◌, ◌++◌, length, map, Option, Some, None, replicate, get_or, refl, sym, ap, ◌∙◌, subst, arith, append-nil, if◌then◌else◌}
use Rattle.std.proofs.lemmas.List.{append_assoc}
use Rattle.std.specs.Option.{is_some}
use Rattle.nova_workflow.specs.declared.flow.Flow.{Flow}
use Rattle.nova_workflow.specs.declared.flow.Input.{Input}
use Rattle.nova_workflow.specs.declared.flow.Trigger.{Trigger}
use Rattle.nova_workflow.specs.declared.flow.Trigger.TheVariants.{OnData, Every, After}
use Rattle.nova_meta.specs.declared.captured.Captured.{Captured}
use Rattle.nova_meta.specs.Catalog.{Entered, no_run, nothing_shelved}
use Rattle.nova_machine.specs.Workflow.{no_task, task_in}
use Rattle.nova_machine.specs.State.{State, newest, nothing_done, nothing_kept}
use Rattle.nova_machine.specs.Due as machine
use Rattle.nova_machine.specs.Needed.{indices}
use Rattle.nova_machine.specs.Steps.{Run, after}
use Rattle.nova_machine.specs.Commands.{work_steps}
use Rattle.nova_machine.proofs.Ready.{due_is_tested}
use Rattle.nova_trigger.specs.Due.{StandFor, capture_in, captured_of, is_due, last_or, newest_in, runs_named, task_at}
use Rattle.nova_trigger.specs.Laws.{CapturesAreTheMachines, DueIsTheMachines, FirstDueIsTheMachines, StartsStand}

versions_same : (f g : Input → ℕ) → ((i : Input) → f i ≡ g i) → (inputs : List Input) → map f inputs ≡ map g inputs
versions_same f g same [] = refl
versions_same f g same (i ∷ is) = rw (same i, versions_same f g same is) refl

seen_same : (flow : Flow) (cat : Entered) (slots : List (Option Captured)) (s : State) → StandFor flow cat slots s → (trigger : Trigger) → runs_named cat trigger ≡ machine.runs_named s trigger
seen_same flow cat slots s stands OnData = refl
seen_same flow cat slots s stands (Every period) = refl
seen_same flow cat slots s stands (After task) = sym (stands.runs task)

task_same : (flow : Flow) (cat : Entered) (slots : List (Option Captured)) (s : State) (t : ℕ) → StandFor flow cat slots s → task_at flow t ≡ task_in s.flow t
task_same flow cat slots s t stands = ap (λ tasks. get_or tasks t no_task) (sym stands.tasks)

pub captures_are_the_machines : CapturesAreTheMachines
captures_are_the_machines flow cat slots s t stands =
    let task = task_same flow cat slots s t stands in
    let versions = versions_same (newest_in cat) (λ (i : Input). newest s i.channel) (λ i. sym (stands.versions i.channel)) (task_in s.flow t).inputs in
    let seen = seen_same flow cat slots s stands (task_in s.flow t).trigger in
    ap (λ n. capture_in (captured_of cat n)) task ∙ (λ k. record { versions = versions k; moment = sym stands.moment k; seen = seen k })

same_test : (flow : Flow) (cat : Entered) (slots : List (Option Captured)) (s : State) (t : ℕ) → StandFor flow cat slots s → is_due flow cat slots t ≡ machine.is_due s t
same_test flow cat slots s t stands =
    let task = task_same flow cat slots s t stands in
    let now = captures_are_the_machines flow cat slots s t stands in
    rw (stands.flights t, stands.last t, ← now, ← task) refl

pub due_is_the_machines : DueIsTheMachines
due_is_the_machines flow cat slots s t stands = rw (same_test flow cat slots s t stands) (due_is_tested s t)

-- ---- what `work` runs first

-- tasks that aren't due are passed over
passed : (s : State) (ran n : ℕ) (ts : List ℕ) → ((k : ℕ) → k < n → machine.is_due s k ≡ false) → work_steps s ran (indices n ++ ts) ≡ work_steps s ran ts
passed s ran zero ts none = refl
passed s ran (suc n) ts none =
    ap (work_steps s ran) (append_assoc (indices n) (n ∷ []) ts) ∙ passed s ran n (n ∷ ts) (λ k lt. none k (omega (arith, lt))) ∙ at_last
  where
    at_last : work_steps s ran (n ∷ ts) ≡ work_steps s ran ts
    at_last = ap (λ (b : Bool). if b then Run n ∷ work_steps (after s (Run n)) (suc ran) ts else work_steps s ran ts) (none n (omega arith))

-- a task with those before it and those behind it
parted : (n t : ℕ) → t < n → (more : List ℕ) × (indices n ≡ indices t ++ t ∷ more)
parted zero t lt = absurd (omega (arith, lt))
parted (suc n) t lt = elim (here_or_before n t lt) as (λ _. (more : List ℕ) × (indices (suc n) ≡ indices t ++ t ∷ more)) [
  | inl here ↦ ([], subst (λ k. indices k ++ k ∷ [] ≡ indices t ++ t ∷ []) here refl)
  | inr before ↦
      let p = parted n t before in
      (p.0 ++ n ∷ [], ap (λ ts. ts ++ n ∷ []) p.1 ∙ append_assoc (indices t) (t ∷ p.0) (n ∷ []))
]
  where
    here_or_before : (n t : ℕ) → t < suc n → (t ≡ n) ⊎ (t < n)
    here_or_before n t lt = grind (arith, lt)

pub first_due_is_the_machines : FirstDueIsTheMachines
first_due_is_the_machines flow cat slots s None stands none =
    let count : length s.flow.tasks ≡ length flow.tasks = ap length stands.tasks in
    ap (work_steps s 0) (sym (append-nil (indices (length s.flow.tasks))))
    ∙ passed s 0 (length s.flow.tasks) [] (λ k lt. sym (same_test flow cat slots s k stands) ∙ none k (omega (arith, lt, count)))
first_due_is_the_machines flow cat slots s (Some t) stands first =
    let count : length s.flow.tasks ≡ length flow.tasks = ap length stands.tasks in
    let low = first.0 in
    let p = parted (length s.flow.tasks) t (omega (arith, low, count)) in (
      work_steps (after s (Run t)) 1 p.0,
      ap (work_steps s 0) p.1
          ∙ passed s 0 t (t ∷ p.0) (λ k lt. sym (same_test flow cat slots s k stands) ∙ first.2 k lt)
          ∙ ap (λ (b : Bool). if b then Run t ∷ work_steps (after s (Run t)) 1 p.0 else work_steps s 0 p.0) (sym (same_test flow cat slots s t stands) ∙ first.1),
    )

-- ---- before the first step

same_each : {A B : Type 0} (d : B) (xs : List A) (k : ℕ) → get_or (map (λ (x : A). d) xs) k d ≡ d
same_each d [] k = refl
same_each d (x ∷ xs) zero = refl
same_each d (x ∷ xs) (suc k) = same_each d xs k

abbrev no_flight : Option Captured
no_flight = None

none_each : (n k : ℕ) → get_or (replicate n no_flight) k no_flight ≡ no_flight
none_each zero k = refl
none_each (suc n) zero = refl
none_each (suc n) (suc k) = none_each n k

pub starts_stand : StartsStand
starts_stand flow wiring w same = record {
  tasks = same;
  versions = λ c. ap (λ k. length k.versions) (same_each nothing_kept w.channels c) ∙ sym (ap (λ s. s.version) (same_each nothing_shelved wiring.writers c));
  runs = λ t. ap (λ d. length d.runs) (same_each nothing_done w.tasks t) ∙ sym (ap (λ p. p.runs) (same_each no_run wiring.tasks t));
  last = λ t. ap (λ d. machine.last_of d.runs) (same_each nothing_done w.tasks t) ∙ sym (ap (λ p. last_or p.last) (same_each no_run wiring.tasks t));
  flights = λ t. ap (λ d. is_some d.flight) (same_each nothing_done w.tasks t) ∙ sym (ap is_some (none_each (length flow.tasks) t));
  moment = refl;
}
