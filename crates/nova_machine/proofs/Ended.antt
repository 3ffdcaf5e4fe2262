-- A state without its executions in flight is reached by drops.
use Rattle.std.proofs.Common.{◌≡◌, ℕ, suc, ◌+◌, ◌<◌, ◌≤◌, ◌==◌, List, [], ◌∷◌, ◌++◌, length, map, Option, Some, None, is_some, refl, ap, sym, ◌∙◌, subst, arith, append_assoc}
use Rattle.std.specs.Prelude.{slice_index_or, slice_set, nat_le}
use Rattle.std.proofs.Math.ListN.{length-set}
use Rattle.nova_workflow.specs.declared.flow.Task.{Task}
use Rattle.nova_machine.specs.Workflow.{is_input}
use Rattle.nova_machine.specs.State.{State, Capture, Done, start, landed, nothing_done, newest, done_at}
use Rattle.nova_machine.specs.Due.{capture_of}
use Rattle.nova_machine.specs.Steps.{Step, Load, Tick, Run, Begin, Finish, Drop, Worked, Compact, Chain, Collect, Show, Blocks, Refused, after, after_all, set_done, add_version, loaded_version, add_run, add_span, with_run, landing, may_begin, may_chain}
use Rattle.nova_machine.specs.Reachable.{AllMade, IsReachable}
use Rattle.nova_machine.specs.ReachableLaws.{EndedIsReachable}
use Rattle.nova_machine.proofs.Turns.{after_all-append, on_either, on_landing}

-- ---- no step changes the number of tasks

abbrev Counts : ℕ → State → Type 0
Counts n s = length s.tasks ≡ n

count_after : (s : State) (x : Step) → length (after s x).tasks ≡ length s.tasks
count_after s (Load c entries) = on_either (Counts (length s.tasks)) (is_input s.flow c) (add_version s c (loaded_version s c entries)) s (λ _. refl) (λ _. refl)
count_after s (Tick m) = on_either (Counts (length s.tasks)) (nat_le s.moment m) (record s { moment = m }) s (λ _. refl) (λ _. refl)
count_after s (Run t) = on_either (Counts (length s.tasks)) (may_begin s t) (add_run s t (capture_of s t)) s (λ _. length-set s.tasks t (with_run (done_at s t) (capture_of s t))) (λ _. refl)
count_after s (Begin t) = on_either (Counts (length s.tasks)) (may_begin s t) (set_done s t (record (done_at s t) { flight = Some (capture_of s t) })) s (λ _. length-set s.tasks t (record (done_at s t) { flight = Some (capture_of s t) })) (λ _. refl)
count_after s (Finish t) = on_landing (Counts (length s.tasks)) s t (landing s t) refl refl (λ run e. length-set s.tasks t (with_run (done_at s t) run))
count_after s (Drop t) = length-set s.tasks t (landed (done_at s t))
count_after s (Worked k) = refl
count_after s (Compact c) = on_either (Counts (length s.tasks)) (newest s c == 0) s (add_span s c 0 (newest s c)) (λ _. refl) (λ _. refl)
count_after s (Chain c i j) = on_either (Counts (length s.tasks)) (may_chain s c i j) (add_span s c i j) s (λ _. refl) (λ _. refl)
count_after s Collect = refl
count_after s (Show c) = refl
count_after s (Blocks c) = refl
count_after s (Refused refusal) = refl

count_all : (s : State) (xs : List Step) → length (after_all s xs).tasks ≡ length s.tasks
count_all s [] = refl
count_all s (x ∷ xs) = count_all (after s x) xs ∙ count_after s x

count_start : (ts : List Task) → length (map (λ (t : Task). nothing_done) ts) ≡ length ts
count_start [] = refl
count_start (t ∷ ts) = ap suc (count_start ts)

-- a reachable state has what is kept of each task
pub task_count : (s : State) → IsReachable s → length s.tasks ≡ length s.flow.tasks
task_count s at = ap (λ (t : State). length t.tasks) at.is ∙ count_all (start s.flow) at.steps ∙ count_start s.flow.tasks

-- ---- drops

abbrev drop_if : Option Capture → ℕ → List Step → List Step
drop_if None t xs = xs
drop_if (Some run) t xs = Drop t ∷ xs

-- of the tasks in flight, where the first of these is the t-th one
abbrev drops_from : ℕ → List Done → List Step
drops_from t [] = []
drops_from t (d ∷ ds) = drop_if d.flight t (drops_from (suc t) ds)

abbrev with_tasks : State → List Done → State
with_tasks s ds = record s { tasks = ds }

at_front : (front ds : List Done) (d : Done) → slice_index_or (front ++ d ∷ ds) (length front) nothing_done ≡ d
at_front [] ds d = refl
at_front (x ∷ front) ds d = at_front front ds d

set_front : (front ds : List Done) (d y : Done) → slice_set (front ++ d ∷ ds) (length front) y ≡ front ++ y ∷ ds
set_front [] ds d y = refl
set_front (x ∷ front) ds d y = ap (λ zs. x ∷ zs) (set_front front ds d y)

one_longer : (front : List Done) (d : Done) → length (front ++ d ∷ []) ≡ suc (length front)
one_longer [] d = refl
one_longer (x ∷ front) d = ap suc (one_longer front d)

pushed : (front ds : List Done) (d : Done) → (front ++ d ∷ []) ++ ds ≡ front ++ d ∷ ds
pushed front ds d = append_assoc front (d ∷ []) ds

-- these steps are made and lead from the tasks xs to the tasks ys
abbrev Lead : State → List Step → List Done → List Done → Type 0
Lead s steps xs ys = (after_all (with_tasks s xs) steps ≡ with_tasks s ys) × AllMade (with_tasks s xs) steps

one_drop : (s : State) (front ds ys : List Done) (d : Done) (steps : List Step) (o : Option Capture) → d.flight ≡ o → length front < length s.flow.tasks
    → Lead s steps (front ++ landed d ∷ ds) ys → Lead s (drop_if o (length front) steps) (front ++ d ∷ ds) ys
one_drop s front ds ys d steps None e below rest =
    let same : landed d ≡ d = λ z. record { runs = d.runs; flight = sym e z } in
    subst (λ (x : Done). Lead s steps (front ++ x ∷ ds) ys) same rest
one_drop s front ds ys d steps (Some run) e below rest =
    let here = at_front front ds d in
    let dropped : after (with_tasks s (front ++ d ∷ ds)) (Drop (length front)) ≡ with_tasks s (front ++ landed d ∷ ds) =
    ap (λ (x : Done). with_tasks s (slice_set (front ++ d ∷ ds) (length front) (landed x))) here ∙ ap (with_tasks s) (set_front front ds d (landed d)) in (
      ap (λ (t : State). after_all t steps) dropped ∙ rest.0,
      ((below, ap (λ (x : Done). is_some x.flight) here ∙ ap is_some e), subst (λ (t : State). AllMade t steps) (sym dropped) rest.1),
    )

all_drops : (s : State) (front ds : List Done) → length front + length ds ≤ length s.flow.tasks → Lead s (drops_from (length front) ds) (front ++ ds) (front ++ map landed ds)
all_drops s front [] low = (refl, tt)
all_drops s front (d ∷ ds) low =
    let x = landed d in
    let long = one_longer front x in
    let rest = all_drops s (front ++ x ∷ []) ds (omega (arith, long)) in
    let moved : Lead s (drops_from (suc (length front)) ds) (front ++ x ∷ ds) (front ++ x ∷ map landed ds) =
    subst (λ n. Lead s (drops_from n ds) (front ++ x ∷ ds) (front ++ x ∷ map landed ds)) long
    (subst (λ zs. Lead s (drops_from (length (front ++ x ∷ [])) ds) (front ++ x ∷ ds) zs) (pushed front (map landed ds) x)
    (subst (λ zs. Lead s (drops_from (length (front ++ x ∷ [])) ds) zs ((front ++ x ∷ []) ++ map landed ds)) (pushed front ds x) rest)) in
    one_drop s front ds (front ++ x ∷ map landed ds) d (drops_from (suc (length front)) ds) d.flight refl (omega arith) moved

pub made_both : (s : State) (xs ys : List Step) → AllMade s xs → AllMade (after_all s xs) ys → AllMade s (xs ++ ys)
made_both s [] ys one two = two
made_both s (x ∷ xs) ys one two = (one.0, made_both (after s x) xs ys one.1 two)

pub ended_reachable : EndedIsReachable
ended_reachable s at =
    let drops = drops_from 0 s.tasks in
    let count = task_count s at in
    let all = all_drops s [] s.tasks (omega (arith, count)) in
    record {
      steps = at.steps ++ drops;
      made = made_both (start s.flow) at.steps drops at.made (subst (λ (t : State). AllMade t drops) at.is all.1);
      is = sym all.0 ∙ ap (λ (t : State). after_all t drops) at.is ∙ sym (after_all-append (start s.flow) at.steps drops);
    }
