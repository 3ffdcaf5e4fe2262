-- Each step keeps what each reachable state has.
use Rattle.std.proofs.Common.{◌≡◌, ℕ, zero, suc, ◌<◌, ◌≤◌, ◌==◌, Bool, true, false, ◌&&◌, List, [], ◌∷◌, ◌++◌, length, map, Option, Some, None, is_some, refl, ap, sym, subst, arith, if◌then◌else◌}
use Rattle.std.specs.Prelude.{slice_index_or, nat_le, nat_lt}
use Rattle.std.proofs.lemmas.Bool.Decides.{nat_tests}
use Rattle.std.proofs.lemmas.List.{get_or-map}
use Rattle.nova_path.specs.Lists.{IsOneOf}
use Rattle.nova_machine.specs.Workflow.{Workflow, task_in, input_in, is_based, is_input, is_new, no_input}
use Rattle.nova_workflow.specs.declared.flow.Input.{Input}
use Rattle.nova_path.specs.Shelf.{Span, IsPath, HasPath}
use Rattle.nova_machine.specs.State.{State, Kept, Done, Capture, start, nothing_kept, nothing_done, kept_at, done_at, newest}
use Rattle.nova_machine.specs.Due.{capture_of, cursor, last_of, seen_at}
use Rattle.nova_machine.specs.Writing.{made_version}
use Rattle.nova_machine.specs.Needed.{flown, path_of, weight_of}
use Rattle.nova_machine.specs.Steps.{Step, Load, Tick, Begin, Drop, Finish, Run, Worked, Compact, Chain, Collect, Show, Blocks, Refused, after, set_kept, set_done, with_hop, with_version, add_version, loaded_version, with_run, add_run, landing, may_begin, may_chain}
use Rattle.nova_machine.specs.Sound.{IsWired, IsFine, IsRouted, IsSound}
use Rattle.nova_path.proofs.Paths.{path_is_chosen, other_number}
use Rattle.nova_machine.proofs.Growth.{at_set, Grows, grows_itself, routed_on, grows_interval, grows_version, fine_interval, fine_version}
use Rattle.nova_machine.proofs.Collecting.{sound_collect}

-- at the start
pub same_everywhere : {X Y : Type 0} (xs : List X) (n : ℕ) (d : Y) → slice_index_or (map (λ _. d) xs) n d ≡ d
same_everywhere [] n d = refl
same_everywhere (x ∷ xs) zero d = refl
same_everywhere (x ∷ xs) (suc n) d = same_everywhere xs n d

fine_nothing : (based : Bool) → IsFine based nothing_kept
fine_nothing based = record {
  rises = λ x h. absurd h;
  low = λ x h. absurd h;
  bases = λ b x h. absurd h;
  whole = ([], refl);
}

routed_nothing : (k : Kept) (d : Done) (new : Bool) (at : ℕ) → k ≡ nothing_kept → d ≡ nothing_done → IsRouted k new (seen_at (last_of d.runs) at) (flown d.flight at)
routed_nothing k d new at e f = subst (λ (l : Kept). IsRouted l new (seen_at (last_of d.runs) at) (flown d.flight at)) (sym e) (subst (λ (c : Done). IsRouted nothing_kept new (seen_at (last_of c.runs) at) (flown c.flight at)) (sym f) (record {
  current = λ e. ([], refl);
  begun = λ e m f. cc;
  ahead = λ e m f. cc;
  all = λ e m f. cc;
}))

pub sound_start : (f : Workflow) → IsSound (start f)
sound_start f = record {
  channels = λ c. subst (IsFine (is_based f c)) (sym (same_everywhere f.channels c nothing_kept)) (fine_nothing (is_based f c));
  inputs = λ t k lt lt'. routed_nothing _ _ (is_new (input_in f t k).mode) k (same_everywhere f.channels (input_in f t k).channel nothing_kept) (same_everywhere f.tasks t nothing_done);
}

-- one channel changes
pub grown_at : (s : State) (c : ℕ) (k : Kept) → Grows (is_based s.flow c) (kept_at s c) k → (n : ℕ) → Grows (is_based s.flow n) (kept_at s n) (kept_at (set_kept s c k) n)
grown_at s c k grows = at_set (λ n (l : Kept). Grows (is_based s.flow n) (kept_at s n) l) s.channels c k nothing_kept (λ n. grows_itself (is_based s.flow n) (kept_at s n)) grows

pub sound_kept : (s : State) (c : ℕ) (k : Kept) → IsWired s.flow → IsSound s → IsFine (is_based s.flow c) k → Grows (is_based s.flow c) (kept_at s c) k → IsSound (set_kept s c k)
sound_kept s c k wired is fine grows = record {
  channels = at_set (λ n (l : Kept). IsFine (is_based s.flow n) l) s.channels c k nothing_kept is.channels fine;
  inputs = λ t i lt lt'. routed_on (is_based s.flow (input_in s.flow t i).channel) (is_new (input_in s.flow t i).mode) _ _ (cursor s t i) (flown (done_at s t).flight i) (wired t i) (grown_at s c k grows (input_in s.flow t i).channel) (is.inputs t i lt lt');
}

-- one task changes
abbrev TaskRouted : State → ℕ → Done → Type 0
TaskRouted s t d = (i : ℕ) → t < length s.flow.tasks → i < length (task_in s.flow t).inputs → IsRouted (kept_at s (input_in s.flow t i).channel) (is_new (input_in s.flow t i).mode) (seen_at (last_of d.runs) i) (flown d.flight i)

sound_done : (s : State) (t : ℕ) (d : Done) → IsSound s → TaskRouted s t d → IsSound (set_done s t d)
sound_done s t d is routed = record {
  channels = is.channels;
  inputs = λ n i lt lt'. at_set (TaskRouted s) s.tasks t d nothing_done (λ n i lt lt'. is.inputs n i lt lt') routed n i lt lt';
}

-- a task that nothing of is in flight
routed_landed : (k : Kept) (new : Bool) (at : ℕ) (seen : Option ℕ) → IsRouted k new at seen → IsRouted k new at None
routed_landed k new at seen is = record { current = is.current; begun = λ e m f. cc; ahead = λ e m f. cc; all = λ e m f. cc }

routed_begun : (k : Kept) (new : Bool) (at : ℕ) (seen : Option ℕ) (m : ℕ) → m ≡ length k.versions → HasPath k.shelf 0 (length k.versions) → IsRouted k new at seen → IsRouted k new at (Some m)
routed_begun k new at seen m newest whole is = record {
  current = is.current;
  begun = λ e l f. let here : length k.versions ≡ l = cc in subst (HasPath k.shelf at) here (is.current e);
  ahead = λ e l f. let here : length k.versions ≡ l = cc in ([], sym here);
  all = λ e l f. let here : length k.versions ≡ l = cc in subst (HasPath k.shelf 0) here whole;
}

pub capture_seen : (s : State) (t i : ℕ) → i < length (task_in s.flow t).inputs → seen_at (capture_of s t) i ≡ newest s (input_in s.flow t i).channel
capture_seen s t i lt = get_or-map (λ (e : Input). newest s e.channel) (task_in s.flow t).inputs i no_input 0 lt

pub last_push : (runs : List Capture) (run : Capture) → last_of (runs ++ run ∷ []) ≡ run
last_push [] run = refl
last_push (r ∷ []) run = refl
last_push (r ∷ (q ∷ runs)) run = last_push (q ∷ runs) run

-- a run: its version, and then the run itself
sound_add_run : (s : State) (t : ℕ) (run : Capture) → IsWired s.flow → IsSound s →
    ((i : ℕ) → t < length s.flow.tasks → i < length (task_in s.flow t).inputs → (is_new (input_in s.flow t i).mode) ≡ true → HasPath (kept_at s (input_in s.flow t i).channel).shelf (seen_at run i) (newest s (input_in s.flow t i).channel)) →
    IsSound (add_run s t run)
sound_add_run s t run wired is ahead =
    let c = (task_in s.flow t).output in
    let based = is_based s.flow c in
    let v = made_version s t run in
    let grows = grows_version based (kept_at s c) v in
    let s' = add_version s c v in
    sound_done s' t (with_run (done_at s t) run) (sound_kept s c (with_version based (kept_at s c) v) wired is (fine_version based (kept_at s c) v (is.channels c)) grows) (λ i lt lt'.
    let e = input_in s.flow t i in
    let P : Capture → Type 0 = λ o. IsRouted (kept_at s' e.channel) (is_new e.mode) (seen_at o i) None in
    subst P (sym (last_push (done_at s t).runs run)) (record {
      current = λ yes. (grown_at s c (with_version based (kept_at s c) v) grows e.channel).on (wired t i yes) (seen_at run i) (ahead i lt lt' yes);
      begun = λ e m f. cc;
      ahead = λ e m f. cc;
      all = λ e m f. cc;
    }))

sound_if : (b : Bool) (s t : State) → (b ≡ true → IsSound s) → (b ≡ false → IsSound t) → IsSound (if b then s else t)
sound_if true s t f g = f refl
sound_if false s t f g = g refl

pub both_true : (a b : Bool) → (a && b) ≡ true → (a ≡ true) × (b ≡ true)
both_true true b e = (refl, e)
both_true false b e = cc

some_of : {X : Type 0} (o : Option X) → is_some o ≡ true → (x : X) × (o ≡ Some x)
some_of None e = cc
some_of (Some x) e = (x, refl)

pub fly_some : (d : Done) (run : Capture) (i : ℕ) → d.flight ≡ Some run → flown d.flight i ≡ Some (seen_at run i)
fly_some d run i e = ap (λ (o : Option Capture). flown o i) e

pub landing_some : (s : State) (t : ℕ) (run : Capture) → landing s t ≡ Some run → (t < length s.flow.tasks) × ((done_at s t).flight ≡ Some run)
landing_some s t run e = elim (nat_lt t (length s.flow.tasks)) as (λ b. nat_lt t (length s.flow.tasks) ≡ b → (if b then (done_at s t).flight else None) ≡ Some run → (t < length s.flow.tasks) × ((done_at s t).flight ≡ Some run)) [
  | true ↦ λ f g. (grind (arith, nat_tests), g)
  | false ↦ λ f g. cc
] refl e

sound_finish : (s : State) (t : ℕ) (o : Option Capture) → landing s t ≡ o → IsWired s.flow → IsSound s → IsSound (elim o as (λ _. State) [ None ↦ s | Some run ↦ add_run s t run ])
sound_finish s t None e wired is = is
sound_finish s t (Some run) e wired is = sound_add_run s t run wired is (λ i lt lt' new. (is.inputs t i lt lt').ahead new (seen_at run i) (fly_some (done_at s t) run i (landing_some s t run e).1))

pub sound_after : (s : State) (x : Step) → IsWired s.flow → IsSound s → IsSound (after s x)
sound_after s (Load c d) wired is = sound_if (is_input s.flow c) _ s (λ _.
    let based = is_based s.flow c in
    let v = loaded_version s c d in
    sound_kept s c (with_version based (kept_at s c) v) wired is (fine_version based (kept_at s c) v (is.channels c)) (grows_version based (kept_at s c) v)) (λ _. is)
sound_after s (Tick m) wired is = sound_if (nat_le s.moment m) (record s { moment = m }) s (λ _. record { channels = is.channels; inputs = is.inputs }) (λ _. is)
sound_after s (Begin t) wired is = sound_if (may_begin s t) (set_done s t (record (done_at s t) { flight = Some (capture_of s t) })) s (λ _.
    sound_done s t _ is (λ i lt lt'. routed_begun _ _ (cursor s t i) (flown (done_at s t).flight i) (seen_at (capture_of s t) i) (capture_seen s t i lt') (is.channels (input_in s.flow t i).channel).whole (is.inputs t i lt lt'))) (λ _. is)
sound_after s (Drop t) wired is = sound_done s t _ is (λ i lt lt'. routed_landed _ _ (cursor s t i) (flown (done_at s t).flight i) (is.inputs t i lt lt'))
sound_after s (Finish t) wired is = sound_finish s t (landing s t) refl wired is
sound_after s (Run t) wired is = sound_if (may_begin s t) (add_run s t (capture_of s t)) s (λ _.
    sound_add_run s t (capture_of s t) wired is (λ i lt lt' new. ([], capture_seen s t i lt'))) (λ _. is)
sound_after s (Worked k) wired is = is
sound_after s (Compact c) wired is = sound_if (newest s c == 0) s (set_kept s c (with_hop (kept_at s c) 0 (newest s c))) (λ _. is) (λ some.
    let apart = other_number (newest s c) 0 some in
    sound_kept s c _ wired is (fine_interval (is_based s.flow c) (kept_at s c) 0 (newest s c) (omega arith) (omega arith) (λ _. refl) (is.channels c)) (grows_interval (is_based s.flow c) (kept_at s c) 0 (newest s c)))
sound_after s (Chain c i j) wired is = sound_if (may_chain s c i j) (set_kept s c (with_hop (kept_at s c) i j)) s (λ may.
    let tests = both_true (nat_lt 0 i && nat_lt i j && nat_le j (newest s c)) (is_some (path_of (kept_at s c) (record { from = i; to = j }))) may in
    let low = both_true (nat_lt 0 i && nat_lt i j) (nat_le j (newest s c)) tests.0 in
    let ends = both_true (nat_lt 0 i) (nat_lt i j) low.0 in
    let high : j ≤ newest s c = let e = low.1 in grind (arith, nat_tests) in
    let pos : 0 < i = let e = ends.0 in grind (arith, nat_tests) in
    let lt : i < j = let e = ends.1 in grind (arith, nat_tests) in
    let there = some_of (path_of (kept_at s c) (record { from = i; to = j })) tests.1 in
    let shelf = (kept_at s c).shelf in
    let path = (path_is_chosen (weight_of (kept_at s c).versions) shelf (is.channels c).rises i j there.0 there.1).is_path in
    sound_kept s c _ wired is (fine_interval (is_based s.flow c) (kept_at s c) i j lt high
    (λ b. absurd (base_start shelf i j there.0 ((is.channels c).bases b) path pos lt)) (is.channels c)) (grows_interval (is_based s.flow c) (kept_at s c) i j)) (λ _. is)
  where
    base_start : (shelf : List Span) (i j : ℕ) (p : List Span) → ((x : Span) → IsOneOf shelf x → x.from ≡ 0) → IsPath shelf i j p → 0 < i → i < j → ⊥
    base_start shelf i j [] base h pos lt = omega (arith, h, pos, lt)
    base_start shelf i j (x ∷ xs) base h pos lt = let z = base x h.0 in let e : x.from ≡ i = h.1 in omega (arith, z, e, pos)
sound_after s Collect wired is = sound_collect s is
sound_after s (Show c) wired is = is
sound_after s (Blocks c) wired is = is
sound_after s (Refused line) wired is = is
