-- Each version of a task's output is the result of a run.
use Rattle.std.proofs.Common.{◌≡◌, ◌≢◌, ◌⊎◌, inl, inr, ℕ, zero, suc, ◌+◌, ◌<◌, ◌≤◌, ◌==◌, Bool, true, false, List, [], ◌∷◌, ◌++◌, length, map, take, Option, Some, None, refl, ap, sym, ◌∙◌, subst, arith, if◌then◌else◌}
use Rattle.std.specs.Prelude.{slice_set, slice_index_or, nat_le, nat_lt, is_none, is_some, not, ◌&&◌}
use Rattle.std.proofs.lemmas.Bool.Decides.{nat_tests}
use Rattle.std.proofs.lemmas.List.{length_push, get_or_push, get_or_append_left, take-append-le, take_at, length-set, length-append, length-map, get_or-set_same, get_or-set_other, get_or-map, get_or_past}
use Rattle.nova_path.specs.Lists.{IsOneOf}
use Rattle.nova_path.proofs.Paths.{one_either}
use Rattle.nova_workflow.specs.declared.flow.Input.{Input}
use Rattle.nova_machine.specs.Workflow.{Workflow, no_channel, no_input, task_in, output_in, is_input, is_based}
use Rattle.nova_machine.specs.Versions.{Version, rows_in}
use Rattle.nova_machine.specs.State.{State, Kept, Done, Capture, start, nothing_kept, nothing_done, kept_at, done_at, newest}
use Rattle.nova_machine.specs.Due.{no_capture, seen_at, capture_of}
use Rattle.nova_machine.specs.Results.{result_of}
use Rattle.nova_machine.specs.Writing.{made_version}
use Rattle.nova_machine.specs.Needed.{left_from}
use Rattle.nova_machine.specs.Steps.{Step, Load, Tick, Begin, Drop, Finish, Run, Worked, Compact, Chain, Collect, Show, Blocks, Refused, after, after_all, set_kept, set_done, with_hop, with_version, add_version, loaded_version, with_run, add_run, landing, may_begin, may_chain}
use Rattle.nova_machine.specs.Reachable.{IsReachable}
use Rattle.nova_machine.specs.RunLaws.{IsOwned, RunsAreVersions}
use Rattle.nova_machine.proofs.Growing.{version_new}
use Rattle.nova_machine.proofs.Growth.{at_set}
use Rattle.nova_machine.proofs.History.{Extends, Bounded, extends_itself, extends_version, rows_stay, made_stays}
use Rattle.nova_machine.proofs.Turns.{flow_after}
use Rattle.nova_machine.proofs.Collecting.{kept_collected}
use Rattle.nova_machine.proofs.Kept.{landing_some}

abbrev of : State → ℕ → List Version
of s c = (kept_at s c).versions

pub record HasRun (s : State) (t : ℕ) : Type 0 where
  pub count : length (done_at s t).runs ≡ newest s (output_in s.flow t)
  pub saw : (r : Capture) → IsOneOf (done_at s t).runs r → Bounded s (task_in s.flow t).inputs r
  pub flies : (r : Capture) → (done_at s t).flight ≡ Some r → Bounded s (task_in s.flow t).inputs r
  pub made : (m : ℕ) → m < length (done_at s t).runs → rows_in (of s (output_in s.flow t)) (suc m) ≡ (result_of s t (take m (done_at s t).runs) (slice_index_or (done_at s t).runs m no_capture)).rows

pub record HasHistory (s : State) : Type 0 where
  pub channels : length s.channels ≡ length s.flow.channels
  pub tasks : length s.tasks ≡ length s.flow.tasks
  pub ran : (t : ℕ) → t < length s.flow.tasks → HasRun s t

longer : (vs new : List Version) → Extends vs new → length vs ≤ length new
longer vs new e = let long = ap length e.is ∙ length-append vs e.more in omega (arith, long)

one_of_take : (m : ℕ) (xs : List Capture) (r : Capture) → IsOneOf (take m xs) r → IsOneOf xs r
one_of_take zero xs r h = absurd h
one_of_take (suc m) [] r h = absurd h
one_of_take (suc m) (x ∷ xs) r (inl e) = inl e
one_of_take (suc m) (x ∷ xs) r (inr h) = inr (one_of_take m xs r h)

one_at : (m : ℕ) (xs : List Capture) → m < length xs → IsOneOf xs (slice_index_or xs m no_capture)
one_at m [] lt = absurd (omega (arith, lt))
one_at zero (x ∷ xs) lt = inl refl
one_at (suc m) (x ∷ xs) lt = inr (one_at m xs (omega arith))

front_of : (m : ℕ) (xs : List Capture) → m < length xs → (r : Capture) → IsOneOf (take m xs ++ slice_index_or xs m no_capture ∷ []) r → IsOneOf xs r
front_of m xs lt r h = elim (one_either (take m xs) (slice_index_or xs m no_capture ∷ []) r h) as (λ _. IsOneOf xs r) [
  | inl l ↦ one_of_take m xs r l
  | inr r' ↦ elim r' as (λ _. IsOneOf xs r) [ inl e ↦ subst (IsOneOf xs) e (one_at m xs lt) | inr none ↦ absurd none ]
]

module _ (s : State) (ks : List Kept) (ds : List Done) (at : ℕ) (later : (n : ℕ) → Extends (kept_at s n).versions (slice_index_or ks n nothing_kept).versions) where
  abbrev next : State
  next = record s { channels = ks; tasks = ds; moment = at }

  bounded_on : (es : List Input) (r : Capture) → Bounded s es r → Bounded next es r
  bounded_on es r low k = let le = low k in let more = longer _ _ (later (slice_index_or es k no_input).channel) in omega arith

  -- a task whose runs and whose output stay
  ran_stays : (t : ℕ) → (slice_index_or ds t nothing_done).runs ≡ (done_at s t).runs → ((r : Capture) → (slice_index_or ds t nothing_done).flight ≡ Some r → Bounded s (task_in s.flow t).inputs r) →
      length (slice_index_or ks (output_in s.flow t) nothing_kept).versions ≡ newest s (output_in s.flow t) → HasRun s t → HasRun next t
  ran_stays t runs flies same is = record {
    count = ap length runs ∙ is.count ∙ sym same;
    saw = λ r h. bounded_on (task_in s.flow t).inputs r (is.saw r (subst (λ rs. IsOneOf rs r) runs h));
    flies = λ r e. bounded_on (task_in s.flow t).inputs r (flies r e);
    made = λ m lt.
        let old = (done_at s t).runs in
        let lt' : m < length old = subst (λ (rs : List Capture). m < length rs) runs lt in
        rows_stay (kept_at s (output_in s.flow t)).versions _ (suc m) (later (output_in s.flow t)) (let e = is.count in omega arith)
        ∙ is.made m lt'
        ∙ sym (made_stays s ks ds at later t (take m old) (slice_index_or old m no_capture) (λ r h. is.saw r (front_of m old lt' r h)) (is.saw _ (one_at m old lt')))
        ∙ ap (λ rs. (result_of next t (take m rs) (slice_index_or rs m no_capture)).rows) (sym runs);
  }

  -- a task with one run more, and its version
  ran_pushed : (t : ℕ) (run : Capture) (v : Version) → (slice_index_or ds t nothing_done).runs ≡ (done_at s t).runs ++ run ∷ [] → (slice_index_or ds t nothing_done).flight ≡ None →
      (slice_index_or ks (output_in s.flow t) nothing_kept).versions ≡ of s (output_in s.flow t) ++ v ∷ [] → v.rows ≡ (result_of s t (done_at s t).runs run).rows → Bounded s (task_in s.flow t).inputs run → HasRun s t → HasRun next t
  ran_pushed t run v runs landed versions rows low is =
      let old = (done_at s t).runs in
      let vs = of s (output_in s.flow t) in
      let count = is.count in
      record {
        count = ap length runs ∙ length_push old run ∙ ap (λ n. n + 1) count ∙ sym (ap length versions ∙ length_push vs v);
        saw = λ r h. bounded_on (task_in s.flow t).inputs r (elim (one_either old (run ∷ []) r (subst (λ rs. IsOneOf rs r) runs h)) as (λ _. Bounded s (task_in s.flow t).inputs r) [
          | inl l ↦ is.saw r l
          | inr one ↦ elim one as (λ _. Bounded s (task_in s.flow t).inputs r) [ inl e ↦ subst (Bounded s (task_in s.flow t).inputs) e low | inr none ↦ absurd none ]
        ]);
        flies = λ r e. let never : None ≡ Some r = sym landed ∙ e in cc;
        made = λ m lt.
            let long = length_push old run in
            let lt' : m < length (old ++ run ∷ []) = subst (λ (rs : List Capture). m < length rs) runs lt in
            let split : (m < length old) ⊎ (m ≡ length old) = grind arith in
            elim split as (λ _. rows_in (of next (output_in s.flow t)) (suc m) ≡ (result_of next t (take m (done_at next t).runs) (slice_index_or (done_at next t).runs m no_capture)).rows) [
              | inl low' ↦
                  rows_stay vs _ (suc m) (later (output_in s.flow t)) (omega arith)
                  ∙ is.made m low'
                  ∙ sym (made_stays s ks ds at later t (take m old) (slice_index_or old m no_capture) (λ r h. is.saw r (front_of m old low' r h)) (is.saw _ (one_at m old low')))
                  ∙ (λ z. (result_of next t (sym (take-append-le m old (run ∷ []) (omega arith)) z) (sym (get_or_append_left old (run ∷ []) no_capture m low') z)).rows)
                  ∙ ap (λ rs. (result_of next t (take m rs) (slice_index_or rs m no_capture)).rows) (sym runs)
              | inr e ↦
                  (λ z. rows_in (versions z) (suc (e z))) ∙ ap (λ n. rows_in (vs ++ v ∷ []) (suc n)) count ∙ ap (λ (w : Version). w.rows) (version_new vs v) ∙ rows
                  ∙ sym (made_stays s ks ds at later t old run (λ r h. elim (one_either old (run ∷ []) r h) as (λ _. Bounded s (task_in s.flow t).inputs r) [
                    | inl l ↦ is.saw r l
                    | inr one ↦ elim one as (λ _. Bounded s (task_in s.flow t).inputs r) [ inl f ↦ subst (Bounded s (task_in s.flow t).inputs) f low | inr none ↦ absurd none ]
                  ]) low)
                  ∙ (λ z. (result_of next t (sym (take_at old (run ∷ []) m (sym e)) z) (sym (get_or_push old run no_capture m (sym e)) z)).rows)
                  ∙ ap (λ rs. (result_of next t (take m rs) (slice_index_or rs m no_capture)).rows) (sym runs)
            ];
      }

made_rows_is : (s : State) (t : ℕ) (run : Capture) → (made_version s t run).rows ≡ (result_of s t (done_at s t).runs run).rows
unfolding made_version
made_rows_is s t run = refl

-- a step that makes no version and no run
quiet : (s : State) (ks : List Kept) (ds : List Done) (at : ℕ) → length ks ≡ length s.channels → length ds ≡ length s.tasks →
    ((n : ℕ) → (slice_index_or ks n nothing_kept).versions ≡ (kept_at s n).versions) → ((t : ℕ) → (slice_index_or ds t nothing_done).runs ≡ (done_at s t).runs) →
    ((t : ℕ) → t < length s.flow.tasks → (r : Capture) → (slice_index_or ds t nothing_done).flight ≡ Some r → Bounded s (task_in s.flow t).inputs r) → HasHistory s → HasHistory (record s { channels = ks; tasks = ds; moment = at })
quiet s ks ds at long long' versions runs flies is = record {
  channels = long ∙ is.channels;
  tasks = long' ∙ is.tasks;
  ran = λ t lt. ran_stays s ks ds at (λ n. subst (Extends (kept_at s n).versions) (sym (versions n)) (extends_itself (kept_at s n).versions)) t (runs t) (flies t lt) (ap length (versions (output_in s.flow t))) (is.ran t lt);
}

fly_same : (s : State) → HasHistory s → (t : ℕ) → t < length s.flow.tasks → (r : Capture) → (done_at s t).flight ≡ Some r → Bounded s (task_in s.flow t).inputs r
fly_same s is t lt r e = (is.ran t lt).flies r e

-- one channel of the same versions
same_versions : (s : State) (c : ℕ) (k : Kept) → k.versions ≡ (kept_at s c).versions → (n : ℕ) → (slice_index_or (slice_set s.channels c k) n nothing_kept).versions ≡ (kept_at s n).versions
same_versions s c k e = at_set (λ n (l : Kept). l.versions ≡ (kept_at s n).versions) s.channels c k nothing_kept (λ n. refl) e

length_collect : (s : State) (c : ℕ) (ks : List Kept) → length (left_from s c ks) ≡ length ks
length_collect s c [] = refl
length_collect s c (k ∷ ks) = ap suc (length_collect s (c + 1) ks)

-- one task of the same runs
flight_set : (s : State) (t : ℕ) (o : Option Capture) → HasHistory s → ((r : Capture) → o ≡ Some r → Bounded s (task_in s.flow t).inputs r) → HasHistory (set_done s t (record (done_at s t) { flight = o }))
flight_set s t o is low = quiet s s.channels (slice_set s.tasks t (record (done_at s t) { flight = o })) s.moment refl (length-set s.tasks t _) (λ n. refl)
    (at_set (λ n (d : Done). d.runs ≡ (done_at s n).runs) s.tasks t (record (done_at s t) { flight = o }) nothing_done (λ n. refl) refl)
    (at_set (λ n (d : Done). n < length s.flow.tasks → (r : Capture) → d.flight ≡ Some r → Bounded s (task_in s.flow n).inputs r) s.tasks t (record (done_at s t) { flight = o }) nothing_done (fly_same s is) (λ _. low)) is

-- a capture sees what is there
capture_low : (s : State) (t : ℕ) → Bounded s (task_in s.flow t).inputs (capture_of s t)
capture_low s t k =
    let es = (task_in s.flow t).inputs in
    let split : (k < length es) ⊎ (length es ≤ k) = grind arith in
    elim split as (λ _. seen_at (capture_of s t) k ≤ newest s (slice_index_or es k no_input).channel) [
      | inl lt ↦ let e = get_or-map (λ (e : Input). newest s e.channel) es k no_input 0 lt in omega (arith, e)
      | inr ge ↦ let e = get_or_past (map (λ (e : Input). newest s e.channel) es) k 0 (let long = length-map es (λ (e : Input). newest s e.channel) in omega (arith, long)) in omega (arith, e)
    ]

not_input : (o : Option ℕ) (t : ℕ) → o ≡ Some t → is_none o ≡ true → ⊥
not_input None t e f = cc
not_input (Some u) t e f = cc

history_load : (s : State) (c : ℕ) (v : Version) → IsOwned s.flow → is_input s.flow c ≡ true → HasHistory s → HasHistory (add_version s c v)
history_load s c v owned input is = record {
  channels = length-set s.channels c (with_version (is_based s.flow c) (kept_at s c) v) ∙ is.channels;
  tasks = is.tasks;
  ran = λ t lt.
      let apart : (output_in s.flow t) ≢ c = λ e. not_input _ t (owned t lt).1 (ap (is_input s.flow) e ∙ input) in
      ran_stays s (slice_set s.channels c (with_version (is_based s.flow c) (kept_at s c) v)) s.tasks s.moment (extends_version s c v) t refl (fly_same s is t lt)
      (ap (λ (k : Kept). length k.versions) (get_or-set_other s.channels c (output_in s.flow t) (with_version (is_based s.flow c) (kept_at s c) v) nothing_kept apart)) (is.ran t lt);
}

history_run : (s : State) (t : ℕ) (run : Capture) → IsOwned s.flow → t < length s.flow.tasks → Bounded s (task_in s.flow t).inputs run → HasHistory s → HasHistory (add_run s t run)
history_run s t run owned lt low is =
    let c = (output_in s.flow t) in
    let v = made_version s t run in
    let k = with_version (is_based s.flow c) (kept_at s c) v in
    let d = with_run (done_at s t) run in
    let ks = slice_set s.channels c k in
    let ds = slice_set s.tasks t d in
    let in_channels : c < length s.channels = let range = (owned t lt).0 in let long = is.channels in omega arith in
    let in_tasks : t < length s.tasks = let long = is.tasks in omega arith in
    record {
      channels = length-set s.channels c k ∙ is.channels;
      tasks = length-set s.tasks t d ∙ is.tasks;
      ran = λ n ln.
          let split : (n ≡ t) ⊎ (n ≢ t) = grind arith in
          elim split as (λ _. HasRun (add_run s t run) n) [
            | inl e ↦ subst (HasRun (add_run s t run)) (sym e)
                (let here = get_or-set_same s.tasks t d nothing_done in_tasks in
                let there = get_or-set_same s.channels c k nothing_kept in_channels in
                ran_pushed s ks ds s.moment (extends_version s c v) t run v (ap (λ (x : Done). x.runs) here) (ap (λ (x : Done). x.flight) here) (ap (λ (x : Kept). x.versions) there) (made_rows_is s t run) low (is.ran t lt))
            | inr other ↦
                let same = get_or-set_other s.tasks t n d nothing_done other in
                let apart : (output_in s.flow n) ≢ c = λ e. let both : Some n ≡ Some t = sym (owned n ln).1 ∙ ap (λ x. (slice_index_or s.flow.channels x no_channel).writer) e ∙ (owned t lt).1 in other cc in
                ran_stays s ks ds s.moment (extends_version s c v) n (ap (λ (x : Done). x.runs) same) (λ r f. fly_same s is n ln r (ap (λ (x : Done). x.flight) (sym same) ∙ f))
                (ap (λ (x : Kept). length x.versions) (get_or-set_other s.channels c (output_in s.flow n) k nothing_kept apart)) (is.ran n ln)
          ];
    }

history_if : (b : Bool) (s t : State) → (b ≡ true → HasHistory s) → (b ≡ false → HasHistory t) → HasHistory (if b then s else t)
history_if true s t f g = f refl
history_if false s t f g = g refl

true_and : (a b : Bool) → (a && b) ≡ true → (a ≡ true) × (b ≡ true)
true_and true b e = (refl, e)
true_and false b e = cc

history_finish : (s : State) (t : ℕ) (o : Option Capture) → landing s t ≡ o → IsOwned s.flow → HasHistory s → HasHistory (elim o as (λ _. State) [ None ↦ s | Some run ↦ add_run s t run ])
history_finish s t None e owned is = is
history_finish s t (Some run) e owned is = let lands = landing_some s t run e in history_run s t run owned lands.0 (fly_same s is t lands.0 run lands.1) is

pub history_after : (s : State) (x : Step) → IsOwned s.flow → HasHistory s → HasHistory (after s x)
history_after s (Load c d) owned is = history_if (is_input s.flow c) (add_version s c (loaded_version s c d)) s (λ input. history_load s c (loaded_version s c d) owned input is) (λ _. is)
history_after s (Tick m) owned is = history_if (nat_le s.moment m) (record s { moment = m }) s (λ _. quiet s s.channels s.tasks m refl refl (λ n. refl) (λ t. refl) (fly_same s is) is) (λ _. is)
history_after s (Begin t) owned is = history_if (may_begin s t) _ s (λ _. flight_set s t (Some (capture_of s t)) is (λ r e. let same : capture_of s t ≡ r = cc in subst (Bounded s (task_in s.flow t).inputs) same (capture_low s t))) (λ _. is)
history_after s (Drop t) owned is = flight_set s t None is (λ r e. cc)
history_after s (Finish t) owned is = history_finish s t (landing s t) refl owned is
history_after s (Run t) owned is = history_if (may_begin s t) (add_run s t (capture_of s t)) s (λ may.
    let e = (true_and (nat_lt t (length s.flow.tasks)) (not (is_some (done_at s t).flight)) may).0 in
    history_run s t (capture_of s t) owned (grind (arith, nat_tests)) (capture_low s t) is) (λ _. is)
history_after s (Worked k) owned is = is
history_after s (Compact c) owned is = history_if (newest s c == 0) s (set_kept s c (with_hop (kept_at s c) 0 (newest s c))) (λ _. is) (λ _.
    quiet s (slice_set s.channels c (with_hop (kept_at s c) 0 (newest s c))) s.tasks s.moment (length-set s.channels c _) refl (same_versions s c (with_hop (kept_at s c) 0 (newest s c)) refl) (λ t. refl) (fly_same s is) is)
history_after s (Chain c i j) owned is = history_if (may_chain s c i j) (set_kept s c (with_hop (kept_at s c) i j)) s (λ _.
    quiet s (slice_set s.channels c (with_hop (kept_at s c) i j)) s.tasks s.moment (length-set s.channels c _) refl (same_versions s c (with_hop (kept_at s c) i j) refl) (λ t. refl) (fly_same s is) is) (λ _. is)
history_after s Collect owned is = quiet s (left_from s 0 s.channels) s.tasks s.moment (length_collect s 0 s.channels) refl (λ n. ap (λ (k : Kept). k.versions) (kept_collected s n)) (λ t. refl) (fly_same s is) is
history_after s (Show c) owned is = is
history_after s (Blocks c) owned is = is
history_after s (Refused line) owned is = is

same_at : {X Y : Type 0} (xs : List X) (n : ℕ) (d : Y) → slice_index_or (map (λ _. d) xs) n d ≡ d
same_at [] n d = refl
same_at (x ∷ xs) zero d = refl
same_at (x ∷ xs) (suc n) d = same_at xs n d

history_start : (f : Workflow) → HasHistory (start f)
history_start f = record {
  channels = length-map f.channels (λ _. nothing_kept);
  tasks = length-map f.tasks (λ _. nothing_done);
  ran = λ t lt.
      let done = same_at f.tasks t nothing_done in
      let kept = same_at f.channels (output_in f t) nothing_kept in
      record {
        count = ap (λ (d : Done). length d.runs) done ∙ sym (ap (λ (k : Kept). length k.versions) kept);
        saw = λ r h. absurd (subst (λ (d : Done). IsOneOf d.runs r) done h);
        flies = λ r e. let never : None ≡ Some r = ap (λ (d : Done). d.flight) (sym done) ∙ e in cc;
        made = λ m low. let none = ap (λ (d : Done). length d.runs) done in absurd (omega arith);
      };
}

history_all : (s : State) (xs : List Step) → IsOwned s.flow → HasHistory s → HasHistory (after_all s xs)
history_all s [] owned is = is
history_all s (x ∷ xs) owned is = history_all (after s x) xs (subst IsOwned (sym (flow_after s x)) owned) (history_after s x owned is)

pub history : (s : State) → IsOwned s.flow → IsReachable s → HasHistory s
history s owned at = subst HasHistory (sym at.is) (history_all (start s.flow) at.steps owned (history_start s.flow))

pub runs_are_versions_law : RunsAreVersions
runs_are_versions_law s owned at t lt = let is = (history s owned at).ran t lt in (is.count, is.made)
