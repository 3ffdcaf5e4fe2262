-- The tasks among the others, and the channels with their writers.
use Rattle.std.proofs.Common.{◌≡◌, ℕ, zero, suc, ◌+◌, ◌<◌, ◌≤◌, Bool, true, false, not, cond, ◌&&◌, ◌||◌, nat_eq, nat_le, List, [], ◌∷◌, ◌++◌, length, Option, Some, None, option_map, IfSome, Ok, Err, codes, refl, ap, sym, subst, ◌∙◌, arith}
use Rattle.std.specs.List.{slice_get, position, list_any}
use Rattle.std.specs.Prelude.{if◌then◌else◌}
use Rattle.std.proofs.lemmas.List.{append-nil}
use Rattle.std.proofs.lemmas.Bool.{and_parts}
use Rattle.std.proofs.lemmas.Bool.Decides.{nat_tests}
use Rattle.std.proofs.lemmas.List.Quantifiers.{position-Some}
use Rattle.nova_value.specs.Line.{is_numeral, number_after}
use Rattle.nova_workflow.specs.declared.flow.Channel.{Channel}
use Rattle.nova_workflow.specs.declared.flow.Task.{Task}
use Rattle.nova_workflow.specs.declared.flow.Flow.{Flow}
use Rattle.nova_workflow.specs.declared.flow.Trigger.{Trigger}
use Rattle.nova_workflow.specs.declared.flow.Trigger.TheVariants.{OnData, Every, After}
use Rattle.nova_flow.specs.declared.fault.FlowFault.TheVariants as fault
use Rattle.nova_flow.specs.Answers.{◌>>=◌}
use Rattle.nova_name.specs.Keywords.{same_text}
use Rattle.nova_flow.specs.Words.{two_words}
use Rattle.nova_flow.specs.Tasks.{Stated, has_task}
use Rattle.nova_workflow.specs.Writers.{writes, writer_of}
use Rattle.nova_flow.specs.Wiring.{is_written, is_output, channel_name, one_writer, write_input, written_before, as_period, period_of, task_place, known_after, every, trigger_by, trigger_of, with_trigger, settled, settled_after, all_settled, wired, all_wired}
use Rattle.nova_workflow.specs.Whole.{Each, EachOnce, IsChannel, IsInTime, IsTask}
use Rattle.nova_flow.proofs.Binds.{bind_ok, ok_ok, require_ok}
use Rattle.nova_flow.proofs.Places.{position-cons, found_behind, found_before}
use Rattle.nova_flow.proofs.WholeChannels.{negated, Declared}
use Rattle.nova_flow.proofs.WholeTasks.{IsStated}

period_ok : (n p : ℕ) → as_period n ≡ Some p → (1 ≤ p) × (p ≤ 1000000000)
period_ok n p e = by (nat_le 1 n && nat_le n 1000000000) refl e
  where
    by : (b : Bool) → (nat_le 1 n && nat_le n 1000000000) ≡ b → cond b (Some n) None ≡ Some p → (1 ≤ p) × (p ≤ 1000000000)
    by false t e = cc
    by true t e =
        let same : n ≡ p = cc in
        let (low, high) = and_parts (nat_le 1 n) (nat_le n 1000000000) t in
        let a : 1 ≤ n = grind (arith, nat_tests) in
        let b : n ≤ 1000000000 = grind (arith, nat_tests) in
        subst (λ (m : ℕ). (1 ≤ m) × (m ≤ 1000000000)) same (a, b)

digits_ok : (digits : List ℕ) (p : ℕ) → period_of digits ≡ Some p → (1 ≤ p) × (p ≤ 1000000000)
digits_ok digits p e = by (is_numeral digits) e
  where
    by : (b : Bool) → cond b (as_period (number_after 0 digits)) None ≡ Some p → (1 ≤ p) × (p ≤ 1000000000)
    by false e = cc
    by true e = period_ok (number_after 0 digits) p e

every_ok : (task : List ℕ) (n : ℕ) (o : Option ℕ) (t : Trigger) → ((p : ℕ) → o ≡ Some p → (1 ≤ p) × (p ≤ 1000000000)) → every task o ≡ Ok t → IsInTime n t
every_ok task n None t go e = cc
every_ok task n (Some p) t go e = subst (IsInTime n) (ok_ok (Every p) t e) (go p refl)

task_within : (done : List Task) (name : List ℕ) (k : ℕ) → task_place name done ≡ Some k → k < length done
task_within [] name k is = cc
task_within (t ∷ ts) name k is = (position-Some (λ x. same_text x.name name) (t ∷ ts) k t is).0

after_ok : (task : List ℕ) (n : ℕ) (rest : List Stated) (name : List ℕ) (o : Option ℕ) (t : Trigger) → ((k : ℕ) → o ≡ Some k → k < n) → known_after task rest name o ≡ Ok t → IsInTime n t
after_ok task n rest name (Some k) t go e = subst (IsInTime n) (ok_ok (After k) t e) (go k refl)
after_ok task n rest name None t go e = by (has_task name rest) e
  where
    by : (b : Bool) → (if b then Err (fault.NamedLater task) else Err (fault.BadTrigger task)) ≡ Ok t → IsInTime n t
    by true e = cc
    by false e = cc

words_ok : (task : List ℕ) (done : List Task) (rest : List Stated) (o : Option (List ℕ × List ℕ)) (t : Trigger) → trigger_by task done rest o ≡ Ok t → IsInTime (length done) t
words_ok task done rest None t e = cc
words_ok task done rest (Some w) t e = by (same_text w.0 (codes "every")) e
  where
    other : (b : Bool) → (if b then known_after task rest w.1 (task_place w.1 done) else Err (fault.BadTrigger task)) ≡ Ok t → IsInTime (length done) t
    other true e = after_ok task (length done) rest w.1 (task_place w.1 done) t (task_within done w.1) e
    other false e = cc

    by : (b : Bool) → (if b then every task (period_of w.1) else (if same_text w.0 (codes "after") then known_after task rest w.1 (task_place w.1 done) else Err (fault.BadTrigger task))) ≡ Ok t → IsInTime (length done) t
    by true e = every_ok task (length done) (period_of w.1) t (digits_ok w.1) e
    by false e = other (same_text w.0 (codes "after")) e

trigger_ok : (task : List ℕ) (done : List Task) (rest : List Stated) (o : Option (List ℕ)) (t : Trigger) → trigger_of task done rest o ≡ Ok t → IsInTime (length done) t
trigger_ok task done rest None t e = subst (IsInTime (length done)) (ok_ok OnData t e) tt
trigger_ok task done rest (Some text) t e = by (same_text text (codes "data")) e
  where
    by : (b : Bool) → (if b then Ok OnData else trigger_by task done rest (two_words text)) ≡ Ok t → IsInTime (length done) t
    by true e = subst (IsInTime (length done)) (ok_ok OnData t e) tt
    by false e = words_ok task done rest (two_words text) t e

-- a task among the others
pub record Settled (done : List Task) (rest : List Stated) (s : Stated) (t : Task) : Type 0 where
  pub trigger : Trigger
  pub is : with_trigger s trigger ≡ t
  pub alone : is_written s.output done ≡ false
  pub before : write_input rest s.inputs ≡ false
  pub in_time : IsInTime (length done) trigger

settled_ok : (cs : List Channel) (done : List Task) (rest : List Stated) (s : Stated) (t : Task) → settled cs done rest s ≡ Ok t → Settled done rest s t
settled_ok cs done rest s t e =
    let s0 = bind_ok (one_writer cs done s.output) (λ _. written_before s.name rest s.inputs >>= λ _. trigger_of s.name done rest s.trigger >>= λ trigger. Ok (with_trigger s trigger)) t e in
    let s1 = bind_ok (written_before s.name rest s.inputs) (λ _. trigger_of s.name done rest s.trigger >>= λ trigger. Ok (with_trigger s trigger)) t s0.2 in
    let s2 = bind_ok (trigger_of s.name done rest s.trigger) (λ trigger. Ok (with_trigger s trigger)) t s1.2 in
    let trigger = s2.0 in
    record {
      trigger = trigger;
      is = ok_ok (with_trigger s trigger) t s2.2;
      alone = negated (is_written s.output done) (require_ok (fault.TwoWriters (channel_name cs s.output)) (not (is_written s.output done)) s0.0 s0.1);
      before = negated (write_input rest s.inputs) (require_ok (fault.NamedLater s.name) (not (write_input rest s.inputs)) s1.0 s1.1);
      in_time = trigger_ok s.name done rest s.trigger trigger s2.1;
    }

-- tasks behind those that are done, each from the one that is stated at its place
abbrev pub Made : List Task → List Stated → List Task → Type 0
Made done [] [] = Unit {0}
Made done [] (t ∷ ts) = ⊥
Made done (s ∷ ss) [] = ⊥
Made done (s ∷ ss) (t ∷ ts) = Settled done (s ∷ ss) s t × Made (done ++ t ∷ []) ss ts

one_behind : (done : List Task) (t : Task) (ts : List Task) → (done ++ t ∷ []) ++ ts ≡ done ++ t ∷ ts
one_behind [] t ts = refl
one_behind (x ∷ xs) t ts = ap (λ zs. x ∷ zs) (one_behind xs t ts)

one_longer : (done : List Task) (t : Task) → length (done ++ t ∷ []) ≡ suc (length done)
one_longer [] t = refl
one_longer (x ∷ xs) t = ap suc (one_longer xs t)

all_made : (cs : List Channel) (done : List Task) (ss : List Stated) (all : List Task) → settled_after cs done ss ≡ Ok all → (ts : List Task) × (done ++ ts ≡ all) × Made done ss ts
all_made cs done [] all e = ([], append-nil done ∙ ok_ok done all e, tt)
all_made cs done (s ∷ ss) all e =
    let s0 = bind_ok (settled cs done (s ∷ ss) s) (λ t. settled_after cs (done ++ t ∷ []) ss) all e in
    let t = s0.0 in
    let more = all_made cs (done ++ t ∷ []) ss all s0.2 in
    (t ∷ more.0, sym (one_behind done t more.0) ∙ more.1, (settled_ok cs done (s ∷ ss) s t s0.1, more.2))

pub made_of : (cs : List Channel) (ss : List Stated) (all : List Task) → all_settled cs ss ≡ Ok all → Made [] ss all
made_of cs ss all e = let m = all_made cs [] ss all e in subst (Made [] ss) m.1 m.2

pub made_length : (done : List Task) (ss : List Stated) (ts : List Task) → Made done ss ts → length ts ≡ length ss
made_length done [] [] m = refl
made_length done [] (t ∷ ts) m = absurd m
made_length done (s ∷ ss) [] m = absurd m
made_length done (s ∷ ss) (t ∷ ts) m = ap suc (made_length (done ++ t ∷ []) ss ts m.1)

outputs_same : (c : ℕ) (done : List Task) (ss : List Stated) (ts : List Task) → Made done ss ts → is_written c ts ≡ is_output c ss
outputs_same c done [] [] m = refl
outputs_same c done [] (t ∷ ts) m = absurd m
outputs_same c done (s ∷ ss) [] m = absurd m
outputs_same c done (s ∷ ss) (t ∷ ts) m =
    ap (λ (x : Task). nat_eq x.output c || is_written c ts) (sym m.0.is)
    ∙ ap (λ (b : Bool). nat_eq s.output c || b) (outputs_same c (done ++ t ∷ []) ss ts m.1)

any_at : {A : Type 0} (p : A → Bool) (xs : List A) (k : ℕ) (x : A) → list_any p xs ≡ false → slice_get xs k ≡ Some x → p x ≡ false
any_at p [] k x none e = cc
any_at p (y ∷ ys) zero x none e = let same : y ≡ x = cc in subst (λ z. p z ≡ false) same (by (p y) none)
  where
    by : (b : Bool) → (b || list_any p ys) ≡ false → b ≡ false
    by true h = cc
    by false h = refl
any_at p (y ∷ ys) (suc k) x none e = any_at p ys k x (by (p y) none) e
  where
    by : (b : Bool) → (b || list_any p ys) ≡ false → list_any p ys ≡ false
    by true h = cc
    by false h = h

nat_itself : (n : ℕ) → nat_eq n n ≡ true
nat_itself n = grind (arith, nat_tests)

joined : (f : Flow) (n : ℕ) (done : List Task) (s : Stated) (ss : List Stated) (t : Task) (ts : List Task) → f.tasks ≡ done ++ t ∷ ts → length f.channels ≡ n
    → Made done (s ∷ ss) (t ∷ ts) → IsStated n s → IsTask f (length done) t
joined f n done s ss t ts all count m is = subst (IsTask f (length done)) m.0.is (record {
  name = is.name;
  some_input = is.some_input;
  few_inputs = is.few_inputs;
  inputs = λ k i e. subst (λ (c : ℕ). i.channel < c) (sym count) (is.inputs k i e);
  once = is.once;
  earlier = λ k i e.
      let none = outputs_same i.channel done (s ∷ ss) (t ∷ ts) m ∙ any_at (λ x. is_output x.channel (s ∷ ss)) s.inputs k i m.0.before e in
      subst (λ (xs : List Task). IfSome (writer_of xs i.channel) (λ u. u < length done)) (sym all) (found_before (writes i.channel) done (t ∷ ts) none);
  output = subst (λ (c : ℕ). s.output < c) (sym count) is.output;
  writes = ap (λ (xs : List Task). writer_of xs s.output) all
      ∙ found_behind (writes s.output) done t ts m.0.alone (ap (λ (x : Task). nat_eq x.output s.output) (sym m.0.is) ∙ nat_itself s.output);
  trigger = m.0.in_time;
})

pub tasks_whole : (f : Flow) (n : ℕ) (done : List Task) (ss : List Stated) (ts : List Task) → f.tasks ≡ done ++ ts → length f.channels ≡ n
    → Made done ss ts → Each (λ k s. IsStated n s) ss → (k : ℕ) (x : Task) → slice_get ts k ≡ Some x → IsTask f (length done + k) x
tasks_whole f n done [] [] all count m is k x e = cc
tasks_whole f n done [] (t ∷ ts) all count m is k x e = absurd m
tasks_whole f n done (s ∷ ss) [] all count m is k x e = absurd m
tasks_whole f n done (s ∷ ss) (t ∷ ts) all count m is zero x e =
    let same : t ≡ x = cc in
    let at : length done ≡ length done + 0 = omega arith in
    subst (λ (k : ℕ). IsTask f k x) at (subst (IsTask f (length done)) same (joined f n done s ss t ts all count m (is 0 s refl)))
tasks_whole f n done (s ∷ ss) (t ∷ ts) all count m is (suc k) x e =
    let at : length (done ++ t ∷ []) + k ≡ length done + suc k = omega (arith, one_longer done t) in
    subst (λ (j : ℕ). IsTask f j x) at (tasks_whole f n (done ++ t ∷ []) ss ts (all ∙ sym (one_behind done t ts)) count m.1 (λ j y h. is (suc j) y h) k x e)

place_same : (name : List ℕ) (done : List Task) (ss : List Stated) (ts : List Task) → Made done ss ts → position (λ y. same_text y.name name) ts ≡ position (λ y. same_text y.name name) ss
place_same name done [] [] m = refl
place_same name done [] (t ∷ ts) m = absurd m
place_same name done (s ∷ ss) [] m = absurd m
place_same name done (s ∷ ss) (t ∷ ts) m =
    position-cons (λ y. same_text y.name name) t ts
    ∙ ap (λ (x : Task). cond (same_text x.name name) (Some 0) (option_map suc (position (λ y. same_text y.name name) ts))) (sym m.0.is)
    ∙ ap (λ (o : Option ℕ). cond (same_text s.name name) (Some 0) (option_map suc o)) (place_same name (done ++ t ∷ []) ss ts m.1)
    ∙ sym (position-cons (λ y. same_text y.name name) s ss)

made_at : (done : List Task) (ss : List Stated) (ts : List Task) → Made done ss ts → (k : ℕ) (x : Task) → slice_get ts k ≡ Some x → (s : Stated) × (slice_get ss k ≡ Some s) × (s.name ≡ x.name)
made_at done [] [] m k x e = cc
made_at done [] (t ∷ ts) m k x e = absurd m
made_at done (s ∷ ss) [] m k x e = absurd m
made_at done (s ∷ ss) (t ∷ ts) m zero x e = let same : t ≡ x = cc in (s, refl, ap (λ (y : Task). y.name) (m.0.is ∙ same))
made_at done (s ∷ ss) (t ∷ ts) m (suc k) x e = made_at (done ++ t ∷ []) ss ts m.1 k x e

pub tasks_once : (ss : List Stated) (ts : List Task) → Made [] ss ts → EachOnce (λ a b. same_text a.name b.name) ss → EachOnce (λ a b. same_text a.name b.name) ts
tasks_once ss ts m once k x e =
    let at = made_at [] ss ts m k x e in
    place_same x.name [] ss ts m ∙ ap (λ (name : List ℕ). position (λ y. same_text y.name name) ss) (sym at.2) ∙ once k at.0 at.1

-- channels
wired_at : (ts : List Task) (n : ℕ) (cs : List Channel) (k : ℕ) (x : Channel) → slice_get (all_wired ts n cs) k ≡ Some x → (c : Channel) × (slice_get cs k ≡ Some c) × (wired ts (n + k) c ≡ x)
wired_at ts n [] k x e = cc
wired_at ts n (c ∷ cs) zero x e =
    let same : wired ts n c ≡ x = cc in
    let at : n + 0 ≡ n = omega arith in
    (c, refl, ap (λ (j : ℕ). wired ts j c) at ∙ same)
wired_at ts n (c ∷ cs) (suc k) x e =
    let more = wired_at ts (suc n) cs k x e in
    let at : n + suc k ≡ suc n + k = omega arith in
    (more.0, more.1, ap (λ (j : ℕ). wired ts j more.0) at ∙ more.2)

pub wired_length : (ts : List Task) (n : ℕ) (cs : List Channel) → length (all_wired ts n cs) ≡ length cs
wired_length ts n [] = refl
wired_length ts n (c ∷ cs) = ap suc (wired_length ts (suc n) cs)

pub channels_whole : (f : Flow) (cs : List Channel) → Each (λ k c. Declared c) cs → (k : ℕ) (x : Channel) → slice_get (all_wired f.tasks 0 cs) k ≡ Some x → IsChannel f k x
channels_whole f cs is k x e =
    let at = wired_at f.tasks 0 cs k x e in
    let d = is k at.0 at.1 in
    let number : 0 + k ≡ k = omega arith in
    subst (IsChannel f k) (ap (λ (j : ℕ). wired f.tasks j at.0) (sym number) ∙ at.2) (record {
      name = d.name;
      shape = d.schema.shape;
      columns = d.schema.columns;
      once = d.schema.once;
      writer = refl;
      based = refl;
    })

wired_place : (ts : List Task) (n : ℕ) (cs : List Channel) (name : List ℕ) → position (λ y. same_text y.name name) (all_wired ts n cs) ≡ position (λ y. same_text y.name name) cs
wired_place ts n [] name = refl
wired_place ts n (c ∷ cs) name =
    position-cons (λ y. same_text y.name name) (wired ts n c) (all_wired ts (suc n) cs)
    ∙ ap (λ (o : Option ℕ). cond (same_text c.name name) (Some 0) (option_map suc o)) (wired_place ts (suc n) cs name)
    ∙ sym (position-cons (λ y. same_text y.name name) c cs)

pub channels_once : (ts : List Task) (cs : List Channel) → EachOnce (λ a b. same_text a.name b.name) cs → EachOnce (λ a b. same_text a.name b.name) (all_wired ts 0 cs)
channels_once ts cs once k x e =
    let at = wired_at ts 0 cs k x e in
    wired_place ts 0 cs x.name ∙ ap (λ (y : Channel). position (λ z. same_text z.name y.name) cs) (sym at.2) ∙ once k at.0 at.1
