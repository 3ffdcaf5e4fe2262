-- Tasks with their patterns, one after the other.
use Rattle.std.specs.Prelude.{◌≡◌, ◌<◌, ℕ, zero, suc, List, [], ◌∷◌, ◌++◌, length, slice_get, slice_index_or, Some, None, Result, Ok, Err, refl}
use Rattle.std.proofs.Common.{◌+◌, get_or, take, ap, sym, ◌∙◌, inl, inr, subst}
use Rattle.std.proofs.lemmas.List.{take_more}
use Rattle.std.proofs.lemmas.Option.{slice_get_read}
use Rattle.std.specs.List.{AllByRecursion}
use Rattle.nova_pig_algebra.specs.Plan.{Plan}
use Rattle.nova_pig_pattern.specs.OutputKey.{HasOutputKey}
use Rattle.nova_admit.specs.declared.script.ScriptFault.{ScriptFault}
use Rattle.nova_admit.specs.Texts.{GivesPlan}
use Rattle.nova_workflow.specs.declared.flow.Input.{Input}
use Rattle.nova_workflow.specs.declared.flow.Task.{Task}
use Rattle.nova_workflow.specs.declared.flow.Flow.{Flow}
use Rattle.nova_workflow.specs.Whole.{IsFlow}
use Rattle.nova_admit.specs.declared.plans.Pattern.{Pattern}
use Rattle.nova_admit.specs.declared.fault.AdmitFault.{AdmitFault}
use Rattle.nova_admit.specs.TaskPlans.{kind_of}
use Rattle.nova_admit.specs.Flows.{no_such_channel, channel_at, channels_of, IsWithin, script_fault, pattern_of, HasPattern, HasFault, GivesWithPlan, GivesPattern, HavePatterns, HasFirstFault}

-- ---- the channels of a workflow's tasks
all_each : {A : Type 0} (P : A → Type 0) (xs : List A) → ((k : ℕ) (x : A) → slice_get xs k ≡ Some x → P x) → AllByRecursion P xs
all_each P [] h = tt
all_each P (x ∷ xs) h = (h 0 x refl, all_each P xs (λ k y e. h (suc k) y e))

pub tasks_are_within : (f : Flow) → IsFlow f → AllByRecursion (IsWithin f) f.tasks
tasks_are_within f is =
    all_each (IsWithin f) f.tasks
    (λ k t e. let task = is.tasks k t e in (all_each (λ (i : Input). i.channel < length f.channels) t.inputs (λ j i g. task.inputs j i g), task.output))

some_same : {A : Type 0} (x y : A) → Some x ≡ Some y → x ≡ y
some_same x y e = cc

all_at_place : {A : Type 0} (P : A → Type 0) (xs : List A) (k : ℕ) (x : A) → AllByRecursion P xs → slice_get xs k ≡ Some x → P x
all_at_place P [] k x all e = absurd cc
all_at_place P (y ∷ xs) zero x all e = subst P (some_same y x e) all.0
all_at_place P (y ∷ xs) (suc k) x all e = all_at_place P xs k x all.1 e

pub all_at : {A : Type 0} (P : A → Type 0) (xs : List A) (i : ℕ) (x : A) → AllByRecursion P xs → i < length xs → x ≡ get_or xs i x → P x
all_at P xs i x all h is = all_at_place P xs i x all (slice_get_read xs (length xs) i x refl h is)

-- ---- one task
pub by_plan : (f : Flow) (t : Task) (p : Plan) (r : Result Pattern AdmitFault) → GivesPlan t.script (channels_of f t) (Ok p) → GivesWithPlan f t p r → GivesPattern f t r
by_plan f t p (Ok q) g h = record {
  plan = subst (λ (z : Plan). GivesPlan t.script (channels_of f t) (Ok z)) (sym h.0) g;
  kind = subst (λ (z : Plan). pattern_of f t (Ok z) ≡ Ok (kind_of q)) (sym h.0) h.1;
  key = subst HasOutputKey (sym h.0) h.2;
}
by_plan f t p (Err e) g h = λ other. record { given = Ok p; gives = g; fault = h other }

pub by_script : (f : Flow) (t : Task) (s : ScriptFault) → GivesPlan t.script (channels_of f t) (Err s) → GivesPattern f t (Err (script_fault t.name s))
by_script f t s g = λ other. record { given = Err s; gives = g; fault = refl }

-- ---- one task more
pub one_more : (f : Flow) (ts : List Task) (qs : List Pattern) (t : Task) (q : Pattern) → HavePatterns f ts qs → HasPattern f t q → HavePatterns f (ts ++ t ∷ []) (qs ++ q ∷ [])
one_more f [] [] t q h p = (p, tt)
one_more f [] (r ∷ qs) t q h p = absurd h
one_more f (u ∷ ts) [] t q h p = absurd h
one_more f (u ∷ ts) (r ∷ qs) t q h p = (h.0, one_more f ts qs t q h.1 p)

pub next_pattern : (f : Flow) (ts : List Task) (qs : List Pattern) (i : ℕ) (t : Task) (q : Pattern)
    → i < length ts → t ≡ get_or ts i t → HavePatterns f (take i ts) qs → HasPattern f t q → HavePatterns f (take (i + 1) ts) (qs ++ q ∷ [])
next_pattern f ts qs i t q h is have has =
    subst (λ (us : List Task). HavePatterns f us (qs ++ q ∷ [])) (ap (λ (u : Task). take i ts ++ u ∷ []) is ∙ sym (take_more ts i t h)) (one_more f (take i ts) qs t q have has)

first_fault : (f : Flow) (ts : List Task) (qs : List Pattern) (i : ℕ) (t : Task) (e : AdmitFault)
    → slice_get ts i ≡ Some t → HavePatterns f (take i ts) qs → HasFault f t e → HasFirstFault f ts e
first_fault f [] qs i t e g have fault = absurd cc
first_fault f (u ∷ ts) qs zero t e g have fault = inl (subst (λ (z : Task). HasFault f z e) (sym (some_same u t g)) fault)
first_fault f (u ∷ ts) [] (suc i) t e g have fault = absurd have
first_fault f (u ∷ ts) (r ∷ qs) (suc i) t e g have fault = inr (r, have.0, first_fault f ts qs i t e g have.1 fault)

pub fault_at : (f : Flow) (ts : List Task) (qs : List Pattern) (i : ℕ) (t : Task) (e : AdmitFault)
    → i < length ts → t ≡ get_or ts i t → HavePatterns f (take i ts) qs → HasFault f t e → HasFirstFault f ts e
fault_at f ts qs i t e h is = first_fault f ts qs i t e (slice_get_read ts (length ts) i t refl h is)

-- ---- by number
pub same_count : (f : Flow) (ts : List Task) (qs : List Pattern) → HavePatterns f ts qs → length ts ≡ length qs
same_count f [] [] h = refl
same_count f [] (q ∷ qs) h = absurd h
same_count f (t ∷ ts) [] h = absurd h
same_count f (t ∷ ts) (q ∷ qs) h = ap suc (same_count f ts qs h.1)

pub pattern_at : (f : Flow) (ts : List Task) (qs : List Pattern) (k : ℕ) (t : Task) (q : Pattern)
    → HavePatterns f ts qs → slice_get ts k ≡ Some t → slice_get qs k ≡ Some q → HasPattern f t q
pattern_at f [] qs k t q h e g = absurd cc
pattern_at f (u ∷ ts) [] k t q h e g = absurd h
pattern_at f (u ∷ ts) (r ∷ qs) zero t q h e g = subst (λ (z : Pattern). HasPattern f t z) (some_same r q g) (subst (λ (z : Task). HasPattern f z r) (some_same u t e) h.0)
pattern_at f (u ∷ ts) (r ∷ qs) (suc k) t q h e g = pattern_at f ts qs k t q h.1 e g

-- ---- past the channels
past_end : {A : Type 0} (xs : List A) (n : ℕ) (d : A) → slice_get xs n ≡ None → slice_index_or xs n d ≡ d
past_end [] n d e = refl
past_end (x ∷ xs) zero d e = absurd cc
past_end (x ∷ xs) (suc n) d e = past_end xs n d e

pub no_channel : (f : Flow) (n : ℕ) → slice_get f.channels n ≡ None → channel_at f n ≡ no_such_channel
no_channel f n e = past_end f.channels n no_such_channel e
