-- The commands of a session make only steps that can be made.
use Rattle.std.proofs.Common.{◌≡◌, ℕ, zero, suc, ◌+◌, ◌^◌, ◌<◌, ◌≤◌, ◌==◌, Bool, true, false, not, ◌&&◌, ◌||◌, List, [], ◌∷◌, ◌++◌, length, map, Option, Some, None, Result, Ok, Err, refl, ap, sym, ◌∙◌, subst, arith, if◌then◌else◌}
use Rattle.std.specs.Prelude.{is_some, is_none, nat_le, nat_lt, option_map}
use Rattle.std.specs.List.{AllByRecursion}
use Rattle.std.specs.Str.{bytes_eq}
use Rattle.std.proofs.lemmas.Bool.Decides.{nat_tests}
use Rattle.nova_value.specs.declared.fault.RowFault.{RowFault}
use Rattle.nova_value.specs.declared.schema.Entry.{Entry}
use Rattle.nova_value.specs.Entries.{FitsEntry}
use Rattle.nova_value.specs.Line.{is_numeral, number_after, row_of_text}
use Rattle.nova_value.specs.Rows.{Shape}
use Rattle.nova_value.specs.Text.{has_newline}
use Rattle.nova_value.proofs.LineFits.{row_fits}
use Rattle.nova_workflow.specs.declared.flow.Channel.{Channel}
use Rattle.nova_workflow.specs.declared.flow.Task.{Task}
use Rattle.nova_script.specs.Words.{push_front, words_of}
use Rattle.nova_script.specs.Forms.{command_in, command_of, is_dot, is_load, is_number, is_too_long, name_and_numbers, number_of, one_name, one_number, or_unknown, or_wrong_words, verb_of, with_operands}
use Rattle.nova_script.specs.Session.{Item, Alone, WithRows, alone, asked, begun_task, channel_of, found, has_dot, idle_task, input_channel, items_from, met_by, place_from, request_of, rows_before_dot, task_of, unless}
use Rattle.nova_script.specs.declared.command.Command.{Command}
use Rattle.nova_script.specs.declared.command.Command.TheVariants as c
use Rattle.nova_script.specs.declared.context.Request.{Request}
use Rattle.nova_script.specs.declared.context.Request.TheVariants as r
use Rattle.nova_script.specs.declared.forms.Verb.{Verb}
use Rattle.nova_script.specs.declared.forms.Verb.TheVariants as v
use Rattle.nova_script.specs.declared.refusal.Refusal.{Refusal}
use Rattle.nova_script.specs.declared.refusal.Refusal.TheVariants.{UnknownChannel, UnknownTask, NotAnInputChannel, ClockBack, InFlight, NotInFlight, LineTooLong, BadRange}
use Rattle.nova_machine.specs.Workflow.{Workflow, channel_in, is_input, schema_in, task_in}
use Rattle.nova_machine.specs.State.{State, is_in_flight}
use Rattle.nova_machine.specs.Due.{is_due, is_ready, last_run, capture_of}
use Rattle.nova_machine.specs.Needed.{indices}
use Rattle.nova_machine.specs.Steps.{Step, Run, Chain, after, after_all, may_begin, may_chain}
use Rattle.nova_machine.specs.Lines.{lines_of}
use Rattle.nova_machine.specs.Commands.{around, asked_steps, commands_of, load_steps, loaded_channel, loaded_steps, met_steps, read_before, read_rows, refused, rows_for, steps, steps_of, work_steps}
use Rattle.nova_machine.specs.Reachable.{AllMade, IsReachable}
use Rattle.nova_machine.specs.ReachableLaws.{CommandsMakeSteps, SessionsReach}
use Rattle.nova_machine.proofs.Turns.{flow_after}
use Rattle.nova_machine.proofs.Ended.{made_both}
use Rattle.nova_machine.proofs.Reached.{reachable_more}

both_true : (a b : Bool) → (a && b) ≡ true → (a ≡ true) × (b ≡ true)
both_true true b e = (refl, e)
both_true false b e = absurd cc

and_true : (a b : Bool) → a ≡ true → b ≡ true → (a && b) ≡ true
and_true true b e f = f
and_true false b e f = absurd cc

at_most : (a b : ℕ) → nat_le a b ≡ true → a ≤ b
at_most a b e = grind (arith, nat_tests, e)

-- ---- what a request that isn't refused asks of the state

abbrev pub Asks : State → Request → Type 0
Asks s (r.Load n) = (n < length s.flow.channels) × (is_input s.flow n ≡ true)
Asks s (r.Tick m) = (s.moment ≤ m) × (m ≤ 2 ^ 62)
Asks s (r.Run t) = may_begin s t ≡ true
Asks s (r.Begin t) = may_begin s t ≡ true
Asks s (r.Finish t) = (t < length s.flow.tasks) × (is_in_flight s t ≡ true)
Asks s (r.Drop t) = (t < length s.flow.tasks) × (is_in_flight s t ≡ true)
Asks s r.Work = Unit {0}
Asks s (r.Compact n) = n < length s.flow.channels
Asks s (r.Chain n i j) = n < length s.flow.channels
Asks s r.Collect = Unit {0}
Asks s (r.Show n) = n < length s.flow.channels
Asks s (r.Blocks n) = n < length s.flow.channels

place_below : (k : ℕ) (names : List (List ℕ)) (name : List ℕ) (n : ℕ) → place_from k names name ≡ Some n → n < k + length names
place_below k [] name n e = absurd cc
place_below k (x ∷ xs) name n e = go (bytes_eq name x) e (place_below (k + 1) xs name n)
  where
    go : (b : Bool) → (if b then Some k else place_from (k + 1) xs name) ≡ Some n → (place_from (k + 1) xs name ≡ Some n → n < (k + 1) + length xs) → n < k + length (x ∷ xs)
    go true f rest = let here : k ≡ n = cc in omega (arith, here)
    go false f rest = let low = rest f in omega (arith, low)

found_at : (refusal : Refusal) (o : Option ℕ) (n : ℕ) → found refusal o ≡ Ok n → o ≡ Some n
found_at refusal None n e = absurd cc
found_at refusal (Some m) n e = let same : m ≡ n = cc in ap Some same

channel_names : (cs : List Channel) → length (map (λ (x : Channel). x.name) cs) ≡ length cs
channel_names [] = refl
channel_names (x ∷ cs) = ap suc (channel_names cs)

task_names : (ts : List Task) → length (map (λ (x : Task). x.name) ts) ≡ length ts
task_names [] = refl
task_names (x ∷ ts) = ap suc (task_names ts)

channel_below : (s : State) (name : List ℕ) (n : ℕ) → channel_of (around s) name ≡ Ok n → n < length s.flow.channels
channel_below s name n e =
    let low = place_below 0 (map (λ (x : Channel). x.name) s.flow.channels) name n (found_at UnknownChannel (place_from 0 (map (λ (x : Channel). x.name) s.flow.channels) name) n e) in
    let count = channel_names s.flow.channels in
    omega (arith, low, count)

task_below : (s : State) (name : List ℕ) (n : ℕ) → task_of (around s) name ≡ Ok n → n < length s.flow.tasks
task_below s name n e =
    let low = place_below 0 (map (λ (x : Task). x.name) s.flow.tasks) name n (found_at UnknownTask (place_from 0 (map (λ (x : Task). x.name) s.flow.tasks) name) n e) in
    let count = task_names s.flow.tasks in
    omega (arith, low, count)

unless_ok : (test : ℕ → Bool) (refusal : Refusal) (o : Result ℕ Refusal) (n : ℕ) → unless test refusal o ≡ Ok n → (o ≡ Ok n) × (test n ≡ false)
unless_ok test refusal (Err x) n e = absurd cc
unless_ok test refusal (Ok m) n e = go (test m) refl e
  where
    go : (b : Bool) → test m ≡ b → (if b then Err refusal else Ok m) ≡ Ok n → (◌≡◌ {A = Result ℕ Refusal} (Ok m) (Ok n)) × (test n ≡ false)
    go true is f = absurd cc
    go false is f = let same : m ≡ n = cc in (f, ap test (sym same) ∙ is)

asked_ok : (make : ℕ → Request) (o : Result ℕ Refusal) (q : Request) → asked make o ≡ Ok q → (n : ℕ) × (o ≡ Ok n) × (make n ≡ q)
asked_ok make (Err x) q e = absurd cc
asked_ok make (Ok n) q e = let same : make n ≡ q = cc in (n, refl, same)

no_writer : (o : Option ℕ) → is_some o ≡ false → is_none o ≡ true
no_writer None e = refl
no_writer (Some t) e = absurd cc

turned : (b : Bool) → (if b then false else true) ≡ false → b ≡ true
turned true e = refl
turned false e = absurd cc

-- a task that isn't in flight may begin
pub begins : (s : State) (t : ℕ) → t < length s.flow.tasks → is_in_flight s t ≡ false → may_begin s t ≡ true
begins s t low idle = and_true (nat_lt t (length s.flow.tasks)) (not (is_in_flight s t)) (grind (arith, nat_tests, low)) (ap not idle)

idle_begins : (s : State) (name : List ℕ) (t : ℕ) → idle_task (around s) name ≡ Ok t → may_begin s t ≡ true
idle_begins s name t e =
    let u = unless_ok (is_in_flight s) InFlight (task_of (around s) name) t e in
    begins s t (task_below s name t u.0) u.1

begun_flies : (s : State) (name : List ℕ) (t : ℕ) → begun_task (around s) name ≡ Ok t → (t < length s.flow.tasks) × (is_in_flight s t ≡ true)
begun_flies s name t e =
    let u = unless_ok (λ t. if is_in_flight s t then false else true) NotInFlight (task_of (around s) name) t e in
    (task_below s name t u.0, turned (is_in_flight s t) u.1)

-- the number of a tick has its bound by its form
abbrev pub Within : Command → Type 0
Within (c.Tick m) = m ≤ 2 ^ 62
Within (c.Load name) = Unit {0}
Within (c.Run name) = Unit {0}
Within (c.Begin name) = Unit {0}
Within (c.Finish name) = Unit {0}
Within (c.Drop name) = Unit {0}
Within c.Work = Unit {0}
Within (c.Compact name) = Unit {0}
Within (c.Chain name i j) = Unit {0}
Within c.Collect = Unit {0}
Within (c.Show name) = Unit {0}
Within (c.Blocks name) = Unit {0}

tick_asks : (s : State) (m : ℕ) → m ≤ 2 ^ 62 → (q : Request) (b : Bool) → nat_lt m s.moment ≡ b → (if b then Err (ClockBack s.moment) else Ok (r.Tick m)) ≡ Ok q → Asks s q
tick_asks s m low q true is e = absurd cc
tick_asks s m low q false is e = let same : r.Tick m ≡ q = cc in let le : s.moment ≤ m = grind (arith, nat_tests, is) in subst (Asks s) same (le, low)

pub asks : (s : State) (command : Command) → Within command → (q : Request) → request_of (around s) command ≡ Ok q → Asks s q
asks s (c.Load name) low q e =
    let a = asked_ok r.Load (input_channel (around s) name) q e in
    let u = unless_ok (λ n. is_some (channel_in s.flow n).writer) NotAnInputChannel (channel_of (around s) name) a.0 a.1 in
    subst (Asks s) a.2 (channel_below s name a.0 u.0, no_writer (channel_in s.flow a.0).writer u.1)
asks s (c.Tick m) low q e = tick_asks s m low q (nat_lt m s.moment) refl e
asks s (c.Run name) low q e = let a = asked_ok r.Run (idle_task (around s) name) q e in subst (Asks s) a.2 (idle_begins s name a.0 a.1)
asks s (c.Begin name) low q e = let a = asked_ok r.Begin (idle_task (around s) name) q e in subst (Asks s) a.2 (idle_begins s name a.0 a.1)
asks s (c.Finish name) low q e = let a = asked_ok r.Finish (begun_task (around s) name) q e in subst (Asks s) a.2 (begun_flies s name a.0 a.1)
asks s (c.Drop name) low q e = let a = asked_ok r.Drop (begun_task (around s) name) q e in subst (Asks s) a.2 (begun_flies s name a.0 a.1)
asks s c.Work low q e = let same : r.Work ≡ q = cc in subst (Asks s) same tt
asks s (c.Compact name) low q e = let a = asked_ok r.Compact (channel_of (around s) name) q e in subst (Asks s) a.2 (channel_below s name a.0 a.1)
asks s (c.Chain name i j) low q e = let a = asked_ok (λ n. r.Chain n i j) (channel_of (around s) name) q e in subst (Asks s) a.2 (channel_below s name a.0 a.1)
asks s c.Collect low q e = let same : r.Collect ≡ q = cc in subst (Asks s) same tt
asks s (c.Show name) low q e = let a = asked_ok r.Show (channel_of (around s) name) q e in subst (Asks s) a.2 (channel_below s name a.0 a.1)
asks s (c.Blocks name) low q e = let a = asked_ok r.Blocks (channel_of (around s) name) q e in subst (Asks s) a.2 (channel_below s name a.0 a.1)

-- ---- lines

mapped : {A : Type 0} (f : A → Command) (o : Option A) (d : Command) → ((a : A) → o ≡ Some a → Within (f a)) → option_map f o ≡ Some d → Within d
mapped f None d is e = absurd cc
mapped f (Some a) d is e = let same : f a ≡ d = cc in subst Within same (is a refl)

bounded : (w : List ℕ) (m : ℕ) → number_of w ≡ Some m → m ≤ 2 ^ 62
bounded w m e = go (is_number w) refl e
  where
    go : (b : Bool) → is_number w ≡ b → (if b then Some (number_after 0 w) else None) ≡ Some m → m ≤ 2 ^ 62
    go true is f =
        let same : number_after 0 w ≡ m = cc in
        subst (λ n. n ≤ 2 ^ 62) same (at_most (number_after 0 w) (2 ^ 62) (both_true (is_numeral w) (nat_le (number_after 0 w) (2 ^ 62)) is).1)
    go false is f = absurd cc

one_bounded : (ws : List (List ℕ)) (m : ℕ) → one_number ws ≡ Some m → m ≤ 2 ^ 62
one_bounded [] m e = absurd cc
one_bounded (w ∷ []) m e = bounded w m e
one_bounded (w ∷ (x ∷ ws)) m e = absurd cc

operands : (verb : Verb) (ws : List (List ℕ)) (d : Command) → with_operands verb ws ≡ Some d → Within d
operands v.Load ws d e = mapped c.Load (one_name ws) d (λ a f. tt) e
operands v.Tick ws d e = mapped c.Tick (one_number ws) d (λ a f. one_bounded ws a f) e
operands v.Run ws d e = mapped c.Run (one_name ws) d (λ a f. tt) e
operands v.Begin ws d e = mapped c.Begin (one_name ws) d (λ a f. tt) e
operands v.Finish ws d e = mapped c.Finish (one_name ws) d (λ a f. tt) e
operands v.Drop ws d e = mapped c.Drop (one_name ws) d (λ a f. tt) e
operands v.Work [] d e = let same : c.Work ≡ d = cc in subst Within same tt
operands v.Work (w ∷ ws) d e = absurd cc
operands v.Compact ws d e = mapped c.Compact (one_name ws) d (λ a f. tt) e
operands v.Chain ws d e = mapped (λ p. c.Chain p.0 p.1.0 p.1.1) (name_and_numbers ws) d (λ a f. tt) e
operands v.Collect [] d e = let same : c.Collect ≡ d = cc in subst Within same tt
operands v.Collect (w ∷ ws) d e = absurd cc
operands v.Show ws d e = mapped c.Show (one_name ws) d (λ a f. tt) e
operands v.Blocks ws d e = mapped c.Blocks (one_name ws) d (λ a f. tt) e

right_words : (o : Option Command) (d : Command) → or_wrong_words o ≡ Ok (Some d) → o ≡ Some d
right_words None d e = absurd cc
right_words (Some x) d e = let same : x ≡ d = cc in ap (λ (z : Command). let o : Option Command = Some z in o) same

known : (o : Option Verb) (ws : List (List ℕ)) (d : Command) → or_unknown o ws ≡ Ok (Some d) → Within d
known None ws d e = absurd cc
known (Some verb) ws d e = operands verb ws d (right_words (with_operands verb ws) d e)

in_words : (ws : List (List ℕ)) (d : Command) → command_in ws ≡ Ok (Some d) → Within d
in_words [] d e = absurd cc
in_words (w ∷ ws) d e = known (verb_of w) ws d e

pub within : (line : List ℕ) (d : Command) → command_of line ≡ Ok (Some d) → Within d
within line d e = go (is_too_long line) e
  where
    go : (b : Bool) → (if b then Err LineTooLong else command_in (words_of line)) ≡ Ok (Some d) → Within d
    go true f = absurd cc
    go false f = in_words (words_of line) d f

-- what a line that isn't refused asks for
line_asks : (s : State) (line : List ℕ) (q : Request) → met_by (around s) (command_of line) ≡ Some (Ok q) → Asks s q
line_asks s line q e = go (command_of line) refl e
  where
    go : (m : Result (Option Command) Refusal) → command_of line ≡ m → met_by (around s) m ≡ Some (Ok q) → Asks s q
    go (Err x) is f = absurd cc
    go (Ok None) is f = absurd cc
    go (Ok (Some d)) is f = let same : request_of (around s) d ≡ Ok q = cc in asks s d (within line d is) q same

-- ---- the steps of a request

all_with : (P : ℕ → Type 0) (xs : List ℕ) (x : ℕ) → AllByRecursion P xs → P x → AllByRecursion P (xs ++ x ∷ [])
all_with P [] x all p = (p, tt)
all_with P (y ∷ ys) x all p = (all.0, all_with P ys x all.1 p)

all_below : (n m : ℕ) → n ≤ m → AllByRecursion (λ t. t < m) (indices n)
all_below zero m le = tt
all_below (suc n) m le = all_with (λ t. t < m) (indices n) n (all_below n m (omega arith)) (omega arith)

due_begins : (s : State) (t : ℕ) → t < length s.flow.tasks → is_due s t ≡ true → may_begin s t ≡ true
due_begins s t low is =
    and_true (nat_lt t (length s.flow.tasks)) (not (is_in_flight s t)) (grind (arith, nat_tests, low))
    (both_true (not (is_in_flight s t)) (is_ready (task_in s.flow t).trigger (last_run s t) (capture_of s t)) is).0

work_step : (s : State) (t : ℕ) (xs ys : List Step) (b : Bool) → is_due s t ≡ b → t < length s.flow.tasks → AllMade (after s (Run t)) xs → AllMade s ys → AllMade s (if b then Run t ∷ xs else ys)
work_step s t xs ys true is low then_made else_made = (due_begins s t low is, then_made)
work_step s t xs ys false is low then_made else_made = else_made

work_made : (s : State) (ran : ℕ) (ts : List ℕ) → AllByRecursion (λ t. t < length s.flow.tasks) ts → AllMade s (work_steps s ran ts)
work_made s ran [] all = (tt, tt)
work_made s ran (t ∷ ts) all =
    work_step s t (work_steps (after s (Run t)) (suc ran) ts) (work_steps s ran ts) (is_due s t) refl all.0
    (work_made (after s (Run t)) (suc ran) ts (subst (λ (w : Workflow). AllByRecursion (λ t. t < length w.tasks) ts) (sym (flow_after s (Run t))) all.1))
    (work_made s ran ts all.1)

chain_made : (s : State) (n i j : ℕ) → n < length s.flow.channels → (b : Bool) → may_chain s n i j ≡ b → AllMade s (if b then Chain n i j ∷ [] else refused BadRange)
chain_made s n i j low true is = ((low, is), tt)
chain_made s n i j low false is = (tt, tt)

asked_made : (s : State) (q : Request) → Asks s q → AllMade s (asked_steps s q)
asked_made s (r.Load n) p = ((p.0, p.1, tt), tt)
asked_made s (r.Tick m) p = (p, tt)
asked_made s (r.Run t) p = (p, tt)
asked_made s (r.Begin t) p = (p, tt)
asked_made s (r.Finish t) p = (p, tt)
asked_made s (r.Drop t) p = (p, tt)
asked_made s r.Work p = work_made s 0 (indices (length s.flow.tasks)) (all_below (length s.flow.tasks) (length s.flow.tasks) (omega arith))
asked_made s (r.Compact n) p = (p, tt)
asked_made s (r.Chain n i j) p = chain_made s n i j p (may_chain s n i j) refl
asked_made s r.Collect p = (tt, tt)
asked_made s (r.Show n) p = (p, tt)
asked_made s (r.Blocks n) p = (p, tt)

pub met_made : (s : State) (o : Option (Result Request Refusal)) → ((q : Request) → o ≡ Some (Ok q) → Asks s q) → AllMade s (met_steps s o)
met_made s None is = tt
met_made s (Some (Err x)) is = (tt, tt)
met_made s (Some (Ok q)) is = asked_made s q (is q refl)

-- ---- loads

abbrev pub Clean : List ℕ → Type 0
Clean line = has_newline line ≡ false

fit_before : (schema : Shape) (n : ℕ) (o : Result Entry RowFault) (rest : Result (List Entry) ℕ) → ((e : Entry) → o ≡ Ok e → FitsEntry schema e)
    → ((fs : List Entry) → rest ≡ Ok fs → AllByRecursion (FitsEntry schema) fs) → (es : List Entry) → read_before n o rest ≡ Ok es → AllByRecursion (FitsEntry schema) es
fit_before schema n (Err x) rest f g es e = absurd cc
fit_before schema n (Ok x) (Err k) f g es e = absurd cc
fit_before schema n (Ok x) (Ok fs) f g es e = let same : x ∷ fs ≡ es = cc in subst (AllByRecursion (FitsEntry schema)) same (f x refl, g fs refl)

rows_fit : (schema : Shape) (n : ℕ) (rows : List (List ℕ)) → AllByRecursion Clean rows → (es : List Entry) → read_rows schema n rows ≡ Ok es → AllByRecursion (FitsEntry schema) es
rows_fit schema n [] clean es e = let same : [] ≡ es = cc in subst (AllByRecursion (FitsEntry schema)) same tt
rows_fit schema n (l ∷ ls) clean es e =
    fit_before schema n (row_of_text l schema) (read_rows schema (n + 1) ls) (λ x is. row_fits l schema x clean.0 is) (rows_fit schema (n + 1) ls clean.1) es e

unnamed_made : (s : State) (read : Result (List Entry) ℕ) (end : Result Request Refusal) → AllMade s (loaded_steps None read end)
unnamed_made s read (Err x) = (tt, tt)
unnamed_made s (Ok es) (Ok q) = tt
unnamed_made s (Err k) (Ok q) = tt

named_made : (s : State) (n : ℕ) (read : Result (List Entry) ℕ) → Asks s (r.Load n) → ((es : List Entry) → read ≡ Ok es → AllByRecursion (FitsEntry (schema_in s.flow n)) es)
    → (end : Result Request Refusal) → AllMade s (loaded_steps (Some n) read end)
named_made s n read p fit (Err x) = (tt, tt)
named_made s n (Ok es) p fit (Ok q) = ((p.0, p.1, fit es refl), tt)
named_made s n (Err k) p fit (Ok q) = tt

by_channel : (s : State) (rows : List (List ℕ)) → AllByRecursion Clean rows → (o : Option ℕ) → ((n : ℕ) → o ≡ Some n → Asks s (r.Load n)) → (end : Result Request Refusal) → AllMade s (loaded_steps o (rows_for s o rows) end)
by_channel s rows clean None p end = unnamed_made s (Ok []) end
by_channel s rows clean (Some n) p end = named_made s n (read_rows (schema_in s.flow n) 1 rows) (p n refl) (rows_fit (schema_in s.flow n) 1 rows clean) end

load_asks : (s : State) (met : Result Request Refusal) (n : ℕ) → ((q : Request) → met ≡ Ok q → Asks s q) → loaded_channel met ≡ Some n → Asks s (r.Load n)
load_asks s (Err x) n p e = absurd cc
load_asks s (Ok (r.Load m)) n p e = let same : m ≡ n = cc in subst (λ k. Asks s (r.Load k)) same (p (r.Load m) refl)
load_asks s (Ok (r.Tick m)) n p e = absurd cc
load_asks s (Ok (r.Run t)) n p e = absurd cc
load_asks s (Ok (r.Begin t)) n p e = absurd cc
load_asks s (Ok (r.Finish t)) n p e = absurd cc
load_asks s (Ok (r.Drop t)) n p e = absurd cc
load_asks s (Ok r.Work) n p e = absurd cc
load_asks s (Ok (r.Compact m)) n p e = absurd cc
load_asks s (Ok (r.Chain m i j)) n p e = absurd cc
load_asks s (Ok r.Collect) n p e = absurd cc
load_asks s (Ok (r.Show m)) n p e = absurd cc
load_asks s (Ok (r.Blocks m)) n p e = absurd cc

pub load_made : (s : State) (o : Option (Result Request Refusal)) → ((q : Request) → o ≡ Some (Ok q) → Asks s q) → (rows : List (List ℕ)) → AllByRecursion Clean rows → (is_ended : Bool) → AllMade s (load_steps s o rows is_ended)
load_made s None p rows clean is_ended = tt
load_made s (Some met) p rows clean is_ended =
    by_channel s rows clean (loaded_channel met) (λ n e. load_asks s met n (λ q is. p q (ap (λ (m : Result Request Refusal). let o : Option (Result Request Refusal) = Some m in o) is)) e) _

-- ---- commands

abbrev pub CleanItem : Item → Type 0
CleanItem (Alone line) = Unit {0}
CleanItem (WithRows line rows is_ended) = AllByRecursion Clean rows

item_made : (s : State) (x : Item) → CleanItem x → AllMade s (steps_of s x)
item_made s (Alone line) clean = met_made s (met_by (around s) (command_of line)) (line_asks s line)
item_made s (WithRows line rows is_ended) clean = load_made s (met_by (around s) (command_of line)) (line_asks s line) rows clean is_ended

items_made : (s : State) (xs : List Item) → AllByRecursion CleanItem xs → AllMade s (steps s xs)
items_made s [] clean = tt
items_made s (x ∷ xs) clean = made_both s (steps_of s x) (steps (after_all s (steps_of s x)) xs) (item_made s x clean.0) (items_made (after_all s (steps_of s x)) xs clean.1)

-- ---- the lines of a session hold no newline

pushed : (b : ℕ) → (b == 10) ≡ false → (ls : List (List ℕ)) → AllByRecursion Clean ls → AllByRecursion Clean (push_front b ls)
pushed b other [] clean = (ap (λ x. x || false) other, tt)
pushed b other (l ∷ ls) clean = (ap (λ x. x || has_newline l) other ∙ clean.0, clean.1)

one_line : (b : ℕ) (ls : List (List ℕ)) (x : Bool) → (b == 10) ≡ x → AllByRecursion Clean ls → AllByRecursion Clean (if x then [] ∷ ls else push_front b ls)
one_line b ls true is clean = (refl, clean)
one_line b ls false is clean = pushed b is ls clean

lines_clean : (bytes : List ℕ) → AllByRecursion Clean (lines_of bytes)
lines_clean [] = tt
lines_clean (b ∷ bs) = one_line b (lines_of bs) (b == 10) refl (lines_clean bs)

either_way : {X : Type 0} (P : X → Type 0) (b : Bool) (x y : X) → P x → P y → P (if b then x else y)
either_way P true x y p q = p
either_way P false x y p q = q

rows_clean : (ls : List (List ℕ)) → AllByRecursion Clean ls → AllByRecursion Clean (rows_before_dot ls)
rows_clean [] clean = tt
rows_clean (l ∷ ls) clean = either_way (AllByRecursion Clean) (is_dot l) [] (l ∷ rows_before_dot ls) tt (clean.0, rows_clean ls clean.1)

alone_clean : (line : List ℕ) (m : Result (Option Command) Refusal) (xs : List Item) → AllByRecursion CleanItem xs → AllByRecursion CleanItem (alone line m ++ xs)
alone_clean line (Ok None) xs clean = clean
alone_clean line (Ok (Some d)) xs clean = (tt, clean)
alone_clean line (Err x) xs clean = (tt, clean)

items_clean : (inside : Bool) (ls : List (List ℕ)) → AllByRecursion Clean ls → AllByRecursion CleanItem (items_from inside ls)
items_clean true [] clean = tt
items_clean false [] clean = tt
items_clean true (l ∷ ls) clean = either_way (AllByRecursion CleanItem) (is_dot l) (items_from false ls) (items_from true ls) (items_clean false ls clean.1) (items_clean true ls clean.1)
items_clean false (l ∷ ls) clean =
    either_way (AllByRecursion CleanItem) (is_load l) (WithRows l (rows_before_dot ls) (has_dot ls) ∷ items_from true ls) (alone l (command_of l) ++ items_from false ls)
    (rows_clean ls clean.1, items_clean true ls clean.1) (alone_clean l (command_of l) (items_from false ls) (items_clean false ls clean.1))

-- the commands of a session have rows of single lines
pub commands_clean : (bytes : List ℕ) → AllByRecursion CleanItem (commands_of bytes)
commands_clean bytes = items_clean false (lines_of bytes) (lines_clean bytes)

pub commands_make_steps : CommandsMakeSteps
commands_make_steps s bytes = items_made s (commands_of bytes) (commands_clean bytes)

pub reach_all : (s : State) (xs : List Step) → IsReachable s → AllMade s xs → IsReachable (after_all s xs)
reach_all s [] at made = at
reach_all s (x ∷ xs) at made = reach_all (after s x) xs (reachable_more s x at made.0) made.1

pub sessions_reach : SessionsReach
sessions_reach s bytes at = reach_all s (steps s (commands_of bytes)) at (commands_make_steps s bytes)
