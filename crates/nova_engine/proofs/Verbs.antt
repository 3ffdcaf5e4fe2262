-- What lines meet: which are loads, and that numbers are in range.
use Rattle.std.proofs.Common.{refl, ◌≡◌, ℕ, ◌+◌, ◌^◌, ◌<◌, ◌≤◌, List, [], ◌∷◌, Bool, true, false, if◌then◌else◌, Option, Some, None, Result, Ok, Err, length, subst, arith}
use Rattle.std.proofs.lemmas.Bool.Decides.{nat_tests}
use Rattle.std.specs.Prelude.{option_map, IfSome, codes, nat_lt}
use Rattle.std.specs.Str.{bytes_eq}
use Rattle.nova_script.specs.Words.{words_of}
use Rattle.nova_script.specs.Forms.{command_in, command_of, is_load, is_too_long, name_and_numbers, no_word, one_name, one_number, or_unknown, or_wrong_words, takes_lines, verb_of}
use Rattle.nova_script.specs.Session.{Surroundings, asked, begun_task, channel_of, found, idle_task, input_channel, met_by, place_from, unless}
use Rattle.nova_script.specs.declared.command.Command.{Command}
use Rattle.nova_script.specs.declared.command.Command.TheVariants as c
use Rattle.nova_script.specs.declared.context.Request.{Request}
use Rattle.nova_script.specs.declared.context.Request.TheVariants as r
use Rattle.nova_script.specs.declared.forms.Verb.{Verb}
use Rattle.nova_script.specs.declared.forms.Verb.TheVariants as v
use Rattle.nova_script.specs.declared.refusal.Refusal.{Refusal}
use Rattle.nova_script.specs.declared.refusal.Refusal.TheVariants.{ClockBack, InFlight, LineTooLong, NotAnInputChannel, NotInFlight, UnknownChannel, UnknownTask}
use Rattle.nova_building.specs.Building.{built_met, built_only}
use Rattle.nova_machine.proofs.Commanded.{Within, within}
use Rattle.nova_engine.specs.Loading.{AreMet, IsLoadMet, IsMet}

-- ---- ranges

by_name : (b : Bool) (n k : ℕ) (rest : Option ℕ) → 0 < k → IfSome rest (λ p. p < n + k) → IfSome (if b then Some n else rest) (λ p. p < n + k)
by_name true n k rest some is = omega (arith, some)
by_name false n k rest some is = is

place_range : (n : ℕ) (xs : List (List ℕ)) (name : List ℕ) → IfSome (place_from n xs name) (λ p. p < n + length xs)
place_range n [] name = tt
place_range n (x ∷ xs) name =
    let count : n + 1 + length xs ≡ n + length (x ∷ xs) = omega arith in
    by_name (bytes_eq name x) n (length (x ∷ xs)) (place_from (n + 1) xs name) (omega arith)
    (subst (λ m. IfSome (place_from (n + 1) xs name) (λ p. p < m)) count (place_range (n + 1) xs name))

first_range : (xs : List (List ℕ)) (name : List ℕ) → IfSome (place_from 0 xs name) (λ p. p < length xs)
first_range xs name =
    let count : 0 + length xs ≡ length xs = omega arith in
    subst (λ m. IfSome (place_from 0 xs name) (λ p. p < m)) count (place_range 0 xs name)

-- ---- what is met is in range

shown_met : (x : Surroundings) (place : Option ℕ) → IfSome place (λ p. p < length x.channels) → IsMet x (asked r.Show (found UnknownChannel place))
shown_met x None is = tt
shown_met x (Some n) is = is

by_writer : (x : Surroundings) (n : ℕ) (b : Bool) → x.has_writer n ≡ b → n < length x.channels → IsMet x (asked r.Load (if b then Err NotAnInputChannel else Ok n))
by_writer x n true is below = tt
by_writer x n false is below = (below, is)

loaded_met : (x : Surroundings) (place : Option ℕ) → IfSome place (λ p. p < length x.channels) → IsMet x (asked r.Load (unless x.has_writer NotAnInputChannel (found UnknownChannel place)))
loaded_met x None is = tt
loaded_met x (Some n) is = by_writer x n (x.has_writer n) refl is

ticked_met : (x : Surroundings) (m : ℕ) → m ≤ 2 ^ 62 → (b : Bool) → nat_lt m x.moment ≡ b → IsMet x (if b then Err (ClockBack x.moment) else Ok (r.Tick m))
ticked_met x m low true is = tt
ticked_met x m low false is = (grind (arith, nat_tests, is), low)

by_flight : (x : Surroundings) (n : ℕ) (b : Bool) → x.is_in_flight n ≡ b → n < length x.tasks → IsMet x (asked r.Run (if b then Err InFlight else Ok n))
by_flight x n true is below = tt
by_flight x n false is below = (below, is)

ran_met : (x : Surroundings) (place : Option ℕ) → IfSome place (λ p. p < length x.tasks) → IsMet x (asked r.Run (unless x.is_in_flight InFlight (found UnknownTask place)))
ran_met x None is = tt
ran_met x (Some n) is = by_flight x n (x.is_in_flight n) refl is

by_idle : (x : Surroundings) (n : ℕ) (b : Bool) → x.is_in_flight n ≡ b → n < length x.tasks → IsMet x (asked r.Begin (if b then Err InFlight else Ok n))
by_idle x n true is below = tt
by_idle x n false is below = (below, is)

begun_met : (x : Surroundings) (place : Option ℕ) → IfSome place (λ p. p < length x.tasks) → IsMet x (asked r.Begin (unless x.is_in_flight InFlight (found UnknownTask place)))
begun_met x None is = tt
begun_met x (Some n) is = by_idle x n (x.is_in_flight n) refl is

by_begun : (x : Surroundings) (n : ℕ) (b : Bool) → x.is_in_flight n ≡ b → n < length x.tasks → IsMet x (asked r.Drop (if (if b then false else true) then Err NotInFlight else Ok n))
by_begun x n true is below = (below, is)
by_begun x n false is below = tt

dropped_met : (x : Surroundings) (place : Option ℕ) → IfSome place (λ p. p < length x.tasks) → IsMet x (asked r.Drop (unless (λ t. if x.is_in_flight t then false else true) NotInFlight (found UnknownTask place)))
dropped_met x None is = tt
dropped_met x (Some n) is = by_begun x n (x.is_in_flight n) refl is

command_met : (x : Surroundings) (command : Command) → Within command → AreMet x (met_by x (built_only (Ok (Some command))))
command_met x (c.Load name) low = loaded_met x (place_from 0 x.channels name) (first_range x.channels name)
command_met x (c.Tick m) low = ticked_met x m low (nat_lt m x.moment) refl
command_met x (c.Run name) low = ran_met x (place_from 0 x.tasks name) (first_range x.tasks name)
command_met x (c.Begin name) low = begun_met x (place_from 0 x.tasks name) (first_range x.tasks name)
command_met x (c.Finish t) low = tt
command_met x (c.Drop name) low = dropped_met x (place_from 0 x.tasks name) (first_range x.tasks name)
command_met x c.Work low = tt
command_met x (c.Compact name) low = tt
command_met x (c.Chain name from to) low = tt
command_met x c.Collect low = tt
command_met x (c.Show name) low = shown_met x (place_from 0 x.channels name) (first_range x.channels name)
command_met x (c.Blocks name) low = tt

res_met : (x : Surroundings) (line : List ℕ) (res : Result (Option Command) Refusal) → command_of line ≡ res → AreMet x (met_by x (built_only res))
res_met x line (Err refusal) is = tt
res_met x line (Ok None) is = tt
res_met x line (Ok (Some command)) is = command_met x command (within line command is)

pub are_met : (x : Surroundings) (line : List ℕ) → AreMet x (built_met x line)
are_met x line = res_met x line (command_of line) refl

-- ---- loads

abbrev pub IsNoLoad : Result Request Refusal → Type 0
IsNoLoad (Ok (r.Load n)) = ⊥
IsNoLoad _ = Unit {0}

-- what a line meets that is a load, or isn't
abbrev pub IsMetBy : Bool → Option (Result Request Refusal) → Type 0
IsMetBy true None = ⊥
IsMetBy true (Some met) = IsLoadMet met
IsMetBy false None = Unit {0}
IsMetBy false (Some met) = IsNoLoad met

asked_load : (res : Result ℕ Refusal) → IsMetBy true (Some (asked r.Load res))
asked_load (Ok n) = tt
asked_load (Err refusal) = tt

asked_show : (res : Result ℕ Refusal) → IsMetBy false (Some (asked r.Show res))
asked_show (Ok n) = tt
asked_show (Err refusal) = tt

asked_run : (res : Result ℕ Refusal) → IsMetBy false (Some (asked r.Run res))
asked_run (Ok n) = tt
asked_run (Err refusal) = tt

asked_begin : (res : Result ℕ Refusal) → IsMetBy false (Some (asked r.Begin res))
asked_begin (Ok n) = tt
asked_begin (Err refusal) = tt

asked_drop : (res : Result ℕ Refusal) → IsMetBy false (Some (asked r.Drop res))
asked_drop (Ok n) = tt
asked_drop (Err refusal) = tt

asked_tick : (x : Surroundings) (m : ℕ) (b : Bool) → IsMetBy false (Some (if b then Err (ClockBack x.moment) else Ok (r.Tick m)))
asked_tick x m true = tt
asked_tick x m false = tt

abbrev is_load_command : Command → Bool
is_load_command (c.Load name) = true
is_load_command _ = false

request_by : (x : Surroundings) (command : Command) → IsMetBy (is_load_command command) (met_by x (built_only (Ok (Some command))))
request_by x (c.Load name) = asked_load (input_channel x name)
request_by x (c.Tick m) = asked_tick x m (nat_lt m x.moment)
request_by x (c.Run name) = asked_run (idle_task x name)
request_by x (c.Begin name) = asked_begin (idle_task x name)
request_by x (c.Finish t) = tt
request_by x (c.Drop name) = asked_drop (begun_task x name)
request_by x c.Work = tt
request_by x (c.Compact name) = tt
request_by x (c.Chain name from to) = tt
request_by x c.Collect = tt
request_by x (c.Show name) = asked_show (channel_of x name)
request_by x (c.Blocks name) = tt

operands_by : {A : Type 0} (x : Surroundings) (b : Bool) (make : A → Command) (o : Option A) → ((a : A) → IsMetBy b (met_by x (built_only (Ok (Some (make a))))))
    → IsMetBy b (met_by x (built_only (or_wrong_words (option_map make o))))
operands_by x true make None is = tt
operands_by x false make None is = tt
operands_by x b make (Some a) is = is a

word_by : (x : Surroundings) (command : Command) (ws : List (List ℕ)) → IsMetBy false (met_by x (built_only (Ok (Some command))))
    → IsMetBy false (met_by x (built_only (or_wrong_words (no_word command ws))))
word_by x command [] is = is
word_by x command (w ∷ ws) is = tt

abbrev is_load_verb : Option Verb → Bool
is_load_verb (Some v.Load) = true
is_load_verb _ = false

verb_by : (x : Surroundings) (verb : Option Verb) (ws : List (List ℕ)) → IsMetBy (is_load_verb verb) (met_by x (built_only (or_unknown verb ws)))
verb_by x None ws = tt
verb_by x (Some v.Load) ws = operands_by x true c.Load (one_name ws) (λ a. request_by x (c.Load a))
verb_by x (Some v.Tick) ws = operands_by x false c.Tick (one_number ws) (λ a. request_by x (c.Tick a))
verb_by x (Some v.Run) ws = operands_by x false c.Run (one_name ws) (λ a. request_by x (c.Run a))
verb_by x (Some v.Begin) ws = operands_by x false c.Begin (one_name ws) (λ a. request_by x (c.Begin a))
verb_by x (Some v.Finish) ws = operands_by x false c.Finish (one_name ws) (λ a. request_by x (c.Finish a))
verb_by x (Some v.Drop) ws = operands_by x false c.Drop (one_name ws) (λ a. request_by x (c.Drop a))
verb_by x (Some v.Work) ws = word_by x c.Work ws tt
verb_by x (Some v.Compact) ws = operands_by x false c.Compact (one_name ws) (λ a. request_by x (c.Compact a))
verb_by x (Some v.Chain) ws = operands_by x false (λ p. c.Chain p.0 p.1.0 p.1.1) (name_and_numbers ws) (λ a. request_by x (c.Chain a.0 a.1.0 a.1.1))
verb_by x (Some v.Collect) ws = word_by x c.Collect ws tt
verb_by x (Some v.Show) ws = operands_by x false c.Show (one_name ws) (λ a. request_by x (c.Show a))
verb_by x (Some v.Blocks) ws = operands_by x false c.Blocks (one_name ws) (λ a. request_by x (c.Blocks a))

first_verb : (b : Bool) (rest : Option Verb) → is_load_verb rest ≡ false → is_load_verb (if b then Some v.Load else rest) ≡ b
first_verb true rest is = refl
first_verb false rest is = is

other_verb : (b : Bool) (verb : Verb) (rest : Option Verb) → is_load_verb (Some verb) ≡ false → is_load_verb rest ≡ false → is_load_verb (if b then Some verb else rest) ≡ false
other_verb true verb rest own is = own
other_verb false verb rest own is = is

verb_load : (w : List ℕ) → is_load_verb (verb_of w) ≡ bytes_eq w (codes "load")
verb_load w =
    first_verb (bytes_eq w (codes "load")) _
    (other_verb (bytes_eq w (codes "tick")) v.Tick _ refl
    (other_verb (bytes_eq w (codes "run")) v.Run _ refl
    (other_verb (bytes_eq w (codes "begin")) v.Begin _ refl
    (other_verb (bytes_eq w (codes "finish")) v.Finish _ refl
    (other_verb (bytes_eq w (codes "drop")) v.Drop _ refl
    (other_verb (bytes_eq w (codes "work")) v.Work _ refl
    (other_verb (bytes_eq w (codes "compact")) v.Compact _ refl
    (other_verb (bytes_eq w (codes "chain")) v.Chain _ refl
    (other_verb (bytes_eq w (codes "collect")) v.Collect _ refl
    (other_verb (bytes_eq w (codes "show")) v.Show _ refl
    (other_verb (bytes_eq w (codes "blocks")) v.Blocks None refl refl)))))))))))

words_by : (x : Surroundings) (ws : List (List ℕ)) → IsMetBy (takes_lines ws) (met_by x (built_only (command_in ws)))
words_by x [] = tt
words_by x (w ∷ ws) = subst (λ b. IsMetBy b (met_by x (built_only (or_unknown (verb_of w) ws)))) (verb_load w) (verb_by x (verb_of w) ws)

length_by : (x : Surroundings) (long : Bool) (ws : List (List ℕ)) → IsMetBy (if long then false else takes_lines ws) (met_by x (built_only (if long then Err LineTooLong else command_in ws)))
length_by x true ws = tt
length_by x false ws = words_by x ws

pub met_is : (x : Surroundings) (line : List ℕ) → IsMetBy (is_load line) (built_met x line)
met_is x line = length_by x (is_too_long line) (words_of line)

-- a line that is a load meets a channel to load or a refusal
pub load_met : (x : Surroundings) (line : List ℕ) (met : Result Request Refusal) → is_load line ≡ true → built_met x line ≡ Some met → IsLoadMet met
load_met x line met load is = subst (λ o. IsMetBy true o) is (subst (λ b. IsMetBy b (built_met x line)) load (met_is x line))

-- one that is none meets no load
pub alone_met : (x : Surroundings) (line : List ℕ) (met : Result Request Refusal) → is_load line ≡ false → built_met x line ≡ Some met → IsNoLoad met
alone_met x line met load is = subst (λ o. IsMetBy false o) is (subst (λ b. IsMetBy b (built_met x line)) load (met_is x line))

-- one that meets nothing is no load
none_met : (x : Surroundings) (b : Bool) → IsMetBy b None → b ≡ false
none_met x true is = absurd is
none_met x false is = refl

pub blank_met : (x : Surroundings) (line : List ℕ) → built_met x line ≡ None → is_load line ≡ false
blank_met x line is = none_met x (is_load line) (subst (λ o. IsMetBy (is_load line) o) is (met_is x line))
