-- The commands of a session: the forms of their words, one case each, and what a line reads as.
use Rattle.std.specs.Prelude.{ℕ, ◌^◌, nat_le, nat_lt, Bool, false, ◌&&◌, List, [], ◌∷◌, length, take, codes, Option, Some, None, option_map, Result, Ok, Err, if◌then◌else◌}
use Rattle.std.specs.Str.{bytes_eq}
use Rattle.nova_value.specs.Line.{is_numeral, number_after}
use Rattle.nova_name.specs.Names.{name_of}
use Rattle.nova_script.specs.Words.{words_of}
use Rattle.nova_script.specs.declared.command.Command.{Command}
use Rattle.nova_script.specs.declared.command.Command.TheVariants as c
use Rattle.nova_script.specs.declared.forms.Verb.{Verb}
use Rattle.nova_script.specs.declared.forms.Verb.TheVariants as v
use Rattle.nova_script.specs.declared.refusal.Refusal.{Refusal}
use Rattle.nova_script.specs.declared.refusal.Refusal.TheVariants.{UnknownCommand, WrongWords, LineTooLong}

-- ---- numbers

-- a number: digits alone, at most 2^62; leading zeros are allowed
abbrev pub is_number : List ℕ → Bool
is_number w = is_numeral w && nat_le (number_after 0 w) (2 ^ 62)

abbrev pub number_of : List ℕ → Option ℕ
number_of w = if is_number w then Some (number_after 0 w) else None

-- ---- the forms of the words behind a command's first one

-- exactly one name
abbrev pub one_name : List (List ℕ) → Option (List ℕ)
one_name [] = None
one_name (w ∷ []) = name_of w
one_name (w ∷ (x ∷ ws)) = None

-- exactly one number
abbrev pub one_number : List (List ℕ) → Option ℕ
one_number [] = None
one_number (w ∷ []) = number_of w
one_number (w ∷ (x ∷ ws)) = None

abbrev pub paired : {A B : Type 0} → Option A → Option B → Option (A × B)
paired None y = None
paired (Some a) y = option_map (λ b. (a, b)) y

-- exactly two numbers
abbrev pub two_numbers : List (List ℕ) → Option (ℕ × ℕ)
two_numbers [] = None
two_numbers (w ∷ ws) = paired (number_of w) (one_number ws)

-- exactly a name and two numbers
abbrev pub name_and_numbers : List (List ℕ) → Option (List ℕ × (ℕ × ℕ))
name_and_numbers [] = None
name_and_numbers (w ∷ ws) = paired (name_of w) (two_numbers ws)

-- no word
abbrev pub no_word : Command → List (List ℕ) → Option Command
no_word command [] = Some command
no_word command (w ∷ ws) = None

-- ---- the table of commands

abbrev pub VERBS : List (List ℕ × Verb)
VERBS =
    (codes "load", v.Load) ∷ (codes "tick", v.Tick) ∷ (codes "run", v.Run) ∷ (codes "begin", v.Begin)
    ∷ (codes "finish", v.Finish) ∷ (codes "drop", v.Drop) ∷ (codes "work", v.Work) ∷ (codes "compact", v.Compact)
    ∷ (codes "chain", v.Chain) ∷ (codes "collect", v.Collect) ∷ (codes "show", v.Show) ∷ (codes "blocks", v.Blocks) ∷ []

-- the verb of the first entry with this word
abbrev pub verb_in : List (List ℕ × Verb) → List ℕ → Option Verb
verb_in [] w = None
verb_in (entry ∷ entries) w = if bytes_eq w entry.0 then Some entry.1 else verb_in entries w

abbrev pub verb_of : List ℕ → Option Verb
verb_of w = verb_in VERBS w

abbrev pub with_operands : Verb → List (List ℕ) → Option Command
with_operands v.Load ws = option_map c.Load (one_name ws)
with_operands v.Tick ws = option_map c.Tick (one_number ws)
with_operands v.Run ws = option_map c.Run (one_name ws)
with_operands v.Begin ws = option_map c.Begin (one_name ws)
with_operands v.Finish ws = option_map c.Finish (one_name ws)
with_operands v.Drop ws = option_map c.Drop (one_name ws)
with_operands v.Work ws = no_word c.Work ws
with_operands v.Compact ws = option_map c.Compact (one_name ws)
with_operands v.Chain ws = option_map (λ p. c.Chain p.0 p.1.0 p.1.1) (name_and_numbers ws)
with_operands v.Collect ws = no_word c.Collect ws
with_operands v.Show ws = option_map c.Show (one_name ws)
with_operands v.Blocks ws = option_map c.Blocks (one_name ws)

-- ---- what a line reads as

-- a line is at most 4,194,304 bytes long without its newline
abbrev pub is_too_long : List ℕ → Bool
is_too_long line = nat_lt 4194304 (length line)

abbrev pub or_wrong_words : Option Command → Result (Option Command) Refusal
or_wrong_words None = Err WrongWords
or_wrong_words (Some command) = Ok (Some command)

abbrev pub or_unknown : Option Verb → List (List ℕ) → Result (Option Command) Refusal
or_unknown None ws = Err UnknownCommand
or_unknown (Some verb) ws = or_wrong_words (with_operands verb ws)

-- no words make no command
abbrev pub command_in : List (List ℕ) → Result (Option Command) Refusal
command_in [] = Ok None
command_in (w ∷ ws) = or_unknown (verb_of w) ws

abbrev pub command_of : List ℕ → Result (Option Command) Refusal
command_of line = if is_too_long line then Err LineTooLong else command_in (words_of line)

-- whether a line takes the lines that follow it, up to one that is `.` alone
abbrev pub takes_lines : List (List ℕ) → Bool
takes_lines [] = false
takes_lines (w ∷ ws) = bytes_eq w (codes "load")

abbrev pub is_load : List ℕ → Bool
is_load line = if is_too_long line then false else takes_lines (words_of line)

abbrev pub is_dot : List ℕ → Bool
is_dot line = bytes_eq line (codes ".")

-- what is held of a line that comes in pieces: the limit and one byte
abbrev pub kept : List ℕ → List ℕ
kept line = take 4194305 line
