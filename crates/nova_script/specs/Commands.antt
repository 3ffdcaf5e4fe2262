-- The commands of a session, one case each, and why a line is none, one case for each cause.
use Rattle.std.specs.Prelude.{◌≡◌, ℕ, ◌^◌, ◌≤◌, ◌<◌, true, List, [], ◌∷◌, length, codes, Option, Some, None}
use Rattle.nova_value.specs.Line.{is_numeral, number_after}
use Rattle.nova_script.specs.Words.{words_of}
use Rattle.nova_name.specs.Names.{is_identifier}
use Rattle.nova_script.specs.Forms.{verb_of}
use Rattle.nova_script.specs.declared.command.Command.{Command}
use Rattle.nova_script.specs.declared.command.Command.TheVariants.{Load, Tick, Run, Begin, Finish, Drop, Work, Compact, Chain, Collect, Show, Blocks}
use Rattle.nova_script.specs.declared.refusal.Refusal.{Refusal}
use Rattle.nova_script.specs.declared.refusal.Refusal.TheVariants.{UnknownCommand, WrongWords, LineTooLong}

-- an identifier of at most 64 bytes
pub record IsName (word : List ℕ) : Type 0 where
  pub letters : is_identifier word ≡ true
  pub short : length word ≤ 64

-- digits alone, with a value of at most 2^62
pub record IsNumber (word : List ℕ) (n : ℕ) : Type 0 where
  pub digits : is_numeral word ≡ true
  pub value : n ≡ number_after 0 word
  pub bound : n ≤ 2 ^ 62

-- the words of a command
pub data IsCommand : List (List ℕ) → Command → Type 0 where
  load : {c : List ℕ} → IsName c → IsCommand (codes "load" ∷ c ∷ []) (Load c)
  tick : {w : List ℕ} {m : ℕ} → IsNumber w m → IsCommand (codes "tick" ∷ w ∷ []) (Tick m)
  run : {t : List ℕ} → IsName t → IsCommand (codes "run" ∷ t ∷ []) (Run t)
  begin : {t : List ℕ} → IsName t → IsCommand (codes "begin" ∷ t ∷ []) (Begin t)
  finish : {t : List ℕ} → IsName t → IsCommand (codes "finish" ∷ t ∷ []) (Finish t)
  drop : {t : List ℕ} → IsName t → IsCommand (codes "drop" ∷ t ∷ []) (Drop t)
  work : IsCommand (codes "work" ∷ []) Work
  compact : {c : List ℕ} → IsName c → IsCommand (codes "compact" ∷ c ∷ []) (Compact c)
  chain : {c v w : List ℕ} {i j : ℕ} → IsName c → IsNumber v i → IsNumber w j → IsCommand (codes "chain" ∷ c ∷ v ∷ w ∷ []) (Chain c i j)
  collect : IsCommand (codes "collect" ∷ []) Collect
  show : {c : List ℕ} → IsName c → IsCommand (codes "show" ∷ c ∷ []) (Show c)
  blocks : {c : List ℕ} → IsName c → IsCommand (codes "blocks" ∷ c ∷ []) (Blocks c)

-- a line of at most 4,194,304 bytes without its newline
abbrev pub IsWithin : List ℕ → Type 0
IsWithin line = length line ≤ 4194304

-- the line is this command, or it is blank
pub data Reads : List ℕ → Option Command → Type 0 where
  command : {line : List ℕ} {c : Command} → IsWithin line → IsCommand (words_of line) c → Reads line (Some c)
  blank : {line : List ℕ} → IsWithin line → words_of line ≡ [] → Reads line None

-- the line is no command, and this is why; its length comes first, and then its first word
pub data IsRefused : List ℕ → Refusal → Type 0 where
  too_long : {line : List ℕ} → 4194304 < length line → IsRefused line LineTooLong
  unknown : {line w : List ℕ} {ws : List (List ℕ)} → IsWithin line → words_of line ≡ w ∷ ws → verb_of w ≡ None → IsRefused line UnknownCommand
  wrong : {line w : List ℕ} {ws : List (List ℕ)} → IsWithin line → words_of line ≡ w ∷ ws → (verb_of w ≡ None → ⊥) → ((c : Command) → IsCommand (w ∷ ws) c → ⊥) → IsRefused line WrongWords
