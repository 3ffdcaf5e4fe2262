-- A line more: the commands that it ends.
use Rattle.std.proofs.Common.{◌≡◌, ◌≢◌, ℕ, zero, suc, ◌+◌, ◌==◌, ◌≤◌, Bool, true, false, ◌||◌, List, [], ◌∷◌, ◌++◌, length, take, min, Option, Some, None, Result, Ok, Err, if◌then◌else◌, refl, sym, ap, ◌∙◌, append_assoc, arith, length-take}
use Rattle.std.proofs.lemmas.List.{append-nil, nil_from_length, take_min}
use Rattle.std.proofs.Math.Seq.{take-length}
use Rattle.nova_value.specs.Text.{has_newline}
use Rattle.nova_script.specs.Forms.{command_of, is_dot, is_load, kept}
use Rattle.nova_script.specs.Session.{Item, WithRows, alone, has_dot, items_from, rows_before_dot}
use Rattle.nova_script.specs.declared.command.Command.{Command}
use Rattle.nova_script.specs.declared.refusal.Refusal.{Refusal}
use Rattle.nova_script.proofs.Fronts.{kept_grows}
use Rattle.nova_machine.specs.Lines.{lines_of, whole_lines_of}
use Rattle.nova_machine.specs.Commands.{ended_commands}
use Rattle.nova_machine.proofs.Cuts.{lines_at, whole_lines_at, lines_at_end}
use Rattle.nova_engine.specs.Loading.{Loading, with_row}
use Rattle.nova_engine.specs.Positions.{IsFront, Position, ended_by, items_at, items_in, load_after, whole_items_at}

pub items_in-line : (load : Option Loading) (line : List ℕ) (ls : List (List ℕ)) → items_in load (line ∷ ls) ≡ ended_by load line ++ items_in (load_after load line) ls
items_in-line None line ls = by_load (is_load line)
  where
    by_load : (b : Bool) → (if b then WithRows line (rows_before_dot ls) (has_dot ls) ∷ items_from true ls else alone line (command_of line) ++ items_from false ls)
        ≡ (if b then [] else alone line (command_of line)) ++ items_in (if b then Some (record { line = line; rows = [] }) else None) ls
    by_load true = refl
    by_load false = refl
items_in-line (Some load) line ls = by_dot (is_dot line)
  where
    by_dot : (d : Bool) → WithRows load.line (load.rows ++ (if d then [] else line ∷ rows_before_dot ls)) (if d then true else has_dot ls) ∷ (if d then items_from false ls else items_from true ls)
        ≡ (if d then WithRows load.line load.rows true ∷ [] else []) ++ items_in (if d then None else Some (with_row load line)) ls
    by_dot true = ap (λ rows. WithRows load.line rows true ∷ items_from false ls) (append-nil load.rows)
    by_dot false = ap (λ rows. WithRows load.line rows (has_dot ls) ∷ items_from true ls) (sym (append_assoc load.rows (line ∷ []) (rows_before_dot ls)))

-- what a line ends is whole
ended_alone : (line : List ℕ) (res : Result (Option Command) Refusal) (cs : List Item) → ended_commands (alone line res ++ cs) ≡ alone line res ++ ended_commands cs
ended_alone line (Ok None) cs = refl
ended_alone line (Ok (Some command)) cs = refl
ended_alone line (Err refusal) cs = refl

pub ended_commands-line : (load : Option Loading) (line : List ℕ) (cs : List Item) → ended_commands (ended_by load line ++ cs) ≡ ended_by load line ++ ended_commands cs
ended_commands-line None line cs = by_load (is_load line)
  where
    by_load : (b : Bool) → ended_commands ((if b then [] else alone line (command_of line)) ++ cs) ≡ (if b then [] else alone line (command_of line)) ++ ended_commands cs
    by_load true = refl
    by_load false = ended_alone line (command_of line) cs
ended_commands-line (Some load) line cs = by_dot (is_dot line)
  where
    by_dot : (d : Bool) → ended_commands ((if d then WithRows load.line load.rows true ∷ [] else []) ++ cs) ≡ (if d then WithRows load.line load.rows true ∷ [] else []) ++ ended_commands cs
    by_dot true = refl
    by_dot false = refl

-- the commands of what follows, behind the rest of a line and its newline
pub items_at-line : (p : Position) (bytes more : List ℕ) → has_newline (p.carry ++ bytes) ≡ false
    → items_at p ((bytes ++ 10 ∷ []) ++ more) ≡ ended_by p.load (p.carry ++ bytes) ++ items_in (load_after p.load (p.carry ++ bytes)) (lines_of more)
items_at-line p bytes more clean =
    ap (λ t. items_in p.load (lines_of (p.carry ++ t))) (append_assoc bytes (10 ∷ []) more)
    ∙ ap (λ t. items_in p.load (lines_of t)) (sym (append_assoc p.carry bytes (10 ∷ more)))
    ∙ ap (items_in p.load) (lines_at (p.carry ++ bytes) more clean)
    ∙ items_in-line p.load (p.carry ++ bytes) (lines_of more)

pub whole_items_at-line : (p : Position) (bytes more : List ℕ) → has_newline (p.carry ++ bytes) ≡ false
    → whole_items_at p ((bytes ++ 10 ∷ []) ++ more) ≡ ended_by p.load (p.carry ++ bytes) ++ ended_commands (items_in (load_after p.load (p.carry ++ bytes)) (whole_lines_of more))
whole_items_at-line p bytes more clean =
    ap (λ t. ended_commands (items_in p.load (whole_lines_of (p.carry ++ t)))) (append_assoc bytes (10 ∷ []) more)
    ∙ ap (λ t. ended_commands (items_in p.load (whole_lines_of t))) (sym (append_assoc p.carry bytes (10 ∷ more)))
    ∙ ap (λ ls. ended_commands (items_in p.load ls)) (whole_lines_at (p.carry ++ bytes) more clean)
    ∙ ap ended_commands (items_in-line p.load (p.carry ++ bytes) (whole_lines_of more))
    ∙ ended_commands-line p.load (p.carry ++ bytes) (items_in (load_after p.load (p.carry ++ bytes)) (whole_lines_of more))

-- the commands of a last line, and of the load that it leaves
pub items_at-end : (p : Position) → has_newline p.carry ≡ false → p.carry ≢ [] → items_at p [] ≡ ended_by p.load p.carry ++ items_in (load_after p.load p.carry) []
items_at-end p clean some = ap (λ bs. items_in p.load (lines_of bs)) (append-nil p.carry) ∙ at_end p.carry clean some
  where
    at_end : (carry : List ℕ) → has_newline carry ≡ false → carry ≢ [] → items_in p.load (lines_of carry) ≡ ended_by p.load carry ++ items_in (load_after p.load carry) []
    at_end [] clean some = absurd (some refl)
    at_end (b ∷ bs) clean some = ap (items_in p.load) (lines_at_end b bs clean) ∙ items_in-line p.load (b ∷ bs) []

-- ---- what is held of a line

take_all : (n : ℕ) (xs : List ℕ) → length xs ≤ n → take n xs ≡ xs
take_all n xs fits =
    let m : min n (length xs) ≡ length xs = omega (arith, fits) in
    sym (take_min n xs) ∙ ap (λ k. take k xs) m ∙ take-length xs

-- nothing is held of a line without bytes alone
pub nothing_kept : (carry : List ℕ) → kept carry ≡ [] → carry ≡ []
nothing_kept carry none =
    let l = length-take 4194305 carry in
    let zero : length (take 4194305 carry) ≡ 0 = ap length none in
    nil_from_length carry (omega (arith, l, zero))

-- all of it is a front, and so is what is kept
pub front_all : (line : List ℕ) → IsFront line line
front_all line = record { count = 4194305 + length line; enough = omega arith; is = sym (take_all (4194305 + length line) line (omega arith)) }

pub front_kept : (line : List ℕ) → IsFront (kept line) line
front_kept line = record { count = 4194305; enough = omega arith; is = refl }

pub front_pushed : (held carry bytes new : List ℕ) → held ≡ kept carry → new ≡ kept (held ++ bytes) → new ≡ kept (carry ++ bytes)
front_pushed held carry bytes new was is = is ∙ ap (λ t. kept (t ++ bytes)) was ∙ kept_grows carry bytes

-- what is kept of a line has no newline either
more_false : (a b c : Bool) → (a || b) ≡ false → (b ≡ false → c ≡ false) → (a || c) ≡ false
more_false true b c is so = is
more_false false b c is so = so is

clean_take : (n : ℕ) (xs : List ℕ) → has_newline xs ≡ false → has_newline (take n xs) ≡ false
clean_take zero xs clean = refl
clean_take (suc n) [] clean = refl
clean_take (suc n) (x ∷ xs) clean = more_false (x == 10) (has_newline xs) (has_newline (take n xs)) clean (λ rest. clean_take n xs rest)

pub kept_clean : (xs : List ℕ) → has_newline xs ≡ false → has_newline (kept xs) ≡ false
kept_clean xs clean = clean_take 4194305 xs clean
