-- The commands that have ended come first.
use Rattle.std.proofs.Common.{◌≡◌, ℕ, ◌≤◌, Bool, true, false, List, [], ◌∷◌, ◌++◌, length, Option, Some, None, Result, Ok, Err, refl, ap, sym, ◌∙◌, subst, append-nil, arith, if◌then◌else◌}
use Rattle.std.proofs.lemmas.List.{append_assoc}
use Rattle.nova_script.specs.Forms.{command_of, is_dot, is_load}
use Rattle.nova_script.specs.Session.{Item, WithRows, alone, has_dot, items_from, rows_before_dot}
use Rattle.nova_script.specs.declared.command.Command.{Command}
use Rattle.nova_script.specs.declared.refusal.Refusal.{Refusal}
use Rattle.nova_machine.specs.Commands.{ended_commands}
use Rattle.nova_session_laws.specs.Cuts.{AreFirst, last_line}
use Rattle.nova_session_laws.specs.Statements.{WholeCommandsAreFirst}
use Rattle.nova_session_laws.proofs.Cutting.{bytes_are_cut, lines_join}

-- ---- the lines of a load

dot_stays : (ls tail : List (List ℕ)) → has_dot ls ≡ true → (has_dot (ls ++ tail) ≡ true) × (rows_before_dot (ls ++ tail) ≡ rows_before_dot ls)
dot_stays [] tail dot = absurd (cc)
dot_stays (l ∷ ls) tail dot = by_dot (dot_stays ls tail) (is_dot l) refl
  where
    by_dot : (has_dot ls ≡ true → (has_dot (ls ++ tail) ≡ true) × (rows_before_dot (ls ++ tail) ≡ rows_before_dot ls)) → (t : Bool) → is_dot l ≡ t
        → (has_dot ((l ∷ ls) ++ tail) ≡ true) × (rows_before_dot ((l ∷ ls) ++ tail) ≡ rows_before_dot (l ∷ ls))
    by_dot later true is = (rw is refl, rw is refl)
    by_dot later false is =
        let rest = later (sym (ap (λ t. if t then true else has_dot ls) is) ∙ dot) in
        (rw is rest.0, rw is (ap (λ (rows : List (List ℕ)). l ∷ rows) rest.1))

clash : true ≡ false → ⊥
clash e = cc

-- without a `.` no command follows
none_inside : (ls tail : List (List ℕ)) → has_dot ls ≡ false → items_from true (ls ++ tail) ≡ items_from true tail
none_inside [] tail none = refl
none_inside (l ∷ ls) tail none = by_dot (none_inside ls tail) (is_dot l) refl
  where
    by_dot : (has_dot ls ≡ false → items_from true (ls ++ tail) ≡ items_from true tail) → (t : Bool) → is_dot l ≡ t → items_from true ((l ∷ ls) ++ tail) ≡ items_from true tail
    by_dot later true is = absurd (clash (sym (ap (λ t. if t then true else has_dot ls) is) ∙ none))
    by_dot later false is = rw is (later (sym (ap (λ t. if t then true else has_dot ls) is) ∙ none))

-- ---- the last line

tail_inside : (rest : List ℕ) → items_from true (last_line rest) ≡ []
tail_inside [] = refl
tail_inside (b ∷ bs) = by_dot (is_dot (b ∷ bs)) refl
  where
    by_dot : (t : Bool) → is_dot (b ∷ bs) ≡ t → items_from true ((b ∷ bs) ∷ []) ≡ []
    by_dot true is = rw is refl
    by_dot false is = rw is refl

alone_few : (line : List ℕ) (read : Result (Option Command) Refusal) → length (alone line read ++ []) ≤ 1
alone_few line (Ok None) = omega arith
alone_few line (Ok (Some command)) = omega arith
alone_few line (Err refusal) = omega arith

tail_few : (rest : List ℕ) → length (items_from false (last_line rest)) ≤ 1
tail_few [] = omega arith
tail_few (b ∷ bs) = by_load (is_load (b ∷ bs)) refl
  where
    by_load : (t : Bool) → is_load (b ∷ bs) ≡ t → length (items_from false ((b ∷ bs) ∷ [])) ≤ 1
    by_load true is = rw is (omega arith)
    by_load false is = rw is (alone_few (b ∷ bs) (command_of (b ∷ bs)))

-- ---- commands one after the other

-- a command that ended, and then the others
behind : (first : List Item) (whole all : List Item) → AreFirst whole all → AreFirst (first ++ whole) (first ++ all)
behind first whole all are = record { more = are.more; is = ap (λ (is : List Item). first ++ is) are.is ∙ sym (append_assoc first whole are.more); few = are.few }

ended_alone : (line : List ℕ) (read : Result (Option Command) Refusal) (items : List Item) → ended_commands (alone line read ++ items) ≡ alone line read ++ ended_commands items
ended_alone line (Ok None) items = refl
ended_alone line (Ok (Some command)) items = refl
ended_alone line (Err refusal) items = refl

module _ (rest : List ℕ) where
  abbrev Front : Bool → List (List ℕ) → Type 0
  Front inside ls = AreFirst (ended_commands (items_from inside ls)) (items_from inside (ls ++ last_line rest))

  load_front : (l : List ℕ) (ls : List (List ℕ)) → Front true ls
      → AreFirst (ended_commands (WithRows l (rows_before_dot ls) (has_dot ls) ∷ items_from true ls)) (WithRows l (rows_before_dot (ls ++ last_line rest)) (has_dot (ls ++ last_line rest)) ∷ items_from true (ls ++ last_line rest))
  load_front l ls later = by_dot (has_dot ls) refl
    where
      by_dot : (t : Bool) → has_dot ls ≡ t
          → AreFirst (ended_commands (WithRows l (rows_before_dot ls) (has_dot ls) ∷ items_from true ls)) (WithRows l (rows_before_dot (ls ++ last_line rest)) (has_dot (ls ++ last_line rest)) ∷ items_from true (ls ++ last_line rest))
      by_dot true is =
          let stays = dot_stays ls (last_line rest) is in
          let more = later.more in
          record {
            more = more;
            is = (λ i. WithRows l (stays.1 i) (stays.0 i) ∷ later.is i)
                ∙ ap (λ (t : Bool). ended_commands (WithRows l (rows_before_dot ls) t ∷ items_from true ls) ++ more) (sym is);
            few = later.few;
          }
      by_dot false is =
          let none : items_from true (ls ++ last_line rest) ≡ [] = none_inside ls (last_line rest) is ∙ tail_inside rest in
          let whole : ended_commands (WithRows l (rows_before_dot ls) (has_dot ls) ∷ items_from true ls) ≡ [] =
          ap (λ (t : Bool). ended_commands (WithRows l (rows_before_dot ls) t ∷ items_from true ls)) is ∙ ap ended_commands (ap (items_from true) (sym (append-nil ls)) ∙ none_inside ls [] is) in
          let one : Item = WithRows l (rows_before_dot (ls ++ last_line rest)) (has_dot (ls ++ last_line rest)) in
          record {
            more = one ∷ [];
            is = ap (λ (items : List Item). one ∷ items) none ∙ ap (λ (items : List Item). items ++ one ∷ []) (sym whole);
            few = omega arith;
          }

  front : (inside : Bool) (ls : List (List ℕ)) → Front inside ls
  front true [] = record { more = []; is = tail_inside rest; few = omega arith }
  front false [] = record { more = items_from false (last_line rest); is = refl; few = tail_few rest }
  front true (l ∷ ls) = by_dot (is_dot l) refl (front true ls) (front false ls)
    where
      by_dot : (t : Bool) → is_dot l ≡ t → Front true ls → Front false ls → Front true (l ∷ ls)
      by_dot true is inside out = rw is out
      by_dot false is inside out = rw is inside
  front false (l ∷ ls) = by_load (is_load l) refl (front true ls) (front false ls)
    where
      by_load : (t : Bool) → is_load l ≡ t → Front true ls → Front false ls → Front false (l ∷ ls)
      by_load true is inside out = rw is (load_front l ls inside)
      by_load false is inside out =
          rw is (subst (λ (whole : List Item). AreFirst whole (alone l (command_of l) ++ items_from false (ls ++ last_line rest))) (sym (ended_alone l (command_of l) (items_from false ls)))
          (behind (alone l (command_of l)) (ended_commands (items_from false ls)) (items_from false (ls ++ last_line rest)) out))

pub whole_commands_are_first : WholeCommandsAreFirst
whole_commands_are_first bytes =
    let cut = bytes_are_cut bytes in
    let lines = lines_join bytes cut.0 cut.1 cut.2 in
    let first = front cut.1 false cut.0 in
    record {
      more = first.more;
      is = ap (items_from false) lines.0 ∙ first.is ∙ ap (λ (ls : List (List ℕ)). ended_commands (items_from false ls) ++ first.more) (sym lines.1);
      few = first.few;
    }
