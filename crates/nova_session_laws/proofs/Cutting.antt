-- Bytes are cut in one way.
use Rattle.std.proofs.Common.{◌≡◌, ℕ, ◌==◌, Bool, true, false, ◌||◌, List, [], ◌∷◌, ◌++◌, refl, ap, ◌∙◌, arith}
use Rattle.std.proofs.lemmas.Bool.Decides.{nat_tests}
use Rattle.std.proofs.lemmas.List.{append_assoc}
use Rattle.std.specs.List.{AllByRecursion}
use Rattle.nova_value.specs.Text.{has_newline}
use Rattle.nova_machine.specs.Lines.{lines_of, whole_lines_of}
use Rattle.nova_machine.proofs.Cuts.{lines_at, lines_at_end, whole_lines_at, whole_lines_at_end}
use Rattle.nova_session_laws.specs.Cuts.{IsCut, joined, last_line}
use Rattle.nova_session_laws.specs.Statements.{BytesAreCut, LinesJoin}

lines_at_last : (rest : List ℕ) → has_newline rest ≡ false → lines_of rest ≡ last_line rest
lines_at_last [] none = refl
lines_at_last (b ∷ bs) none = lines_at_end b bs none

-- a line before the others
split : (line : List ℕ) (lines : List (List ℕ)) (rest : List ℕ) → joined (line ∷ lines) ++ rest ≡ line ++ 10 ∷ (joined lines ++ rest)
split line lines rest = append_assoc (line ++ 10 ∷ []) (joined lines) rest ∙ append_assoc line (10 ∷ []) (joined lines ++ rest)

lines_joined : (whole : List (List ℕ)) (rest : List ℕ) → AllByRecursion (λ (line : List ℕ). has_newline line ≡ false) whole → has_newline rest ≡ false
    → lines_of (joined whole ++ rest) ≡ whole ++ last_line rest
lines_joined [] rest each last = lines_at_last rest last
lines_joined (line ∷ lines) rest each last =
    ap lines_of (split line lines rest) ∙ lines_at line (joined lines ++ rest) each.0 ∙ ap (λ (ls : List (List ℕ)). line ∷ ls) (lines_joined lines rest each.1 last)

whole_joined : (whole : List (List ℕ)) (rest : List ℕ) → AllByRecursion (λ (line : List ℕ). has_newline line ≡ false) whole → has_newline rest ≡ false
    → whole_lines_of (joined whole ++ rest) ≡ whole
whole_joined [] rest each last = whole_lines_at_end rest last
whole_joined (line ∷ lines) rest each last =
    ap whole_lines_of (split line lines rest) ∙ whole_lines_at line (joined lines ++ rest) each.0 ∙ ap (λ (ls : List (List ℕ)). line ∷ ls) (whole_joined lines rest each.1 last)

pub lines_join : LinesJoin
lines_join bytes whole rest cut = (
  ap lines_of cut.is ∙ lines_joined whole rest cut.each cut.last,
  ap whole_lines_of cut.is ∙ whole_joined whole rest cut.each cut.last,
)

-- ---- and there is one

abbrev Cut : List ℕ → Type 0
Cut bytes = (whole : List (List ℕ)) × (rest : List ℕ) × IsCut bytes whole rest

newline_more : (b : ℕ) (bs : List ℕ) → (b == 10) ≡ false → has_newline bs ≡ false → has_newline (b ∷ bs) ≡ false
newline_more b bs other none = ap (λ t. t || has_newline bs) other ∙ none

-- a byte that is no newline goes to the first line
onto : (b : ℕ) (bs : List ℕ) → (b == 10) ≡ false → (whole : List (List ℕ)) (rest : List ℕ) → IsCut bs whole rest → Cut (b ∷ bs)
onto b bs other [] rest cut = ([], b ∷ rest, record { each = tt; last = newline_more b rest other cut.last; is = ap (λ (cs : List ℕ). b ∷ cs) cut.is })
onto b bs other (line ∷ lines) rest cut = ((b ∷ line) ∷ lines, rest, record { each = (newline_more b line other cut.each.0, cut.each.1); last = cut.last; is = ap (λ (cs : List ℕ). b ∷ cs) cut.is })

-- a newline ends an empty line
ended : (b : ℕ) (bs : List ℕ) → (b == 10) ≡ true → (whole : List (List ℕ)) (rest : List ℕ) → IsCut bs whole rest → Cut (b ∷ bs)
ended b bs newline whole rest cut =
    let is : b ≡ 10 = grind (arith, nat_tests) in
    ([] ∷ whole, rest, record { each = (refl, cut.each); last = cut.last; is = λ i. is i ∷ cut.is i })

pub bytes_are_cut : BytesAreCut
bytes_are_cut [] = ([], [], record { each = tt; last = refl; is = refl })
bytes_are_cut (b ∷ bs) = by_newline (bytes_are_cut bs) (b == 10) refl
  where
    by_newline : Cut bs → (t : Bool) → (b == 10) ≡ t → Cut (b ∷ bs)
    by_newline before true is = ended b bs is before.0 before.1 before.2
    by_newline before false is = onto b bs is before.0 before.1 before.2
