-- A recursion on a list, at a place of it.
use Rattle.std.proofs.Common.{◌≡◌, ℕ, ◌+◌, ◌<◌, ◌≤◌, Bool, true, false, [], ◌∷◌, length, drop, get_or, Option, Some, None, refl, ap, ◌∙◌, arith, add-one, drop-cons, rules}
use Rattle.std.proofs.Math.ListN.{drop_of_length-le}
use Rattle.nova_pig_scan.specs.Lexemes.{Text, begins}
use Rattle.nova_pig_scan.specs.Lex.{literal, literal_by, step_of, block, two_more, from_place}
use Rattle.std.specs.Prelude.{if◌then◌else◌, ◌&&◌, ◌==◌}

pub literal_at : (text : Text) (i : ℕ) (escaped : Bool) → i < length text
    → literal escaped (drop i text) ≡ literal_by (step_of escaped (get_or text i 0)) (get_or text i 0) (literal false (drop (i + 1) text)) (literal true (drop (i + 1) text))
unfolding literal
literal_at text i escaped h = ap (literal escaped) (drop-cons text i 0 h) ∙ rw add-one refl

pub literal_end : (text : Text) (i : ℕ) (escaped : Bool) → length text ≤ i → literal escaped (drop i text) ≡ None
unfolding literal
literal_end text i escaped h = ap (literal escaped) (none text i h)
  where
    none : (xs : Text) (i : ℕ) → length xs ≤ i → drop i xs ≡ []
    none xs i h = search (rules, drop_of_length-le)

pub block_at : (text : Text) (i : ℕ) → i < length text
    → block (drop i text) ≡ (if get_or text i 0 == 42 && begins 47 (drop (i + 1) text) then Some 2 else two_more (block (drop (i + 1) text)))
unfolding block
block_at text i h = ap block (drop-cons text i 0 h) ∙ rw add-one refl

pub block_more : (b : ℕ) (rest : Text) (taken : ℕ) → (b == 42 && begins 47 rest) ≡ false → from_place taken (block (b ∷ rest)) ≡ from_place (taken + 1) (block rest)
unfolding block
block_more b rest taken e = ap (λ t. from_place taken (if t then Some 2 else two_more (block rest))) e ∙ shifted (block rest)
  where
    shifted : (o : Option ℕ) → from_place taken (two_more o) ≡ from_place (taken + 1) o
    shifted None = refl
    shifted (Some n) = ap Some (omega arith)
