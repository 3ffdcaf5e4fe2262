-- Spaces part words.
use Rattle.std.proofs.Common.{◌≡◌, ◌≢◌, ℕ, false, List, [], ◌∷◌, ◌++◌, refl, ap, ◌∙◌, arith}
use Rattle.std.proofs.lemmas.Bool.{ne_eqb}
use Rattle.std.specs.List.{AllByRecursion}
use Rattle.nova_script.specs.Words.{ends_word, words_of, push_front}
use Rattle.nova_script.specs.Laws.{IsWord, WordsAreParted}

abbrev AreLetters : List ℕ → Type 0
AreLetters word = AllByRecursion (λ b. b ≢ 32) word

-- a byte of a word that goes on
longer : (b : ℕ) (bs : List ℕ) → b ≢ 32 → ends_word bs ≡ false → words_of (b ∷ bs) ≡ push_front b (words_of bs)
longer b bs letter on = rw (ne_eqb b 32 letter, on) refl

front_word : (b : ℕ) (word line : List ℕ) → AreLetters (b ∷ word) → words_of (b ∷ word ++ 32 ∷ line) ≡ (b ∷ word) ∷ words_of line
front_word b [] line letters = rw (ne_eqb b 32 letters.0) refl
front_word b (d ∷ word) line letters = longer b (d ∷ word ++ 32 ∷ line) letters.0 (ne_eqb d 32 letters.1.0) ∙ ap (push_front b) (front_word d word line letters.1)

only_word : (b : ℕ) (word : List ℕ) → AreLetters (b ∷ word) → words_of (b ∷ word) ≡ (b ∷ word) ∷ []
only_word b [] letters = rw (ne_eqb b 32 letters.0) refl
only_word b (d ∷ word) letters = longer b (d ∷ word) letters.0 (ne_eqb d 32 letters.1.0) ∙ ap (push_front b) (only_word d word letters.1)

before_space : (word line : List ℕ) → IsWord word → words_of (word ++ 32 ∷ line) ≡ word ∷ words_of line
before_space [] line is = let some = is.some in absurd (omega (arith, some))
before_space (b ∷ word) line is = front_word b word line is.letters

at_end : (word : List ℕ) → IsWord word → words_of word ≡ word ∷ []
at_end [] is = let some = is.some in absurd (omega (arith, some))
at_end (b ∷ word) is = only_word b word is.letters

pub words_are_parted : WordsAreParted
words_are_parted = record { none = refl; space = λ line. refl; word = before_space; last = at_end }
