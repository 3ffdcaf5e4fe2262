-- Both tables of keywords, word by word.
use Rattle.std.proofs.Common.{◌≡◌, ℕ, Bool, true, false, List, [], ◌∷◌, Option, Some, None, refl, ap, sym, ◌∙◌}
use Rattle.std.proofs.lemmas.Slice.Eq.{bytes_eq-Decides}
use Rattle.std.specs.Prelude.{◌||◌}
use Rattle.std.specs.List.{list_any}
use Rattle.std.specs.Str.{str_to_ascii_lowercase, bytes_eq}
use Rattle.nova_pig_tree.specs.declared.token.Word.{Word}
use Rattle.nova_pig_tree.specs.declared.token.Word.TheVariants as w
use Rattle.nova_pig_scan.specs.Lexemes.{spelling, group_word}
use Rattle.nova_name.specs.Keywords.{keywords, same_in_any_case, is_keyword}
use Rattle.nova_keywords.specs.Agreement.{IsSpelling, group, word, KeywordsAgree}

abbrev Text : Type 0
Text = List ℕ

-- whether one of the words in lower case is this
abbrev is_one_of : List Text → Text → Bool
is_one_of words low = list_any (λ v. bytes_eq (str_to_ascii_lowercase v) low) words

in_lower_case : (text : Text) → is_keyword text ≡ is_one_of keywords (str_to_ascii_lowercase text)
unfolding same_in_any_case
in_lower_case text = refl

-- the keywords of scripts; the one that isn't a word is GROUP
abbrev spelled : Option Word → Text
spelled None = group_word
spelled (Some k) = spelling k

abbrev words : List (Option Word)
words =
    Some w.And ∷ Some w.As ∷ Some w.By ∷ Some w.Distinct ∷ Some w.Filter ∷ Some w.Flatten ∷ Some w.Foreach
    ∷ Some w.Generate ∷ None ∷ Some w.Into ∷ Some w.Is ∷ Some w.Join ∷ Some w.Load ∷ Some w.Not ∷ Some w.Null
    ∷ Some w.Or ∷ Some w.Store ∷ Some w.Union ∷ []

abbrev is_spelled_in : List (Option Word) → Text → Bool
is_spelled_in ws low = list_any (λ k. bytes_eq (spelled k) low) ws

one_table : (low : Text) → is_one_of keywords low ≡ is_spelled_in words low
one_table low = refl

spells : (k : Option Word) (low : Text) → bytes_eq (spelled k) low ≡ true → IsSpelling low
spells None low e = group (sym ((bytes_eq-Decides group_word low).0 e))
spells (Some k) low e = word k (sym ((bytes_eq-Decides (spelling k) low).0 e))

found : (ws : List (Option Word)) (low : Text) → is_spelled_in ws low ≡ true → IsSpelling low
found [] low e = absurd (cc)
found (k ∷ ws) low e = by (bytes_eq (spelled k) low) refl e (found ws low)
  where
    by : (b : Bool) → bytes_eq (spelled k) low ≡ b → (b || is_spelled_in ws low) ≡ true → (is_spelled_in ws low ≡ true → IsSpelling low) → IsSpelling low
    by true same e more = spells k low same
    by false same e more = more e

-- each keyword of scripts is in the table
listed : (k : Word) → is_one_of keywords (spelling k) ≡ true
listed w.And = refl
listed w.As = refl
listed w.By = refl
listed w.Distinct = refl
listed w.Filter = refl
listed w.Flatten = refl
listed w.Foreach = refl
listed w.Generate = refl
listed w.Into = refl
listed w.Is = refl
listed w.Join = refl
listed w.Load = refl
listed w.Not = refl
listed w.Null = refl
listed w.Or = refl
listed w.Store = refl
listed w.Union = refl

all_listed : (low : Text) → IsSpelling low → is_one_of keywords low ≡ true
all_listed low (group e) = ap (is_one_of keywords) e
all_listed low (word k e) = ap (is_one_of keywords) e ∙ listed k

pub agree : KeywordsAgree
agree text = (there, back)
  where
    there : is_keyword text ≡ true → IsSpelling (str_to_ascii_lowercase text)
    there e = found words (str_to_ascii_lowercase text) (sym (one_table (str_to_ascii_lowercase text)) ∙ sym (in_lower_case text) ∙ e)

    back : IsSpelling (str_to_ascii_lowercase text) → is_keyword text ≡ true
    back s = in_lower_case text ∙ all_listed (str_to_ascii_lowercase text) s
