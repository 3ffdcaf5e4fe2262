-- The keywords that name no column, and those that scripts have.
use Rattle.std.specs.Prelude.{◌≡◌, ℕ, true, List}
use Rattle.std.specs.Str.{str_to_ascii_lowercase}
use Rattle.nova_pig_tree.specs.declared.token.Word.{Word}
use Rattle.nova_pig_scan.specs.Lexemes.{spelling, group_word}
use Rattle.nova_name.specs.Keywords.{is_keyword}

-- a text in lower case is how a keyword of scripts is spelled
pub data IsSpelling (low : List ℕ) : Type 0 where
  group : low ≡ group_word → IsSpelling low
  word : (k : Word) → low ≡ spelling k → IsSpelling low

abbrev pub KeywordsAgree : Type 0
KeywordsAgree =
    (text : List ℕ)
    → (is_keyword text ≡ true → IsSpelling (str_to_ascii_lowercase text))
    × (IsSpelling (str_to_ascii_lowercase text) → is_keyword text ≡ true)
