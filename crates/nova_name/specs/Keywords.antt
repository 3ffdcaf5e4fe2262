-- Names that are the same, and keywords.
use Rattle.std.specs.Prelude.{ℕ, Bool, List, [], ◌∷◌, codes}
use Rattle.std.specs.List.{list_any}
use Rattle.std.specs.Str.{bytes_eq, str_eq_ignore_ascii_case}

abbrev pub same_text : List ℕ → List ℕ → Bool
same_text a b = bytes_eq a b

-- the keywords of scripts
abbrev pub keywords : List (List ℕ)
keywords =
    codes "AND" ∷ codes "AS" ∷ codes "BY" ∷ codes "DISTINCT" ∷ codes "FILTER" ∷ codes "FLATTEN"
    ∷ codes "FOREACH" ∷ codes "GENERATE" ∷ codes "GROUP" ∷ codes "INTO" ∷ codes "IS" ∷ codes "JOIN"
    ∷ codes "LOAD" ∷ codes "NOT" ∷ codes "NULL" ∷ codes "OR" ∷ codes "STORE" ∷ codes "UNION" ∷ []

unfoldable pub same_in_any_case : List ℕ → List ℕ → Bool
same_in_any_case a b = str_eq_ignore_ascii_case a b

abbrev pub is_any_of : List (List ℕ) → List ℕ → Bool
is_any_of words text = list_any (λ w. same_in_any_case w text) words

abbrev pub is_keyword : List ℕ → Bool
is_keyword text = is_any_of keywords text
