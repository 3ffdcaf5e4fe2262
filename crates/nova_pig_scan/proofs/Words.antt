-- Which token a name is.
use Rattle.std.proofs.Common.{◌≡◌, Bool, true, false, List, [], ◌∷◌, map, Option, Some, None, refl, ap, sym, ◌∙◌}
use Rattle.std.proofs.lemmas.Bool.{and_parts, false_from_ne_true}
use Rattle.std.proofs.lemmas.Slice.Eq.{bytes_eq-Decides}
use Rattle.std.specs.Prelude.{if◌then◌else◌, ◌&&◌}
use Rattle.std.specs.Str.{str_to_ascii_lowercase, bytes_eq}
use Rattle.nova_pig_tree.specs.declared.token.Word.{Word}
use Rattle.nova_pig_tree.specs.declared.token.Word.TheVariants as w
use Rattle.nova_pig_tree.specs.declared.token.Token.TheVariants as t
use Rattle.nova_pig_scan.specs.declared.lex.TheConstants.{KEYWORDS}
use Rattle.nova_pig_scan.specs.Lexemes.{Text, IsName, spelling, group_word, name_of, IsLexeme, Is, identifier, keyword as is_keyword, group}
use Rattle.nova_pig_scan.specs.Lex.{lookup, keyword}
use Rattle.nova_pig_scan.specs.Tokens.{word_token, keyword_or}

pub same_bytes : (us vs : Text) → bytes_eq us vs ≡ true → us ≡ vs
same_bytes us vs e = (bytes_eq-Decides us vs).0 e

pub bytes_same : (us vs : Text) → us ≡ vs → bytes_eq us vs ≡ true
bytes_same us vs e = (bytes_eq-Decides us vs).1 e

-- the table with its words in lower case
abbrev lookup_lower : List (Text × Word) → Text → Option Word
lookup_lower [] low = None
lookup_lower (k ∷ ks) low = if bytes_eq (str_to_ascii_lowercase k.0) low then Some k.1 else lookup_lower ks low

lookup-lower : (ks : List (Text × Word)) (us : Text) → lookup ks us ≡ lookup_lower ks (str_to_ascii_lowercase us)
lookup-lower [] us = refl
lookup-lower (k ∷ ks) us = ap (λ o. if bytes_eq (str_to_ascii_lowercase k.0) (str_to_ascii_lowercase us) then Some k.1 else o) (lookup-lower ks us)

abbrev table : List (Text × Word)
table = map (λ k. (k.0.now, k.1)) KEYWORDS

-- each keyword is found by its spelling
found : (k : Word) → lookup_lower table (spelling k) ≡ Some k
found w.And = refl
found w.As = refl
found w.By = refl
found w.Distinct = refl
found w.Filter = refl
found w.Flatten = refl
found w.Foreach = refl
found w.Generate = refl
found w.Into = refl
found w.Is = refl
found w.Join = refl
found w.Load = refl
found w.Not = refl
found w.Null = refl
found w.Or = refl
found w.Store = refl
found w.Union = refl

no_group : (k : Word) → bytes_eq (spelling k) group_word ≡ false
no_group w.And = refl
no_group w.As = refl
no_group w.By = refl
no_group w.Distinct = refl
no_group w.Filter = refl
no_group w.Flatten = refl
no_group w.Foreach = refl
no_group w.Generate = refl
no_group w.Into = refl
no_group w.Is = refl
no_group w.Join = refl
no_group w.Load = refl
no_group w.Not = refl
no_group w.Null = refl
no_group w.Or = refl
no_group w.Store = refl
no_group w.Union = refl

-- a table whose words in lower case are the spellings
abbrev IsTable : List (Text × Word) → Bool
IsTable [] = true
IsTable (k ∷ ks) = bytes_eq (str_to_ascii_lowercase k.0) (spelling k.1) && IsTable ks

found_spelled : (ks : List (Text × Word)) (low : Text) (k : Word) → IsTable ks ≡ true → lookup_lower ks low ≡ Some k → low ≡ spelling k
found_spelled [] low k h e = absurd cc
found_spelled (j ∷ ks) low k h e = by (bytes_eq (str_to_ascii_lowercase j.0) low) refl e (found_spelled ks low k (and_parts _ _ h).1)
  where
    by : (t : Bool) → bytes_eq (str_to_ascii_lowercase j.0) low ≡ t → (if t then Some j.1 else lookup_lower ks low) ≡ Some k → (lookup_lower ks low ≡ Some k → low ≡ spelling k) → low ≡ spelling k
    by true same e more = let a = same_bytes _ low same in let b = same_bytes (str_to_ascii_lowercase j.0) (spelling j.1) (and_parts _ _ h).0 in let c : j.1 ≡ k = cc in sym a ∙ b ∙ ap spelling c
    by false same e more = more e

pub keyword_found : (us : Text) (k : Word) → str_to_ascii_lowercase us ≡ spelling k → keyword us ≡ Some k
unfolding keyword
keyword_found us k e = lookup-lower table us ∙ ap (lookup_lower table) e ∙ found k

pub keyword_spelled : (us : Text) (k : Word) → keyword us ≡ Some k → str_to_ascii_lowercase us ≡ spelling k
unfolding keyword
keyword_spelled us k e = found_spelled table (str_to_ascii_lowercase us) k refl (sym (lookup-lower table us) ∙ e)

pub keyword_none : (us : Text) → ((k : Word) → str_to_ascii_lowercase us ≡ spelling k → ⊥) → keyword us ≡ None
keyword_none us h = by (keyword us) refl
  where
    by : (o : Option Word) → keyword us ≡ o → o ≡ None
    by None e = refl
    by (Some k) e = absurd (h k (keyword_spelled us k e))

-- the three sorts of names
pub group_token : (us : Text) → str_to_ascii_lowercase us ≡ group_word → word_token us ≡ t.Group (bytes_eq us group_word)
group_token us e = ap (λ v. if v then t.Group (bytes_eq us group_word) else keyword_or us (keyword us)) (bytes_same (str_to_ascii_lowercase us) group_word e)

pub keyword_token : (us : Text) (k : Word) → str_to_ascii_lowercase us ≡ spelling k → word_token us ≡ t.Word k
keyword_token us k e =
    ap (λ v. if v then t.Group (bytes_eq us group_word) else keyword_or us (keyword us)) (ap (λ low. bytes_eq low group_word) e ∙ no_group k)
    ∙ ap (keyword_or us) (keyword_found us k e)

pub name_token : (us : Text) → ((k : Word) → str_to_ascii_lowercase us ≡ spelling k → ⊥) → (str_to_ascii_lowercase us ≡ group_word → ⊥) → word_token us ≡ name_of us
name_token us unlike not_group =
    ap (λ v. if v then t.Group (bytes_eq us group_word) else keyword_or us (keyword us)) (false_from_ne_true (bytes_eq (str_to_ascii_lowercase us) group_word) (λ e. not_group (same_bytes _ group_word e)))
    ∙ ap (keyword_or us) (keyword_none us unlike)

-- a name is a lexeme
pub name_lexeme : (us : Text) → IsName us → IsLexeme us (Is (word_token us))
name_lexeme us name = by (bytes_eq (str_to_ascii_lowercase us) group_word) refl (keyword us) refl
  where
    by : (v : Bool) → bytes_eq (str_to_ascii_lowercase us) group_word ≡ v → (o : Option Word) → keyword us ≡ o
        → IsLexeme us (Is (if v then t.Group (bytes_eq us group_word) else keyword_or us o))
    by true e o f = group us name (same_bytes _ group_word e)
    by false e (Some k) f = is_keyword us k name (keyword_spelled us k f)
    by false e None f = identifier us name (λ k s. none k (keyword_found us k s)) (λ g. unlike (bytes_same _ group_word g))
      where
        none : (k : Word) → keyword us ≡ Some k → ⊥
        none k s = let n = sym f ∙ s in cc

        unlike : bytes_eq (str_to_ascii_lowercase us) group_word ≡ true → ⊥
        unlike g = let n = sym e ∙ g in cc
