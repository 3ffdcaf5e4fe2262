-- The limits on the tokens of a script.
use Rattle.std.specs.Prelude.{if◌then◌else◌, ◌≡◌, ℕ, ◌≤◌, Bool, true, false, List, [], ◌∷◌, drop, filter, flat_map, count_by, Option, Some, None}
use Rattle.nova_pig_parse.specs.declared.limit.TheConstants.{MAX_SEMICOLONS, MAX_ASSIGNS}
use Rattle.nova_value.specs.Lists.{onto_first}
use Rattle.nova_pig_tree.specs.declared.token.Token.{Token}
use Rattle.nova_pig_tree.specs.declared.token.Token.TheVariants.{Word, Symbol}
use Rattle.nova_pig_tree.specs.declared.token.Word.TheVariants as w
use Rattle.nova_pig_tree.specs.declared.token.Symbol.TheVariants as s
use Rattle.nova_pig_tree.specs.declared.token.Placed.{Placed}
pub use Rattle.nova_pig_grammar.specs.Statement.{is_semicolon}

abbrev pub is_assign : Token → Bool
is_assign (Symbol s.Assign) = true
is_assign _ = false

-- how many `;` and `=` there are
abbrev pub semicolons : List Placed → ℕ
semicolons = count_by (λ p. is_semicolon p.token)

abbrev pub assigns : List Placed → ℕ
assigns = count_by (λ p. is_assign p.token)

-- a piece ends at a comma or a `;`
abbrev pub parts : Token → Bool
parts (Symbol s.Semicolon) = true
parts (Symbol s.Comma) = true
parts _ = false

-- ( ? + - *, a comparison, NOT, AND or OR
abbrev pub nests : Token → Bool
nests (Symbol s.Open) = true
nests (Symbol s.Question) = true
nests (Symbol s.Plus) = true
nests (Symbol s.Minus) = true
nests (Symbol s.Star) = true
nests (Symbol (s.Compare op)) = true
nests (Word w.Not) = true
nests (Word w.And) = true
nests (Word w.Or) = true
nests _ = false

-- the longest runs without `,` and `;`
unfoldable pub pieces : List Placed → List (List Placed)
pieces [] = [] ∷ []
pieces (p ∷ ps) = if parts p.token then [] ∷ pieces ps else onto_first p (pieces ps)

-- the tokens that nest, but for so many
abbrev pub beyond : ℕ → List Placed → List Placed
beyond n piece = drop n (filter (λ p. nests p.token) piece)

abbrev pub first_start : List Placed → Option ℕ
first_start [] = None
first_start (p ∷ ps) = Some p.start

-- the place of the first 65th of a piece
abbrev pub first_deep : List Placed → Option ℕ
first_deep ps = first_start (flat_map (beyond 64) (pieces ps))

-- at most 257 `;`, at most 64 tokens that nest in a piece, at most 256 `=`
pub record IsWithin (ps : List Placed) : Type 0 where
  pub few_semicolons : semicolons ps ≤ MAX_SEMICOLONS
  pub shallow : first_deep ps ≡ None
  pub few_assigns : assigns ps ≤ MAX_ASSIGNS
