-- The tokens of a text, by the piece in front.
use Rattle.std.proofs.Common.{◌≡◌, ℕ, zero, suc, ◌+◌, ◌-◌, ◌<◌, ◌≤◌, Bool, true, false, List, [], ◌∷◌, ◌++◌, length, take, drop, Option, Some, None, Ok, Err, refl, ap, sym, ◌∙◌, arith, add-zero, append_assoc, length-drop, MatchOption}
use Rattle.std.specs.Prelude.{if◌then◌else◌, ◌&&◌, ◌||◌, ◌==◌}
use Rattle.std.proofs.lemmas.Bool.{and_parts}
use Rattle.std.proofs.lemmas.List.{drop-drop}
use Rattle.std.proofs.lemmas.List.Sums.{prefix_len-le-length}
use Rattle.nova_pig_scan.specs.declared.lex.TheConstants.{TOO_LARGE}
use Rattle.nova_pig_tree.specs.declared.token.Token.{Token}
use Rattle.nova_pig_tree.specs.declared.token.Symbol.{Symbol}
use Rattle.nova_pig_scan.specs.declared.lex.Class.{Class}
use Rattle.nova_pig_scan.specs.declared.lex.Class.TheVariants as class
use Rattle.nova_pig_scan.specs.declared.lex.Step.{Step}
use Rattle.nova_pig_scan.specs.declared.lex.Step.TheVariants as st
use Rattle.nova_pig_scan.specs.declared.piece.Piece.{Piece}
use Rattle.nova_pig_scan.specs.declared.piece.Piece.TheVariants.{End, Skip, Take, TooLarge, Bad}
use Rattle.nova_pig_tree.specs.declared.token.Placed.{Placed}
use Rattle.nova_pig_scan.specs.Lex.{class_of, line_len, block, two_more, word_len, digit_len, capped, literal, literal_by, step_of, symbol_by, single_symbol}
use Rattle.nova_pig_scan.specs.Lexemes.{Text, begins}
use Rattle.nova_pig_scan.specs.Text.{placed}
use Rattle.nova_pig_scan.specs.Tokens.{Outcome, piece, piece_by, dash, comment, slash, numeral, position, quoted, symbol_piece, scan, scan_by, onto, prepended, next, Within}

-- the bytes inside a piece are passed over
pub scan_inside : (n at : ℕ) (text : Text) → scan n at text ≡ scan 0 (at + n) (drop n text)
unfolding scan
scan_inside n at [] = sym (empty n)
  where
    empty : (n : ℕ) → scan 0 (at + n) (drop n []) ≡ Ok []
    empty zero = refl
    empty (suc n) = refl
scan_inside zero at (b ∷ bs) = rw add-zero refl
scan_inside (suc n) at (b ∷ bs) =
    let e : at + suc n ≡ at + 1 + n = omega arith in
    rw e (scan_inside n (at + 1) bs)

literal_by-within : (s : Step) (b : ℕ) (plain after : Option (Text × ℕ)) (n : ℕ)
    → MatchOption plain (Unit {0}) (λ p. p.1 ≤ n) → MatchOption after (Unit {0}) (λ p. p.1 ≤ n)
    → MatchOption (literal_by s b plain after) (Unit {0}) (λ p. p.1 ≤ n + 1)
literal_by-within st.Bad b plain after n h k = tt
literal_by-within st.Close b plain after n h k = omega arith
literal_by-within st.Escape b plain None n h k = tt
literal_by-within st.Escape b plain (Some p) n h k = omega (arith, k)
literal_by-within st.Keep b None after n h k = tt
literal_by-within st.Keep b (Some p) after n h k = omega (arith, h)

pub literal-within : (escaped : Bool) (text : Text) → MatchOption (literal escaped text) (Unit {0}) (λ p. p.1 ≤ length text)
unfolding literal
literal-within escaped [] = tt
literal-within escaped (b ∷ bs) =
    let e : suc (length bs) ≡ length bs + 1 = omega arith in
    rw e (literal_by-within (step_of escaped b) b (literal false bs) (literal true bs) (length bs) (literal-within false bs) (literal-within true bs))

block_by-within : (t : Bool) (o : Option ℕ) (n : ℕ) → MatchOption o (Unit {0}) (λ k. k ≤ n) → (t ≡ true → 1 ≤ n)
    → MatchOption (if t then Some 2 else two_more o) (Unit {0}) (λ k. k ≤ n + 1)
block_by-within true o n h k = let one = k refl in omega (arith, one)
block_by-within false None n h k = tt
block_by-within false (Some m) n h k = omega (arith, h)

begins-some : (b : ℕ) (text : Text) → begins b text ≡ true → 1 ≤ length text
begins-some b [] e = absurd cc
begins-some b (c ∷ cs) e = omega arith

pub block-within : (text : Text) → MatchOption (block text) (Unit {0}) (λ n. n ≤ length text)
unfolding block
block-within [] = tt
block-within (b ∷ bs) =
    let e : suc (length bs) ≡ length bs + 1 = omega arith in
    rw e (block_by-within (b == 42 && begins 47 bs) (block bs) (length bs) (block-within bs) (λ h. begins-some 47 bs ((and_parts (b == 42) (begins 47 bs) h).1)))

chosen : (t : Bool) (p q : Piece) (n : ℕ) → (t ≡ true → Within p n) → (t ≡ false → Within q n) → Within (if t then p else q) n
chosen true p q n h k = h refl
chosen false p q n h k = k refl

comment-within : (o : Option ℕ) (n : ℕ) → MatchOption o (Unit {0}) (λ k. k ≤ n) → Within (comment o) (suc (suc n))
comment-within None n h = tt
comment-within (Some k) n h = (omega arith, omega (arith, h))

quoted-within : (o : Option (Text × ℕ)) (n : ℕ) → MatchOption o (Unit {0}) (λ p. p.1 ≤ n) → Within (quoted o) (suc n)
quoted-within None n h = tt
quoted-within (Some p) n h = (omega arith, omega (arith, h))

numeral-within : (value n len : ℕ) → 0 < n → n ≤ len → Within (numeral value n) len
numeral-within value n len h k = chosen (value == TOO_LARGE) _ _ len (λ e. (h, k)) (λ e. (h, k))

line-le : (bs : Text) → line_len bs ≤ length bs
line-le bs = prefix_len-le-length _ bs

digits-le : (bs : Text) → digit_len bs ≤ length bs
digits-le bs = prefix_len-le-length _ bs

word-le : (bs : Text) → word_len bs ≤ length bs
word-le bs = prefix_len-le-length _ bs

dash-within : (bs : Text) → Within (dash bs) (suc (length bs))
dash-within [] = (omega arith, omega arith)
dash-within (b ∷ bs) = chosen (b == 45) _ _ _ (λ e. (omega arith, let h = line-le bs in omega (arith, h))) (λ e. (omega arith, omega arith))

slash-within : (bs : Text) → Within (slash bs) (suc (length bs))
slash-within [] = tt
slash-within (b ∷ bs) = chosen (b == 42) _ _ _ (λ e. comment-within (block bs) (length bs) (block-within bs)) (λ e. tt)

number_len : (after : Text) (n len : ℕ) → n + length after ≤ len → (if begins 76 after || begins 108 after then n + 1 else n) ≤ len
number_len [] n len h = omega (arith, h)
number_len (b ∷ bs) n len h = more (begins 76 (b ∷ bs) || begins 108 (b ∷ bs))
  where
    more : (t : Bool) → (if t then n + 1 else n) ≤ len
    more true = omega (arith, h)
    more false = omega (arith, h)

number_some : (t : Bool) (n : ℕ) → 0 < n → 0 < (if t then n + 1 else n)
number_some true n h = omega arith
number_some false n h = h

-- some symbol of one byte or two
abbrev Symbolic : Option (Symbol × ℕ) → ℕ → Type 0
Symbolic o n = MatchOption o (Unit {0}) (λ p. (0 < p.1) × (p.1 ≤ n))

symbolic_if : (t : Bool) (p q : Option (Symbol × ℕ)) (n : ℕ) → (t ≡ true → Symbolic p n) → (t ≡ false → Symbolic q n) → Symbolic (if t then p else q) n
symbolic_if true p q n h k = h refl
symbolic_if false p q n h k = k refl

single-within : (b n : ℕ) → 1 ≤ n → Symbolic (single_symbol b) n
single-within b n h =
    symbolic_if (b == 43) _ _ n (λ e. (omega arith, h)) (λ e.
    symbolic_if (b == 42) _ _ n (λ e. (omega arith, h)) (λ e.
    symbolic_if (b == 40) _ _ n (λ e. (omega arith, h)) (λ e.
    symbolic_if (b == 41) _ _ n (λ e. (omega arith, h)) (λ e.
    symbolic_if (b == 44) _ _ n (λ e. (omega arith, h)) (λ e.
    symbolic_if (b == 59) _ _ n (λ e. (omega arith, h)) (λ e.
    symbolic_if (b == 46) _ _ n (λ e. (omega arith, h)) (λ e.
    symbolic_if (b == 63) _ _ n (λ e. (omega arith, h)) (λ e. tt))))))))

two-within : (t : Bool) (a b : Symbol) (n : ℕ) → (t ≡ true → 1 ≤ n) → Symbolic (if t then Some (a, 2) else Some (b, 1)) (suc n)
two-within true a b n h = let k = h refl in (omega arith, omega (arith, k))
two-within false a b n h = (omega arith, omega arith)

symbol_by-within : (b : ℕ) (bs : Text) → Symbolic (symbol_by b bs) (suc (length bs))
symbol_by-within b bs =
    symbolic_if (b == 61) _ _ _ (λ e. two-within (begins 61 bs) _ _ _ (begins-some 61 bs)) (λ e.
    symbolic_if (b == 33 && begins 61 bs) _ _ _ (λ e. let k = begins-some 61 bs ((and_parts (b == 33) _ e).1) in (omega arith, omega (arith, k))) (λ e.
    symbolic_if (b == 60) _ _ _ (λ e. two-within (begins 61 bs) _ _ _ (begins-some 61 bs)) (λ e.
    symbolic_if (b == 62) _ _ _ (λ e. two-within (begins 61 bs) _ _ _ (begins-some 61 bs)) (λ e.
    symbolic_if (b == 58) _ _ _ (λ e. two-within (begins 58 bs) _ _ _ (begins-some 58 bs)) (λ e.
    single-within b _ (omega arith))))))

symbol_piece-within : (o : Option (Symbol × ℕ)) (n : ℕ) → Symbolic o n → Within (symbol_piece o) n
symbol_piece-within None n h = tt
symbol_piece-within (Some p) n h = h

position-within : (bs : Text) → Within (position bs) (suc (length bs))
position-within bs = chosen (digit_len bs == 0) _ _ _ (λ e. tt) (λ e.
    chosen (capped (take (digit_len bs) bs) == TOO_LARGE) _ _ _ (λ e. (omega arith, let h = digits-le bs in omega (arith, h)))
    (λ e. (omega arith, let h = digits-le bs in omega (arith, h))))

piece_by-within : (c : Class) (b : ℕ) (bs : Text) → Within (piece_by c (b ∷ bs) bs) (suc (length bs))
piece_by-within class.Blank b bs = (omega arith, omega arith)
piece_by-within class.Dash b bs = dash-within bs
piece_by-within class.Slash b bs = slash-within bs
piece_by-within class.Letter b bs = (omega arith, let h = word-le bs in omega (arith, h))
piece_by-within class.Digit b bs =
    let h = digits-le bs in
    let n = digit_len bs + 1 in
    numeral-within _ _ _ (number_some _ n (omega arith)) (number_len (drop n (b ∷ bs)) n _ (rw length-drop (omega (arith, h))))
piece_by-within class.Dollar b bs = position-within bs
piece_by-within class.Quote b bs = quoted-within (literal false bs) (length bs) (literal-within false bs)
piece_by-within class.Other b bs = symbol_piece-within (symbol_by b bs) _ (symbol_by-within b bs)

pub piece-within : (text : Text) → Within (piece text) (length text)
piece-within [] = tt
piece-within (b ∷ bs) = piece_by-within (class_of b) b bs

scan_by-same : (p : Piece) (b at : ℕ) (bs : Text) → Within p (suc (length bs)) → scan_by p at (λ n. scan (n - 1) (at + 1) bs) ≡ next p at (b ∷ bs)
scan_by-same End b at bs h = refl
scan_by-same (Skip zero) b at bs h = absurd (omega (arith, h.0))
scan_by-same (Skip (suc n)) b at bs h = goes n
  where
    goes : (n : ℕ) → scan (suc n - 1) (at + 1) bs ≡ scan 0 (at + suc n) (drop n bs)
    goes n = let e : suc n - 1 ≡ n = omega arith in let f : at + suc n ≡ at + 1 + n = omega arith in rw (e, f) (scan_inside n (at + 1) bs)
scan_by-same (Take t zero) b at bs h = absurd (omega (arith, h.0))
scan_by-same (Take t (suc n)) b at bs h = ap (onto (placed t at (suc n))) (goes n)
  where
    goes : (n : ℕ) → scan (suc n - 1) (at + 1) bs ≡ scan 0 (at + suc n) (drop n bs)
    goes n = let e : suc n - 1 ≡ n = omega arith in let f : at + suc n ≡ at + 1 + n = omega arith in rw (e, f) (scan_inside n (at + 1) bs)
scan_by-same (TooLarge n) b at bs h = refl
scan_by-same Bad b at bs h = refl

-- the tokens from a place on are those of the piece there and of what follows it
pub scan_step : (at : ℕ) (text : Text) → scan 0 at text ≡ next (piece text) at text
unfolding scan
scan_step at [] = refl
scan_step at (b ∷ bs) = scan_by-same (piece (b ∷ bs)) b at bs (piece-within (b ∷ bs))

prepended_onto : (prefix : List Placed) (p : Placed) (o : Outcome) → prepended prefix (onto p o) ≡ prepended (prefix ++ p ∷ []) o
prepended_onto prefix p (Ok ps) = ap Ok (sym (append_assoc prefix (p ∷ []) ps))
prepended_onto prefix p (Err f) = refl

-- one turn of the scanner
pub turn : (prefix : List Placed) (at : ℕ) (text : Text) (p : Piece) → p ≡ piece (drop at text)
    → prepended prefix (scan 0 at (drop at text)) ≡ prepended prefix (next p at (drop at text))
turn prefix at text p e = ap (prepended prefix) (scan_step at (drop at text) ∙ ap (λ q. next q at (drop at text)) (sym e))

pub turn_skip : (prefix : List Placed) (at n : ℕ) (text : Text) → Skip n ≡ piece (drop at text)
    → prepended prefix (scan 0 at (drop at text)) ≡ prepended prefix (scan 0 (at + n) (drop (at + n) text))
turn_skip prefix at n text e = turn prefix at text (Skip n) e ∙ ap (λ us. prepended prefix (scan 0 (at + n) us)) (drop-drop n at text)

pub turn_take : (prefix : List Placed) (at n : ℕ) (text : Text) (t : Token) → Take t n ≡ piece (drop at text)
    → prepended prefix (scan 0 at (drop at text)) ≡ prepended (prefix ++ placed t at n ∷ []) (scan 0 (at + n) (drop (at + n) text))
turn_take prefix at n text t e = turn prefix at text (Take t n) e ∙ prepended_onto prefix (placed t at n) (scan 0 (at + n) (drop n (drop at text))) ∙ ap (λ us. prepended (prefix ++ placed t at n ∷ []) (scan 0 (at + n) us)) (drop-drop n at text)

pub within_at : (at : ℕ) (text : Text) (p : Piece) → at ≤ length text → p ≡ piece (drop at text) → Within p (length text - at)
within_at at text p room e = rw e (rw (← (length-drop at text)) (piece-within (drop at text)))

-- only at the end nothing is in front
if_end : (t : Bool) (p q : Piece) → (p ≡ End → ⊥) → (q ≡ End → ⊥) → (if t then p else q) ≡ End → ⊥
if_end true p q h k e = h e
if_end false p q h k e = k e

comment_end : (o : Option ℕ) → comment o ≡ End → ⊥
comment_end None e = cc
comment_end (Some n) e = cc

quoted_end : (o : Option (Text × ℕ)) → quoted o ≡ End → ⊥
quoted_end None e = cc
quoted_end (Some n) e = cc

symbol_end : (o : Option (Symbol × ℕ)) → symbol_piece o ≡ End → ⊥
symbol_end None e = cc
symbol_end (Some n) e = cc

dash_end : (bs : Text) → dash bs ≡ End → ⊥
dash_end [] e = cc
dash_end (b ∷ bs) e = if_end (b == 45) _ _ (λ e. cc) (λ e. cc) e

slash_end : (bs : Text) → slash bs ≡ End → ⊥
slash_end [] e = cc
slash_end (b ∷ bs) e = if_end (b == 42) _ _ (comment_end (block bs)) (λ e. cc) e

piece_by_end : (c : Class) (b : ℕ) (bs : Text) → piece_by c (b ∷ bs) bs ≡ End → ⊥
piece_by_end class.Blank b bs e = cc
piece_by_end class.Dash b bs e = dash_end bs e
piece_by_end class.Slash b bs e = slash_end bs e
piece_by_end class.Letter b bs e = cc
piece_by_end class.Digit b bs e = if_end (capped (take (digit_len bs + 1) (b ∷ bs)) == TOO_LARGE) _ _ (λ e. cc) (λ e. cc) e
piece_by_end class.Dollar b bs e =
    if_end (digit_len bs == 0) _ _ (λ e. cc) (if_end (capped (take (digit_len bs) bs) == TOO_LARGE) _ _ (λ e. cc) (λ e. cc)) e
piece_by_end class.Quote b bs e = quoted_end (literal false bs) e
piece_by_end class.Other b bs e = symbol_end (symbol_by b bs) e

pub not_end : (text : Text) → piece text ≡ End → text ≡ []
not_end [] e = refl
not_end (b ∷ bs) e = absurd (piece_by_end (class_of b) b bs e)
