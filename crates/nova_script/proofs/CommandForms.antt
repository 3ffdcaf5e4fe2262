-- What a line reads as, by the forms of the commands.
use Rattle.std.proofs.Common.{◌≡◌, ℕ, ◌^◌, ◌<◌, Bool, true, false, ◌&&◌, List, [], ◌∷◌, length, Option, Some, None, Ok, Err, codes, if◌then◌else◌, nat_le, refl, sym, ap, ◌∙◌, arith, option_map}
use Rattle.std.specs.Str.{bytes_eq}
use Rattle.std.proofs.lemmas.Slice.Eq.{bytes_eq-Decides}
use Rattle.std.proofs.lemmas.Bool.Decides.{nat_tests}
use Rattle.nova_value.specs.Line.{is_numeral, number_after}
use Rattle.nova_script.specs.Words.{words_of}
use Rattle.nova_name.specs.Names.{is_identifier, is_name, name_of}
use Rattle.nova_script.specs.Forms.{VERBS, command_in, command_of, is_number, is_too_long, name_and_numbers, no_word, number_of, one_name, one_number, or_unknown, or_wrong_words, paired, two_numbers, verb_in, verb_of, with_operands}
use Rattle.nova_script.specs.Commands as f
use Rattle.nova_script.specs.Commands.{IsCommand, IsName, IsNumber, IsRefused, IsWithin, Reads}
use Rattle.nova_script.specs.Laws.{LinesAreForms, RefusalsAreCauses}
use Rattle.nova_script.specs.declared.command.Command.{Command}
use Rattle.nova_script.specs.declared.command.Command.TheVariants as c
use Rattle.nova_script.specs.declared.forms.Verb.{Verb}
use Rattle.nova_script.specs.declared.forms.Verb.TheVariants as v
use Rattle.nova_script.specs.declared.refusal.Refusal.{Refusal}
use Rattle.nova_script.specs.declared.refusal.Refusal.TheVariants.{UnknownCommand, WrongWords, LineTooLong}

-- ---- names and numbers

named : (w : List ℕ) → IsName w → name_of w ≡ Some w
named w is =
    let short : nat_le (length w) 64 ≡ true = grind (arith, nat_tests, is.short) in
    rw (is.letters, short) refl

both : (a b : Bool) → (a && b) ≡ true → (a ≡ true) × (b ≡ true)
both true b e = (refl, e)
both false b e = absurd (cc)

guarded : {A : Type 0} (b : Bool) (x y : A) → (if b then Some x else None) ≡ Some y → (b ≡ true) × (x ≡ y)
guarded true x y e = (refl, cc)
guarded false x y e = absurd (cc)

name_is : (w n : List ℕ) → name_of w ≡ Some n → (w ≡ n) × IsName w
name_is w n e =
    let p = guarded (is_name w) w n e in
    let q = both (is_identifier w) (nat_le (length w) 64) p.0 in
    (p.1, record { letters = q.0; short = grind (arith, nat_tests, q.1) })

numbered : (w : List ℕ) (n : ℕ) → IsNumber w n → number_of w ≡ Some n
numbered w n is =
    let e = is.value in
    let small : nat_le (number_after 0 w) (2 ^ 62) ≡ true = grind (arith, nat_tests, is.bound, e) in
    rw (is.digits, small) (ap Some (sym e))

number_is : (w : List ℕ) (n : ℕ) → number_of w ≡ Some n → IsNumber w n
number_is w n e =
    let p = guarded (is_number w) (number_after 0 w) n e in
    let q = both (is_numeral w) (nat_le (number_after 0 w) (2 ^ 62)) p.0 in
    let s = p.1 in
    record { digits = q.0; value = sym s; bound = grind (arith, nat_tests, q.1, s) }

-- ---- the words behind the first one

mapped : {A B : Type 0} (f : A → B) (o : Option A) (b : B) → option_map f o ≡ Some b → (a : A) × (o ≡ Some a) × (f a ≡ b)
mapped f None b e = absurd (cc)
mapped f (Some a) b e = (a, refl, cc)

one_name_is : (ws : List (List ℕ)) (n : List ℕ) → one_name ws ≡ Some n → (ws ≡ n ∷ []) × IsName n
one_name_is [] n e = absurd (cc)
one_name_is (w ∷ []) n e = let p = name_is w n e in rw (← p.0) (refl, p.1)
one_name_is (w ∷ (x ∷ ws)) n e = absurd (cc)

one_number_is : (ws : List (List ℕ)) (n : ℕ) → one_number ws ≡ Some n → (w : List ℕ) × (ws ≡ w ∷ []) × IsNumber w n
one_number_is [] n e = absurd (cc)
one_number_is (w ∷ []) n e = (w, refl, number_is w n e)
one_number_is (w ∷ (x ∷ ws)) n e = absurd (cc)

-- the parts apart
name_made : (make : List ℕ → Command) (word : List ℕ) → ((n : List ℕ) → IsName n → IsCommand (word ∷ n ∷ []) (make n))
    → (ws : List (List ℕ)) (command : Command) (n : List ℕ) → ws ≡ n ∷ [] → IsName n → make n ≡ command → IsCommand (word ∷ ws) command
name_made make word form ws command n words name made = rw (words, ← made) (form n name)

number_made : (make : ℕ → Command) (word : List ℕ) → ((w : List ℕ) (n : ℕ) → IsNumber w n → IsCommand (word ∷ w ∷ []) (make n))
    → (ws : List (List ℕ)) (command : Command) (w : List ℕ) (n : ℕ) → ws ≡ w ∷ [] → IsNumber w n → make n ≡ command → IsCommand (word ∷ ws) command
number_made make word form ws command w n words number made = rw (words, ← made) (form w n number)

by_name : (make : List ℕ → Command) (word : List ℕ) → ((n : List ℕ) → IsName n → IsCommand (word ∷ n ∷ []) (make n))
    → (ws : List (List ℕ)) (command : Command) → option_map make (one_name ws) ≡ Some command → IsCommand (word ∷ ws) command
by_name make word form ws command e =
    let p = mapped make (one_name ws) command e in
    let q = one_name_is ws p.0 p.1 in
    name_made make word form ws command p.0 q.0 q.1 p.2

by_number : (make : ℕ → Command) (word : List ℕ) → ((w : List ℕ) (n : ℕ) → IsNumber w n → IsCommand (word ∷ w ∷ []) (make n))
    → (ws : List (List ℕ)) (command : Command) → option_map make (one_number ws) ≡ Some command → IsCommand (word ∷ ws) command
by_number make word form ws command e =
    let p = mapped make (one_number ws) command e in
    let q = one_number_is ws p.0 p.1 in
    number_made make word form ws command q.0 p.0 q.1 q.2 p.2

by_none : (made : Command) (word : List ℕ) → IsCommand (word ∷ []) made
    → (ws : List (List ℕ)) (command : Command) → no_word made ws ≡ Some command → IsCommand (word ∷ ws) command
by_none made word form [] command e = let same : made ≡ command = cc in rw (← same) form
by_none made word form (w ∷ ws) command e = absurd (cc)

pairs : {A B : Type 0} (x : Option A) (y : Option B) (r : A × B) → paired x y ≡ Some r → (x ≡ Some r.0) × (y ≡ Some r.1)
pairs None y r e = absurd (cc)
pairs (Some a) None r e = absurd (cc)
pairs (Some a) (Some b) r e = let same : (a, b) ≡ r = cc in rw (← same) (refl, refl)

numbers_are : (ws : List (List ℕ)) (r : ℕ × ℕ) → two_numbers ws ≡ Some r
    → (a : List ℕ) × (b : List ℕ) × (ws ≡ a ∷ b ∷ []) × IsNumber a r.0 × IsNumber b r.1
numbers_are [] r e = absurd (cc)
numbers_are (w ∷ ws) r e =
    let p = pairs (number_of w) (one_number ws) r e in
    let q = one_number_is ws r.1 p.1 in
    (w, q.0, ap (λ (xs : List (List ℕ)). w ∷ xs) q.1, number_is w r.0 p.0, q.2)

range_made : (w n : List ℕ) (ws : List (List ℕ)) (i j : ℕ) (a b : List ℕ) (command : Command) → w ≡ n → IsName w → ws ≡ a ∷ b ∷ [] → IsNumber a i → IsNumber b j
    → c.Chain n i j ≡ command → IsCommand (codes "chain" ∷ w ∷ ws) command
range_made w n ws i j a b command same name words from to made = rw (words, ← made, ← same) (f.chain name from to)

by_range : (ws : List (List ℕ)) (command : Command) → option_map (λ p. c.Chain p.0 p.1.0 p.1.1) (name_and_numbers ws) ≡ Some command → IsCommand (codes "chain" ∷ ws) command
by_range [] command e = absurd (cc)
by_range (w ∷ ws) command e =
    let p = mapped (λ (p : List ℕ × (ℕ × ℕ)). c.Chain p.0 p.1.0 p.1.1) (name_and_numbers (w ∷ ws)) command e in
    let q = pairs (name_of w) (two_numbers ws) p.0 p.1 in
    let s = numbers_are ws p.0.1 q.1 in
    let name = name_is w p.0.0 q.0 in
    range_made w p.0.0 ws p.0.1.0 p.0.1.1 s.0 s.1 command name.0 name.1 s.2 s.3 s.4 p.2

-- ---- first words

abbrev word_of : Verb → List ℕ
word_of v.Load = codes "load"
word_of v.Tick = codes "tick"
word_of v.Run = codes "run"
word_of v.Begin = codes "begin"
word_of v.Finish = codes "finish"
word_of v.Drop = codes "drop"
word_of v.Work = codes "work"
word_of v.Compact = codes "compact"
word_of v.Chain = codes "chain"
word_of v.Collect = codes "collect"
word_of v.Show = codes "show"
word_of v.Blocks = codes "blocks"

abbrev Spells : List (List ℕ × Verb) → Type 0
Spells [] = Unit {0}
Spells (e ∷ es) = (e.0 ≡ word_of e.1) × Spells es

table : Spells VERBS
table = (refl, (refl, (refl, (refl, (refl, (refl, (refl, (refl, (refl, (refl, (refl, (refl, tt))))))))))))

found_by : (b : Bool) (w word : List ℕ) (x verb : Verb) (rest : Option Verb) → bytes_eq w word ≡ b → word ≡ word_of x → (rest ≡ Some verb → w ≡ word_of verb)
    → (if b then Some x else rest) ≡ Some verb → w ≡ word_of verb
found_by true w word x verb rest is spelled behind e = let same : x ≡ verb = cc in (bytes_eq-Decides w word).0 is ∙ spelled ∙ ap word_of same
found_by false w word x verb rest is spelled behind e = behind e

found : (entries : List (List ℕ × Verb)) → Spells entries → (w : List ℕ) (verb : Verb) → verb_in entries w ≡ Some verb → w ≡ word_of verb
found [] spells w verb e = absurd (cc)
found (x ∷ xs) spells w verb e = found_by (bytes_eq w x.0) w x.0 x.1 verb (verb_in xs w) refl spells.0 (found xs spells.1 w verb) e

formed : (verb : Verb) (ws : List (List ℕ)) (command : Command) → with_operands verb ws ≡ Some command → IsCommand (word_of verb ∷ ws) command
formed v.Load ws command e = by_name c.Load (codes "load") (λ n is. f.load is) ws command e
formed v.Tick ws command e = by_number c.Tick (codes "tick") (λ w n is. f.tick is) ws command e
formed v.Run ws command e = by_name c.Run (codes "run") (λ n is. f.run is) ws command e
formed v.Begin ws command e = by_name c.Begin (codes "begin") (λ n is. f.begin is) ws command e
formed v.Finish ws command e = by_name c.Finish (codes "finish") (λ n is. f.finish is) ws command e
formed v.Drop ws command e = by_name c.Drop (codes "drop") (λ n is. f.drop is) ws command e
formed v.Work ws command e = by_none c.Work (codes "work") f.work ws command e
formed v.Compact ws command e = by_name c.Compact (codes "compact") (λ n is. f.compact is) ws command e
formed v.Chain ws command e = by_range ws command e
formed v.Collect ws command e = by_none c.Collect (codes "collect") f.collect ws command e
formed v.Show ws command e = by_name c.Show (codes "show") (λ n is. f.show is) ws command e
formed v.Blocks ws command e = by_name c.Blocks (codes "blocks") (λ n is. f.blocks is) ws command e

-- ---- the words of a command

-- a command's words are read as it
pub read_again : (ws : List (List ℕ)) (command : Command) → IsCommand ws command → command_in ws ≡ Ok (Some command)
read_again _ _ (f.load {c} is) = rw (named c is) refl
read_again _ _ (f.tick {w} {m} is) = rw (numbered w m is) refl
read_again _ _ (f.run {t} is) = rw (named t is) refl
read_again _ _ (f.begin {t} is) = rw (named t is) refl
read_again _ _ (f.finish {t} is) = rw (named t is) refl
read_again _ _ (f.drop {t} is) = rw (named t is) refl
read_again _ _ f.work = refl
read_again _ _ (f.compact {c} is) = rw (named c is) refl
read_again _ _ (f.chain {c} {v} {w} {i} {j} is from to) = rw (named c is, numbered v i from, numbered w j to) refl
read_again _ _ f.collect = refl
read_again _ _ (f.show {c} is) = rw (named c is) refl
read_again _ _ (f.blocks {c} is) = rw (named c is) refl

-- and what is read is one
some_command : (w : List ℕ) (ws : List (List ℕ)) (o : Option Verb) (command : Command) → verb_of w ≡ o → or_unknown o ws ≡ Ok (Some command) → IsCommand (w ∷ ws) command
some_command w ws None command is e = absurd (cc)
some_command w ws (Some verb) command is e = by (with_operands verb ws) refl e
  where
    by : (o : Option Command) → with_operands verb ws ≡ o → or_wrong_words o ≡ Ok (Some command) → IsCommand (w ∷ ws) command
    by None has e = absurd (cc)
    by (Some made) has e =
        let same : made ≡ command = cc in
        let word = found VERBS table w verb is in
        rw (word, ← same) (formed verb ws made has)

-- ---- lines

within : (line : List ℕ) → IsWithin line → is_too_long line ≡ false
within line is = grind (arith, nat_tests)

is_within : (line : List ℕ) → is_too_long line ≡ false → IsWithin line
is_within line e = grind (arith, nat_tests)

above : (line : List ℕ) → 4194304 < length line → is_too_long line ≡ true
above line is = grind (arith, nat_tests)

is_above : (line : List ℕ) → is_too_long line ≡ true → 4194304 < length line
is_above line e = grind (arith, nat_tests)

-- what the words read as
abbrev InWords : List (List ℕ) → Option Command → Type 0
InWords ws None = ws ≡ []
InWords ws (Some command) = IsCommand ws command

no_none : (o : Option Verb) (ws : List (List ℕ)) → or_unknown o ws ≡ Ok None → ⊥
no_none None ws e = cc
no_none (Some verb) ws e = by (with_operands verb ws) e
  where
    by : (o : Option Command) → or_wrong_words o ≡ Ok None → ⊥
    by None e = cc
    by (Some made) e = cc

in_words : (ws : List (List ℕ)) (read : Option Command) → command_in ws ≡ Ok read → InWords ws read
in_words [] None e = refl
in_words [] (Some command) e = absurd (cc)
in_words (w ∷ ws) None e = absurd (no_none (verb_of w) ws e)
in_words (w ∷ ws) (Some command) e = some_command w ws (verb_of w) command refl e

as_read : (line : List ℕ) (read : Option Command) → is_too_long line ≡ false → InWords (words_of line) read → Reads line read
as_read line None e is = f.blank (is_within line e) is
as_read line (Some command) e is = f.command (is_within line e) is

reads : (line : List ℕ) (read : Option Command) (b : Bool) → is_too_long line ≡ b → (if b then Err LineTooLong else command_in (words_of line)) ≡ Ok read → Reads line read
reads line read true is e = absurd (cc)
reads line read false is e = as_read line read is (in_words (words_of line) read e)

read_back : (line : List ℕ) (read : Option Command) → Reads line read → command_of line ≡ Ok read
read_back _ _ (f.command {line} {c} short is) = rw (within line short) (read_again (words_of line) c is)
read_back _ _ (f.blank {line} short none) = rw (within line short, none) refl

pub lines_are_forms : LinesAreForms
lines_are_forms line read = (reads line read (is_too_long line) refl, read_back line read)

-- ---- refusals

-- why these words are none
abbrev RefusedWords : List ℕ → List (List ℕ) → Refusal → Type 0
RefusedWords line ws refusal = IsWithin line → words_of line ≡ ws → IsRefused line refusal

no_command : (w : List ℕ) (ws : List (List ℕ)) → command_in (w ∷ ws) ≡ Err WrongWords → (command : Command) → IsCommand (w ∷ ws) command → ⊥
no_command w ws e command is = let again = read_again (w ∷ ws) command is in cc

refused_words : (line w : List ℕ) (ws : List (List ℕ)) (o : Option Verb) (refusal : Refusal) → verb_of w ≡ o → or_unknown o ws ≡ Err refusal → RefusedWords line (w ∷ ws) refusal
refused_words line w ws None refusal is e short words = let same : UnknownCommand ≡ refusal = cc in rw (← same) (f.unknown short words is)
refused_words line w ws (Some verb) refusal is e short words = by (with_operands verb ws) refl e
  where
    by : (o : Option Command) → with_operands verb ws ≡ o → or_wrong_words o ≡ Err refusal → IsRefused line refusal
    by None has e =
        let same : WrongWords ≡ refusal = cc in
        let wrong : command_in (w ∷ ws) ≡ Err WrongWords = rw (is, has) refl in
        rw (← same) (f.wrong short words (λ (none : verb_of w ≡ None). cc) (no_command w ws wrong))
    by (Some made) has e = absurd (cc)

refused_in : (line : List ℕ) (ws : List (List ℕ)) (refusal : Refusal) → command_in ws ≡ Err refusal → RefusedWords line ws refusal
refused_in line [] refusal e short words = absurd (cc)
refused_in line (w ∷ ws) refusal e short words = refused_words line w ws (verb_of w) refusal refl e short words

refused : (line : List ℕ) (refusal : Refusal) (b : Bool) → is_too_long line ≡ b → (if b then Err LineTooLong else command_in (words_of line)) ≡ Err refusal → IsRefused line refusal
refused line refusal true is e = let same : LineTooLong ≡ refusal = cc in rw (← same) (f.too_long (is_above line is))
refused line refusal false is e = refused_in line (words_of line) refusal e (is_within line is) refl

wrong_words : (w : List ℕ) (ws : List (List ℕ)) (o : Option Verb) → verb_of w ≡ o → (o ≡ None → ⊥) → ((command : Command) → IsCommand (w ∷ ws) command → ⊥) → or_unknown o ws ≡ Err WrongWords
wrong_words w ws None is some none = absurd (some refl)
wrong_words w ws (Some verb) is some none = by (with_operands verb ws) refl
  where
    by : (o : Option Command) → with_operands verb ws ≡ o → or_wrong_words o ≡ Err WrongWords
    by None has = refl
    by (Some made) has = absurd (none made (rw (found VERBS table w verb is) (formed verb ws made has)))

refused_back : (line : List ℕ) (refusal : Refusal) → IsRefused line refusal → command_of line ≡ Err refusal
refused_back _ _ (f.too_long {line} long) = rw (above line long) refl
refused_back _ _ (f.unknown {line} {w} {ws} short words is) = rw (within line short, words, is) refl
refused_back _ _ (f.wrong {line} {w} {ws} short words some none) = rw (within line short, words) (wrong_words w ws (verb_of w) refl some none)

pub refusals_are_causes : RefusalsAreCauses
refusals_are_causes line refusal = (refused line refusal (is_too_long line) refl, refused_back line refusal)
