-- Which lines are refused as not built.
use Rattle.std.proofs.Common.{◌≡◌, ℕ, ◌<◌, ◌≤◌, Bool, true, false, List, [], length, Option, Some, None, Result, Ok, Err, refl, ap, if◌then◌else◌, arith}
use Rattle.std.specs.Prelude.{nat_le}
use Rattle.std.proofs.lemmas.Bool.Decides.{nat_tests}
use Rattle.nova_script.specs.Words.{words_of}
use Rattle.nova_script.specs.Commands as f
use Rattle.nova_script.specs.Commands.{IsCommand, IsRefused, IsWithin, Reads}
use Rattle.nova_script.specs.Forms.{command_of}
use Rattle.nova_script.specs.Requests.{Meets}
use Rattle.nova_script.specs.Session.{Surroundings, met_by, request_of}
use Rattle.nova_script.specs.declared.command.Command.{Command}
use Rattle.nova_script.specs.declared.command.Command.TheVariants as c
use Rattle.nova_script.specs.declared.context.Request.{Request}
use Rattle.nova_script.specs.declared.refusal.Refusal.{Refusal}
use Rattle.nova_script.specs.declared.refusal.Refusal.TheVariants.{LineTooLong, NotBuilt}
use Rattle.nova_script.proofs.CommandForms.{lines_are_forms, refusals_are_causes}
use Rattle.nova_script.proofs.RequestRules.{met_are_causes}
use Rattle.nova_building.specs.Building.{built_met, built_only, is_built, told_while_building}
use Rattle.nova_building.specs.Laws as l
use Rattle.nova_building.specs.Laws.{IsBuiltForm, IsNotBuilt, WordsAreBuilt}

-- ---- words and commands

built_command : (ws : List (List ℕ)) → IsBuiltForm ws → (d : Command) × IsCommand ws d × (is_built d ≡ true)
built_command _ (l.load {c = name} is) = (c.Load name, f.load is, refl)
built_command _ (l.tick {m} is) = (c.Tick m, f.tick is, refl)
built_command _ (l.run {t = name} is) = (c.Run name, f.run is, refl)
built_command _ (l.begin {t = name} is) = (c.Begin name, f.begin is, refl)
built_command _ (l.drop {t = name} is) = (c.Drop name, f.drop is, refl)
built_command _ (l.show {c = name} is) = (c.Show name, f.show is, refl)

built_form : (ws : List (List ℕ)) (d : Command) → IsCommand ws d → is_built d ≡ true → IsBuiltForm ws
built_form _ _ (f.load is) e = l.load is
built_form _ _ (f.tick is) e = l.tick is
built_form _ _ (f.run is) e = l.run is
built_form _ _ (f.begin is) e = l.begin is
built_form _ _ (f.finish is) e = absurd (cc)
built_form _ _ (f.drop is) e = l.drop is
built_form _ _ f.work e = absurd (cc)
built_form _ _ (f.compact is) e = absurd (cc)
built_form _ _ (f.chain is from to) e = absurd (cc)
built_form _ _ f.collect e = absurd (cc)
built_form _ _ (f.show is) e = l.show is
built_form _ _ (f.blocks is) e = absurd (cc)

-- ---- lines and commands

as_command : (line : List ℕ) (d : Command) → Reads line (Some d) → IsWithin line × IsCommand (words_of line) d
as_command _ _ (f.command short is) = (short, is)

as_blank : (line : List ℕ) → Reads line None → words_of line ≡ []
as_blank _ (f.blank short none) = none

built_line : (line : List ℕ) → IsWithin line → IsBuiltForm (words_of line) → (d : Command) × (command_of line ≡ Ok (Some d)) × (is_built d ≡ true)
built_line line short is =
    let p = built_command (words_of line) is in
    (p.0, (lines_are_forms line (Some p.0)).1 (f.command short p.1), p.2)

-- no command is refused as not built by what it meets
never_met : (x : Surroundings) (d : Command) → request_of x d ≡ Err NotBuilt → ⊥
never_met x d e = none d ((met_are_causes x d NotBuilt).0 e)
  where
    none : (d : Command) → Meets x d NotBuilt → ⊥
    none d is = elim is [ ]

-- ---- both directions

some_words : (line : List ℕ) (d : Command) → command_of line ≡ Ok (Some d) → words_of line ≡ [] → IsWithin line → ⊥
some_words line d is none short =
    let blank = (lines_are_forms line None).1 (f.blank short none) in
    absurd (cc)

refused_so : (line : List ℕ) (refusal : Refusal) → IsRefused line refusal → command_of line ≡ Err refusal → told_while_building refusal ≡ NotBuilt → IsNotBuilt line
refused_so _ _ (f.too_long long) is e = absurd (cc)
refused_so _ _ (f.unknown {line} short words verb) is e = record { within = short; words = λ none. cc; other = λ form. let p = built_line line short form in cc }
refused_so _ _ (f.wrong {line} short words some none) is e = record { within = short; words = λ blank. cc; other = λ form. let p = built_line line short form in cc }

told_so : (x : Surroundings) (line : List ℕ) → built_met x line ≡ Some (Err NotBuilt) → IsNotBuilt line
told_so x line e = go (command_of line) refl e
  where
    unbuilt : (d : Command) → command_of line ≡ Ok (Some d) → (b : Bool) → is_built d ≡ b → met_by x (if b then Ok (Some d) else Err NotBuilt) ≡ Some (Err NotBuilt) → IsNotBuilt line
    unbuilt d is true built e = let same : request_of x d ≡ Err NotBuilt = cc in absurd (never_met x d same)
    unbuilt d is false built e =
        let read = as_command line d ((lines_are_forms line (Some d)).0 is) in
        record { within = read.0; words = λ none. some_words line d is none read.0; other = λ form. let p = built_line line read.0 form in cc }

    go : (m : Result (Option Command) Refusal) → command_of line ≡ m → met_by x (built_only m) ≡ Some (Err NotBuilt) → IsNotBuilt line
    go (Ok None) is e = absurd (cc)
    go (Ok (Some d)) is e = unbuilt d is (is_built d) refl e
    go (Err refusal) is e =
        let same : told_while_building refusal ≡ NotBuilt = cc in
        refused_so line refusal ((refusals_are_causes line refusal).0 is) is same

refusal_told : (line : List ℕ) (refusal : Refusal) → IsRefused line refusal → IsWithin line → told_while_building refusal ≡ NotBuilt
refusal_told _ _ (f.too_long {line} long) short = absurd (omega (arith, long, short))
refusal_told _ _ (f.unknown within words verb) short = refl
refusal_told _ _ (f.wrong within words some none) short = refl

so_told : (x : Surroundings) (line : List ℕ) → IsNotBuilt line → built_met x line ≡ Some (Err NotBuilt)
so_told x line so = go (command_of line) refl
  where
    unbuilt : (d : Command) → IsCommand (words_of line) d → (b : Bool) → is_built d ≡ b → met_by x (if b then Ok (Some d) else Err NotBuilt) ≡ Some (Err NotBuilt)
    unbuilt d is true built = absurd (so.other (built_form (words_of line) d is built))
    unbuilt d is false built = refl

    go : (m : Result (Option Command) Refusal) → command_of line ≡ m → met_by x (built_only m) ≡ Some (Err NotBuilt)
    go (Ok None) is = absurd (so.words (as_blank line ((lines_are_forms line None).0 is)))
    go (Ok (Some d)) is = unbuilt d (as_command line d ((lines_are_forms line (Some d)).0 is)).1 (is_built d) refl
    go (Err refusal) is = ap (λ (r : Refusal). let o : Option (Result Request Refusal) = Some (Err r) in o) (refusal_told line refusal ((refusals_are_causes line refusal).0 is) so.within)

-- what a built command meets is told as ever
as_ever : (x : Surroundings) (line : List ℕ) → IsBuiltForm (words_of line) → built_met x line ≡ met_by x (command_of line)
as_ever x line form = go (command_of line) refl
  where
    same_refusal : (refusal : Refusal) → IsRefused line refusal → command_of line ≡ Err refusal → ◌≡◌ {A = Option (Result Request Refusal)} (Some (Err (told_while_building refusal))) (Some (Err refusal))
    same_refusal _ (f.too_long long) is = refl
    same_refusal _ (f.unknown short words verb) is = let p = built_line line short form in absurd (cc)
    same_refusal _ (f.wrong short words some none) is = let p = built_line line short form in absurd (cc)

    go : (m : Result (Option Command) Refusal) → command_of line ≡ m → met_by x (built_only m) ≡ met_by x m
    go (Ok None) is = refl
    go (Ok (Some d)) is =
        let read = as_command line d ((lines_are_forms line (Some d)).0 is) in
        let p = built_line line read.0 form in
        let built : is_built d ≡ true = cc in
        ap (λ (b : Bool). met_by x (if b then Ok (Some d) else Err NotBuilt)) built
    go (Err refusal) is = same_refusal refusal ((refusals_are_causes line refusal).0 is) is

-- no command is refused as too long by what it meets
never_long : (x : Surroundings) (d : Command) → request_of x d ≡ Err LineTooLong → ⊥
never_long x d e = none d ((met_are_causes x d LineTooLong).0 e)
  where
    none : (d : Command) → Meets x d LineTooLong → ⊥
    none d is = elim is [ ]

over : (n : ℕ) → (n ≤ 4194304 → ⊥) → 4194304 < n
over n is = go (nat_le n 4194304) refl
  where
    go : (b : Bool) → nat_le n 4194304 ≡ b → 4194304 < n
    go true e = absurd (is (grind (arith, nat_tests, e)))
    go false e = grind (arith, nat_tests, e)

long_so : (x : Surroundings) (line : List ℕ) → built_met x line ≡ Some (Err LineTooLong) → IsWithin line → ⊥
long_so x line e short = go (command_of line) refl e
  where
    unbuilt : (d : Command) (b : Bool) → met_by x (if b then Ok (Some d) else Err NotBuilt) ≡ Some (Err LineTooLong) → ⊥
    unbuilt d true e = let same : request_of x d ≡ Err LineTooLong = cc in never_long x d same
    unbuilt d false e = cc

    go : (m : Result (Option Command) Refusal) → command_of line ≡ m → met_by x (built_only m) ≡ Some (Err LineTooLong) → ⊥
    go (Ok None) is e = cc
    go (Ok (Some d)) is e = unbuilt d (is_built d) e
    go (Err refusal) is e =
        let told = refusal_told line refusal ((refusals_are_causes line refusal).0 is) short in
        cc

so_long : (x : Surroundings) (line : List ℕ) → (IsWithin line → ⊥) → built_met x line ≡ Some (Err LineTooLong)
so_long x line long =
    let is : command_of line ≡ Err LineTooLong = (refusals_are_causes line LineTooLong).1 (f.too_long (over (length line) long)) in
    ap (λ (m : Result (Option Command) Refusal). met_by x (built_only m)) is

blank_so : (x : Surroundings) (line : List ℕ) → built_met x line ≡ None → IsWithin line × (words_of line ≡ [])
blank_so x line e = go (command_of line) refl e
  where
    unbuilt : (d : Command) (b : Bool) → met_by x (if b then Ok (Some d) else Err NotBuilt) ≡ None → ⊥
    unbuilt d true e = cc
    unbuilt d false e = cc

    within_blank : Reads line None → IsWithin line × (words_of line ≡ [])
    within_blank (f.blank short none) = (short, none)

    go : (m : Result (Option Command) Refusal) → command_of line ≡ m → met_by x (built_only m) ≡ None → IsWithin line × (words_of line ≡ [])
    go (Ok None) is e = within_blank ((lines_are_forms line None).0 is)
    go (Ok (Some d)) is e = absurd (unbuilt d (is_built d) e)
    go (Err refusal) is e = absurd cc

so_blank : (x : Surroundings) (line : List ℕ) → IsWithin line × (words_of line ≡ []) → built_met x line ≡ None
so_blank x line is = ap (λ (m : Result (Option Command) Refusal). met_by x (built_only m)) ((lines_are_forms line None).1 (f.blank is.0 is.1))

pub words_are_built : WordsAreBuilt
words_are_built = record {
  too_long = λ x line. (long_so x line, so_long x line);
  blank = λ x line. (blank_so x line, so_blank x line);
  not_built = λ x line. (told_so x line, so_told x line);
  as_ever = as_ever;
}
