-- The pattern of a task is that of the table, and its first fault that of the table of faults.
use Rattle.std.proofs.Common.{◌≡◌, ◌⊎◌, inl, inr, ℕ, zero, suc, ◌+◌, ◌<◌, ◌≤◌, ◌==◌, Bool, true, false, not, ◌&&◌, ◌||◌, if◌then◌else◌, List, [], ◌∷◌, length, Option, Some, None, Result, Ok, Err, refl, ap, sym, ◌∙◌, subst, arith}
use Rattle.std.specs.Bool.{Decides}
use Rattle.std.proofs.lemmas.Bool.Decides.{nat_tests}
use Rattle.nova_value.specs.Rows.{Shape}
use Rattle.nova_pig_algebra.specs.Tree.{Tree, Nothing, Load, Filter, Foreach, Grouped, Join, Union, Distinct, Arms, End, Arm}
use Rattle.nova_pig_algebra.specs.Keys.{column_set, same_columns}
use Rattle.nova_pig_algebra.proofs.Sets.{same_set, same_itself}
use Rattle.nova_pig_pattern.specs.declared.task.Input.{Input}
use Rattle.nova_pig_pattern.specs.declared.task.PatternKind.{PatternKind}
use Rattle.nova_pig_pattern.specs.declared.task.PatternKind.TheVariants.{NonIncremental, Stateless, Lookup, Stateful}
use Rattle.nova_pig_pattern.specs.declared.task.TaskFault.{TaskFault}
use Rattle.nova_pig_pattern.specs.declared.task.TaskFault.TheVariants.{NoKey, KeyDiffers, BaseReadAsNew, NotAPattern}
use Rattle.nova_pig_pattern.specs.Shapes.{IsChain, IsLookup, IsGrouped}
use Rattle.nova_pig_pattern.specs.Tests.{is_stateless, is_lookup, is_grouped, has_join, reaches, any_reaches, reaches_all}
use Rattle.nova_pig_pattern.specs.Patterns.{none_new, main_from, one_new, with_others, delta_pattern, shaped, pattern_of, base_read, or_base_read, or_no_pattern, admission_of}
use Rattle.nova_pig_pattern.specs.Table.{Reaches, SomeReaches, AreAll, IsMain, Fits, IsOfPattern, NoneBased, FirstBased, IsAdmission}
use Rattle.nova_pig_pattern.specs.Statements.{PatternsAreTheTable, AdmissionIsTheTable}
use Rattle.nova_pig_pattern.proofs.Decided.{stateless, lookup, grouped}

-- ---- tests

never : {P : Type 0} → (P → ⊥) → Decides false P
never nope = (λ e. absurd cc, λ p. absurd (nope p))

same : (m n : ℕ) → Decides (m == n) (m ≡ n)
same m n = (λ e. grind (arith, nat_tests, e), λ e. grind (arith, nat_tests, e))

either : {P Q : Type 0} (a b : Bool) → Decides a P → Decides b Q → Decides (a || b) (P ⊎ Q)
either true b d e = (λ f. inl (d.0 refl), λ p. refl)
either {P = P} {Q = Q} false b d e = (λ f. inr (e.0 f), back)
  where
    back : P ⊎ Q → b ≡ true
    back (inl p) = let never : false ≡ true = d.1 p in absurd cc
    back (inr q) = e.1 q

taken : {A : Type 0} (b : Bool) (x y : A) → b ≡ true → (if b then x else y) ≡ x
taken true x y e = refl
taken false x y e = absurd cc

passed : {A : Type 0} (b : Bool) (x y : A) → b ≡ false → (if b then x else y) ≡ y
passed true x y e = absurd cc
passed false x y e = refl

both_true : (a b : Bool) → (a && b) ≡ true → (a ≡ true) × (b ≡ true)
both_true true b e = (refl, e)
both_true false b e = absurd cc

and_true : (a b : Bool) → a ≡ true → b ≡ true → (a && b) ≡ true
and_true true b e f = f
and_true false b e f = absurd cc

not_both : (a b : Bool) → (a ≡ true → b ≡ true → ⊥) → (a && b) ≡ false
not_both true true f = absurd (f refl refl)
not_both true false f = refl
not_both false b f = refl

never_both : (a b : Bool) → (a && b) ≡ false → a ≡ true → b ≡ true → ⊥
never_both true true e f g = absurd cc
never_both true false e f g = absurd cc
never_both false b e f g = absurd cc

-- ---- what is reached

mutual
  reached : (input : ℕ) (t : Tree) → Decides (reaches input t) (Reaches input t)
  reached input Nothing = never (λ p. p)
  reached input (Load i) = same i input
  reached input (Filter from cond) = reached input from
  reached input (Foreach from items) = reached input from
  reached input (Grouped from columns items) = reached input from
  reached input (Join left left_by right right_by) = either (reaches input left) (reaches input right) (reached input left) (reached input right)
  reached input (Union arms) = some_reached input arms
  reached input (Distinct from) = reached input from

  some_reached : (input : ℕ) (arms : Arms) → Decides (any_reaches input arms) (SomeReaches input arms)
  some_reached input End = never (λ p. p)
  some_reached input (Arm arm arms) = either (reaches input arm) (any_reaches input arms) (reached input arm) (some_reached input arms)

each_reached : (n : ℕ) (t : Tree) → reaches_all n t ≡ true → (k : ℕ) → k < n → Reaches k t
each_reached zero t e k lt = absurd (omega (arith, lt))
each_reached (suc n) t e k lt =
    let both = both_true (reaches n t) (reaches_all n t) e in
    let split : (k < n) ⊎ (n ≡ k) = grind arith in
    elim split as (λ _. Reaches k t) [
      | inl low ↦ each_reached n t both.1 k low
      | inr is ↦ subst (λ m. Reaches m t) is ((reached n t).0 both.0)
    ]

all_reached : (n : ℕ) (t : Tree) → ((k : ℕ) → k < n → Reaches k t) → reaches_all n t ≡ true
all_reached zero t f = refl
all_reached (suc n) t f = and_true (reaches n t) (reaches_all n t) ((reached n t).1 (f n (omega arith))) (all_reached n t (λ k lt. f k (omega (arith, lt))))

-- ---- inputs

are_all : (inputs : List Input) → none_new inputs ≡ true → AreAll inputs
are_all [] e = tt
are_all (i ∷ inputs) e = go i.is_new refl e (are_all inputs)
  where
    go : (b : Bool) → i.is_new ≡ b → (not b && none_new inputs) ≡ true → (none_new inputs ≡ true → AreAll inputs) → AreAll (i ∷ inputs)
    go true is f rest = absurd cc
    go false is f rest = (is, rest f)

all_are : (inputs : List Input) → AreAll inputs → none_new inputs ≡ true
all_are [] p = refl
all_are (i ∷ inputs) p = ap (λ b. not b && none_new inputs) p.0 ∙ all_are inputs p.1

-- the place that is found, counted from n
main_found : (n : ℕ) (inputs : List Input) (m : ℕ) → main_from n inputs ≡ Some m → (k : ℕ) × (m ≡ k + n) × IsMain inputs k
main_found n [] m e = absurd cc
main_found n (i ∷ inputs) m e = go i.is_new refl e (main_found (suc n) inputs m)
  where
    alone : (b : Bool) → none_new inputs ≡ b → i.is_new ≡ true → (if b then Some n else None) ≡ Some m → (k : ℕ) × (m ≡ k + n) × IsMain (i ∷ inputs) k
    alone true none is f = let here : n ≡ m = cc in (0, omega (arith, here), (is, are_all inputs none))
    alone false none is f = absurd cc

    go : (b : Bool) → i.is_new ≡ b → (if b then (if none_new inputs then Some n else None) else main_from (suc n) inputs) ≡ Some m
        → (main_from (suc n) inputs ≡ Some m → (k : ℕ) × (m ≡ k + suc n) × IsMain inputs k) → (k : ℕ) × (m ≡ k + n) × IsMain (i ∷ inputs) k
    go true is f rest = alone (none_new inputs) refl is f
    go false is f rest =
        let there = rest f in
        let at = there.1 in
        (suc there.0, omega (arith, at), (is, there.2))

found_main : (n k : ℕ) (inputs : List Input) (m : ℕ) → m ≡ k + n → IsMain inputs k → main_from n inputs ≡ Some m
found_main n k [] m at p = absurd p
found_main n zero (i ∷ inputs) m at p =
    let here : n ≡ m = omega (arith, at) in
    taken i.is_new (if none_new inputs then Some n else None) (main_from (suc n) inputs) p.0
    ∙ taken (none_new inputs) (Some n) None (all_are inputs p.1)
    ∙ ap Some here
found_main n (suc k) (i ∷ inputs) m at p =
    passed i.is_new (if none_new inputs then Some n else None) (main_from (suc n) inputs) p.0
    ∙ found_main (suc n) k inputs m (omega (arith, at)) p.1

main_below : (inputs : List Input) (k : ℕ) → IsMain inputs k → k < length inputs
main_below [] k p = absurd p
main_below (i ∷ inputs) zero p = omega arith
main_below (i ∷ inputs) (suc k) p = let below = main_below inputs k p.1 in omega (arith, below)

-- ---- shapes

-- a lookup's tree has a JOIN where it is no row chain
has_join_where : (shapes : List Shape) (main : ℕ) (t : Tree) → IsLookup shapes main t → Decides (has_join t) (IsChain main t → ⊥)
has_join_where shapes main (Load i) p = (λ e. absurd cc, λ f. absurd (f p))
has_join_where shapes main (Filter from cond) p = has_join_where shapes main from p
has_join_where shapes main (Foreach from items) p = has_join_where shapes main from p
has_join_where shapes main (Join left left_by right right_by) p = (λ e h. h, λ f. refl)
has_join_where shapes main Nothing p = absurd p
has_join_where shapes main (Grouped from columns items) p = absurd p
has_join_where shapes main (Union arms) p = absurd p
has_join_where shapes main (Distinct from) p = absurd p

not_stateless : (input : ℕ) (t : Tree) → IsGrouped input t → is_stateless input t ≡ false
not_stateless input (Grouped from columns items) p = refl
not_stateless input (Filter from cond) p = not_stateless input from p
not_stateless input (Foreach from items) p = not_stateless input from p
not_stateless input Nothing p = absurd p
not_stateless input (Load i) p = absurd p
not_stateless input (Join left left_by right right_by) p = absurd p
not_stateless input (Union arms) p = absurd p
not_stateless input (Distinct from) p = absurd p

-- ---- the table of patterns

module _ (shapes : List Shape) (inputs : List Input) (t : Tree) where
  abbrev Of : Bool → PatternKind → Type 0
  Of based p = Fits shapes inputs based t p

  module _ (p : PatternKind) where
    whole : (b : Bool) → none_new inputs ≡ b → (if b then Some NonIncremental else None) ≡ Some p → Of true p
    whole true is e = let same : NonIncremental ≡ p = cc in subst (Of true) same (are_all inputs is, refl)
    whole false is e = absurd cc

    stateful : length inputs ≡ 1 → IsMain inputs 0 → (b : Bool) → is_grouped 0 t ≡ b → (if b then Some Stateful else None) ≡ Some p → Of false p
    stateful one main true is e = let same : Stateful ≡ p = cc in subst (Of false) same (one, main, refl, (grouped 0 t).0 is)
    stateful one main false is e = absurd cc

    alone : length inputs ≡ 1 → IsMain inputs 0 → (b : Bool) → is_stateless 0 t ≡ b → (if b then Some Stateless else if is_grouped 0 t then Some Stateful else None) ≡ Some p → Of false p
    alone one main true is e = let same : Stateless ≡ p = cc in subst (Of false) same (one, main, refl, (stateless 0 t).0 is)
    alone one main false is e = stateful one main (is_grouped 0 t) refl e

    beside : (m : ℕ) → 2 ≤ length inputs → IsMain inputs m → (b : Bool) → (is_lookup shapes m t && has_join t) ≡ b → (if b then Some Lookup else None) ≡ Some p → Of false p
    beside m many main true is e =
        let same : Lookup ≡ p = cc in
        let both = both_true (is_lookup shapes m t) (has_join t) is in
        let made = (lookup shapes m t).0 both.0 in
        subst (Of false) same (m, many, main, refl, made, (has_join_where shapes m t made).0 both.1)
    beside m many main false is e = absurd cc

    by_count : (m : ℕ) → IsMain inputs m → (b : Bool) → (length inputs == 1) ≡ b → (if b then one_new m t else with_others shapes m t) ≡ Some p → Of false p
    by_count m main true is e =
        let one : length inputs ≡ 1 = (same (length inputs) 1).0 is in
        let below = main_below inputs m main in
        let first : m ≡ 0 = omega (arith, one, below) in
        alone one (subst (IsMain inputs) first main) (is_stateless 0 t) refl (subst (λ n. one_new n t ≡ Some p) first e)
    by_count m main false is e =
        let below = main_below inputs m main in
        beside m (grind (arith, nat_tests, is, below)) main (is_lookup shapes m t && has_join t) refl e

    by_main : (o : Option ℕ) → main_from 0 inputs ≡ o → delta_pattern shapes inputs t o ≡ Some p → Of false p
    by_main None is e = absurd cc
    by_main (Some m) is e =
        let found = main_found 0 inputs m is in
        let at = found.1 in
        let here : found.0 ≡ m = omega (arith, at) in
        by_count m (subst (IsMain inputs) here found.2) (length inputs == 1) refl e

    by_output : (based : Bool) → shaped shapes inputs based t ≡ Some p → Of based p
    by_output true e = whole (none_new inputs) refl e
    by_output false e = by_main (main_from 0 inputs) refl e

    there : (based : Bool) → pattern_of shapes inputs based t ≡ Some p → IsOfPattern shapes inputs based t p
    there based e = go (reaches_all (length inputs) t) refl e
      where
        go : (b : Bool) → reaches_all (length inputs) t ≡ b → (if b then shaped shapes inputs based t else None) ≡ Some p → IsOfPattern shapes inputs based t p
        go true is f = record { reached = each_reached (length inputs) t is; fits = by_output based f }
        go false is f = absurd cc

  delta_is : (m : ℕ) (q : Option PatternKind) → IsMain inputs m → (b : Bool) → (length inputs == 1) ≡ b → (if b then one_new m t else with_others shapes m t) ≡ q → shaped shapes inputs false t ≡ q
  delta_is m q main b is e =
      ap (delta_pattern shapes inputs t) (found_main 0 m inputs m (omega arith) main)
      ∙ ap (λ c. if c then one_new m t else with_others shapes m t) is ∙ e

  shape_is : (based : Bool) (p : PatternKind) → Of based p → shaped shapes inputs based t ≡ Some p
  shape_is based NonIncremental f =
      ap (λ b. shaped shapes inputs b t) f.1 ∙ taken (none_new inputs) (Some NonIncremental) None (all_are inputs f.0)
  shape_is based Stateless f =
      ap (λ b. shaped shapes inputs b t) f.2
      ∙ delta_is 0 (Some Stateless) f.1 true ((same (length inputs) 1).1 f.0)
      (taken (is_stateless 0 t) (Some Stateless) (if is_grouped 0 t then Some Stateful else None) ((stateless 0 t).1 f.3))
  shape_is based Stateful f =
      ap (λ b. shaped shapes inputs b t) f.2
      ∙ delta_is 0 (Some Stateful) f.1 true ((same (length inputs) 1).1 f.0)
      (passed (is_stateless 0 t) (Some Stateless) (if is_grouped 0 t then Some Stateful else None) (not_stateless 0 t f.3)
      ∙ taken (is_grouped 0 t) (Some Stateful) None ((grouped 0 t).1 f.3))
  shape_is based Lookup f =
      let many = f.1 in
      ap (λ b. shaped shapes inputs b t) f.3
      ∙ delta_is f.0 (Some Lookup) f.2 false (grind (arith, nat_tests, many))
      (taken (is_lookup shapes f.0 t && has_join t) (Some Lookup) None
      (and_true (is_lookup shapes f.0 t) (has_join t) ((lookup shapes f.0 t).1 f.4) ((has_join_where shapes f.0 t f.4).1 f.5)))

  back : (based : Bool) (p : PatternKind) → IsOfPattern shapes inputs based t p → pattern_of shapes inputs based t ≡ Some p
  back based p is =
      taken (reaches_all (length inputs) t) (shaped shapes inputs based t) None (all_reached (length inputs) t is.reached) ∙ shape_is based p is.fits

pub patterns_are_the_table : PatternsAreTheTable
patterns_are_the_table shapes inputs based t p = (there shapes inputs t p based, back shapes inputs t based p)

-- ---- the table of faults

found_based : (inputs : List Input) (c : ℕ) → base_read inputs ≡ Some c → FirstBased inputs c
found_based [] c e = absurd cc
found_based (i ∷ inputs) c e = go (i.is_new && i.based) refl e (found_based inputs c)
  where
    go : (b : Bool) → (i.is_new && i.based) ≡ b → (if b then Some i.channel else base_read inputs) ≡ Some c
        → (base_read inputs ≡ Some c → FirstBased inputs c) → FirstBased (i ∷ inputs) c
    go true is f rest =
        let both = both_true i.is_new i.based is in
        let here : i.channel ≡ c = cc in
        inl (both.0, both.1, here)
    go false is f rest = inr (never_both i.is_new i.based is, rest f)

based_found : (inputs : List Input) (c : ℕ) → FirstBased inputs c → base_read inputs ≡ Some c
based_found [] c p = absurd p
based_found (i ∷ inputs) c (inl p) =
    taken (i.is_new && i.based) (Some i.channel) (base_read inputs) (and_true i.is_new i.based p.0 p.1) ∙ ap Some p.2
based_found (i ∷ inputs) c (inr p) =
    passed (i.is_new && i.based) (Some i.channel) (base_read inputs) (not_both i.is_new i.based p.0) ∙ based_found inputs c p.1

none_found : (inputs : List Input) → base_read inputs ≡ None → NoneBased inputs
none_found [] e = tt
none_found (i ∷ inputs) e = go (i.is_new && i.based) refl e (none_found inputs)
  where
    go : (b : Bool) → (i.is_new && i.based) ≡ b → (if b then Some i.channel else base_read inputs) ≡ None
        → (base_read inputs ≡ None → NoneBased inputs) → NoneBased (i ∷ inputs)
    go true is f rest = absurd cc
    go false is f rest = (never_both i.is_new i.based is, rest f)

found_none : (inputs : List Input) → NoneBased inputs → base_read inputs ≡ None
found_none [] p = refl
found_none (i ∷ inputs) p =
    passed (i.is_new && i.based) (Some i.channel) (base_read inputs) (not_both i.is_new i.based p.0) ∙ found_none inputs p.1

module _ (shapes : List Shape) (inputs : List Input) (based : Bool) (output : List ℕ) (t : Tree) where
  abbrev found : Option PatternKind
  found = pattern_of shapes inputs based t

  abbrev admitted : Option (List ℕ) → Result PatternKind TaskFault
  admitted key = admission_of shapes inputs based output t key

  abbrev Is : Option (List ℕ) → Result PatternKind TaskFault → Type 0
  Is key r = IsAdmission shapes inputs based output t key r

  keyed : (key : List ℕ) → key ≡ column_set output → ◌≡◌ {A = Option (List ℕ)} (Some key) (Some (column_set output))
  keyed key e = ap (λ (z : List ℕ). let o : Option (List ℕ) = Some z in o) e

  by_pattern : (key : List ℕ) → key ≡ column_set output → NoneBased inputs → (q : Option PatternKind) → found ≡ q → (r : Result PatternKind TaskFault) → or_no_pattern q ≡ r → Is (Some key) r
  by_pattern key is none None nothing r e =
      subst (Is (Some key)) e (keyed key is, none, λ p of. no_pattern p (sym nothing ∙ back shapes inputs t based p of))
    where
      no_pattern : (p : PatternKind) → ◌≡◌ {A = Option PatternKind} None (Some p) → ⊥
      no_pattern p f = absurd cc
  by_pattern key is none (Some p) something r e = subst (Is (Some key)) e (keyed key is, none, there shapes inputs t p based something)

  by_base : (key : List ℕ) → key ≡ column_set output → (o : Option ℕ) → base_read inputs ≡ o → (r : Result PatternKind TaskFault) → or_base_read o found ≡ r → Is (Some key) r
  by_base key is (Some c) at r e = subst (Is (Some key)) e (keyed key is, found_based inputs c at)
  by_base key is None at r e = by_pattern key is (none_found inputs at) found refl r e

  is_admitted : (key : Option (List ℕ)) (r : Result PatternKind TaskFault) → admitted key ≡ r → Is key r
  is_admitted None r e = subst (Is None) e refl
  is_admitted (Some key) r e = go (same_columns key (column_set output)) refl e
    where
      go : (b : Bool) → same_columns key (column_set output) ≡ b → (if b then or_base_read (base_read inputs) found else Err KeyDiffers) ≡ r → Is (Some key) r
      go true is f = by_base key (same_set key (column_set output) is) (base_read inputs) refl r f
      go false is f = subst (Is (Some key)) f (key, refl, λ e. apart (ap (λ (z : List ℕ). same_columns z (column_set output)) e ∙ same_itself (column_set output)))
        where
          apart : same_columns key (column_set output) ≡ true → ⊥
          apart g = let nope : false ≡ true = sym is ∙ g in absurd cc

  -- with the output's key
  with_key : (key : Option (List ℕ)) → key ≡ Some (column_set output) → admitted key ≡ or_base_read (base_read inputs) found
  with_key key is =
      ap admitted is
      ∙ taken (same_columns (column_set output) (column_set output)) (or_base_read (base_read inputs) found) (Err KeyDiffers) (same_itself (column_set output))

  nothing_found : ((p : PatternKind) → IsOfPattern shapes inputs based t p → ⊥) → (q : Option PatternKind) → found ≡ q → q ≡ None
  nothing_found none None e = refl
  nothing_found none (Some p) e = absurd (none p (there shapes inputs t p based e))

  differs : (key : List ℕ) → (key ≡ column_set output → ⊥) → (b : Bool) → same_columns key (column_set output) ≡ b → b ≡ false
  differs key apart true e = absurd (apart (same_set key (column_set output) e))
  differs key apart false e = refl

  admitted_is : (key : Option (List ℕ)) (r : Result PatternKind TaskFault) → Is key r → admitted key ≡ r
  admitted_is key (Err NoKey) is = ap admitted is
  admitted_is key (Err KeyDiffers) is =
      ap admitted is.1
      ∙ passed (same_columns is.0 (column_set output)) (or_base_read (base_read inputs) found) (Err KeyDiffers) (differs is.0 is.2 (same_columns is.0 (column_set output)) refl)
  admitted_is key (Err (BaseReadAsNew c)) is = with_key key is.0 ∙ ap (λ o. or_base_read o found) (based_found inputs c is.1)
  admitted_is key (Err NotAPattern) is =
      with_key key is.0 ∙ ap (λ o. or_base_read o found) (found_none inputs is.1) ∙ ap or_no_pattern (nothing_found is.2 found refl)
  admitted_is key (Ok p) is =
      with_key key is.0 ∙ ap (λ o. or_base_read o found) (found_none inputs is.1) ∙ ap or_no_pattern (back shapes inputs t based p is.2)

pub admission_is_the_table : AdmissionIsTheTable
admission_is_the_table shapes inputs based output t key r = (is_admitted shapes inputs based output t key r, admitted_is shapes inputs based output t key r)
