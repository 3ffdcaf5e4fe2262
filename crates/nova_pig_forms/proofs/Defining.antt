-- What is answered of a statement is what the relations say.
use Rattle.std.proofs.Common.{◌≡◌, ◌≢◌, ◌+◌, ◌<◌, ◌≤◌, ◌⊎◌, inl, inr, ℕ, suc, Bool, true, false, ◌&&◌, if◌then◌else◌, nat_eq, nat_le, List, [], ◌∷◌, ◌++◌, length, Option, Some, None, Ok, Err, refl, ap, sym, ◌∙◌, subst, arith, append_assoc, append-nil}
use Rattle.std.specs.List.{AllByRecursion}
use Rattle.std.proofs.lemmas.Bool.Decides.{nat_tests}
use Rattle.nova_value.specs.Rows.{Shape, IsShape}
use Rattle.nova_value.specs.declared.schema.Column.{Column}
use Rattle.nova_value.specs.declared.value.Kind.{Kind}
use Rattle.nova_value.specs.declared.value.Kind.TheVariants as kind
use Rattle.nova_pig_tree.specs.declared.expression.Field.{Field}
use Rattle.nova_pig_tree.specs.declared.expression.Expr.{Expr}
use Rattle.nova_pig_tree.specs.declared.statement.Item.{Item}
use Rattle.nova_pig_tree.specs.declared.statement.Op.{Op}
use Rattle.nova_pig_tree.specs.declared.statement.Op.TheVariants as op
use Rattle.nova_pig_algebra.specs.declared.node.Node.{Node}
use Rattle.nova_pig_algebra.specs.declared.node.Node.TheVariants as node
use Rattle.nova_pig_plan.specs.declared.fault.Cause.{Cause}
use Rattle.nova_pig_plan.specs.declared.fault.Cause.TheVariants as fault
use Rattle.nova_pig_plan.specs.declared.scope.ScopeColumn.{ScopeColumn}
use Rattle.nova_pig_plan.specs.declared.scope.Scope.{Scope}
use Rattle.nova_pig_plan.specs.declared.scope.Scope.TheVariants.{Rows, Group}
use Rattle.nova_pig_plan.specs.declared.scope.Typed.{Typed}
use Rattle.nova_pig_plan.specs.declared.scope.Made.{Made}
use Rattle.nova_pig_plan.specs.declared.scope.Defined.{Defined}
use Rattle.nova_pig_plan.specs.declared.scope.Channels.{Channels}
use Rattle.nova_pig_plan.specs.Answers.{Answer, first, if_not}
use Rattle.nova_pig_plan.specs.Columns.{same_text, field_of}
use Rattle.nova_pig_plan.specs.Exprs.{is_condition, expr_of}
use Rattle.nova_pig_plan.specs.Items.{same_kind, items_of, nothing}
use Rattle.nova_pig_plan.specs.Plans.{Aliases, find, test, some_or, none_or, known, ungrouped, defined, fields_of, columns_at, same_kinds, same_kinds_at, channel_columns, from_alias, load, filter_rows, foreach, group, join_rows, join, all_known, row_columns, none_grouped, all_alike, first_rows, union, distinct, op_of, define, store}
use Rattle.nova_pig_plan.specs.Sorts.{kinds}
use Rattle.nova_pig_forms.specs.References.{Names}
use Rattle.nova_pig_forms.specs.Resolves.{Resolves}
use Rattle.nova_pig_forms.specs.Faults.{IsFirst, IsMissing, Among, IsDefined, RowsOf, IsGrouped, operands, TakesRows, FieldsName, FieldsFail, ArmsAre, first_arm, AreAlike, Makes, width, DefineFails, Stores, StoreFails, HaveSchemas}
use Rattle.nova_pig_forms.specs.Faults as r
use Rattle.nova_pig_forms.proofs.Refer.{same_is, self_same, not_same, is_other, Named, named_found, names_read, names_failed, named_at, column_there}
use Rattle.nova_pig_forms.proofs.Express.{Answered, expr_found, expr_read, expr_failed, is_condition_sort, no_condition, other_condition}
use Rattle.nova_pig_forms.proofs.Making.{more, AllMake, items_found, items_read, items_failed}

-- the first entry of a name
module _ {A : Type 0} (name : List ℕ) where
  abbrev Found : ℕ → List (List ℕ × A) → Option (ℕ × A) → Type 0
  Found n es (Some m) = (k : ℕ) × (m.0 ≡ n + k) × IsFirst name es k m.1
  Found n es None = IsMissing name es

  entry_found : (es : List (List ℕ × A)) (n : ℕ) → Found n es (find name n es)
  entry_found [] n = tt
  entry_found (d ∷ es) n = step (same_text name d.0) refl (find name (suc n) es) (entry_found es (suc n))
    where
      step : (b : Bool) → same_text name d.0 ≡ b → (o : Option (ℕ × A)) → Found (suc n) es o → Found n (d ∷ es) (if b then Some (n, d.1) else o)
      step true e o h = (0, omega arith, subst (λ t. IsFirst name ((t, d.1) ∷ es) 0 d.1) (same_is name d.0 e) r.here)
      step false e (Some m) h = (suc h.0, omega (arith, h.1), r.after (not_same name d.0 e) h.2)
      step false e None h = (not_same name d.0 e, h)

entry_read : {A : Type 0} {name : List ℕ} {es : List (List ℕ × A)} {k : ℕ} {x : A} (n : ℕ) → IsFirst name es k x → find name n es ≡ Some (n + k, x)
entry_read {A} {name} n (r.here {x = x} {es = es}) = ap (λ b. if b then Some (n, x) else find name (suc n) es) (self_same name) ∙ ap (λ m. Some (m, x)) (omega arith)
entry_read {A} {name} n (r.after {other = other} {x = x} {y = y} {es = es} {k = k} apart h) =
    ap (λ b. if b then Some (n, y) else find name (suc n) es) (is_other name other apart) ∙ entry_read (suc n) h ∙ ap (λ m. Some (m, x)) (omega arith)

entry_missing : {A : Type 0} (name : List ℕ) (es : List (List ℕ × A)) (n : ℕ) → IsMissing name es → find name n es ≡ None
entry_missing name [] n h = refl
entry_missing name (d ∷ es) n h = ap (λ b. if b then Some (n, d.1) else find name (suc n) es) (is_other name d.0 h.0) ∙ entry_missing name es (suc n) h.1

entry_is : {A : Type 0} {name : List ℕ} {es : List (List ℕ × A)} {k : ℕ} {x : A} → IsFirst name es k x → find name 0 es ≡ Some (k, x)
entry_is {A} {name} {es} {k} {x} h = entry_read 0 h ∙ ap (λ m. Some (m, x)) (omega arith)

entry_all : {A : Type 0} {name : List ℕ} (P : A → Type 0) {es : List (List ℕ × A)} {k : ℕ} {x : A} → IsFirst name es k x → AllByRecursion (λ e. P e.1) es → P x
entry_all P r.here all = all.0
entry_all P (r.after apart h) all = entry_all P h all.1

-- kinds of columns
kind_decides : (j k : Kind) → (same_kind j k ≡ true → j ≡ k) × (j ≡ k → same_kind j k ≡ true)
kind_decides kind.Long kind.Long = (λ e. refl, λ e. refl)
kind_decides kind.Text kind.Text = (λ e. refl, λ e. refl)
kind_decides kind.Long kind.Text = (λ e. absurd cc, λ e. absurd cc)
kind_decides kind.Text kind.Long = (λ e. absurd cc, λ e. absurd cc)

kinds_same : (cs ds : List ScopeColumn) → same_kinds cs ds ≡ true → kinds cs ≡ kinds ds
kinds_same [] [] e = refl
kinds_same [] (d ∷ ds) e = absurd cc
kinds_same (c ∷ cs) [] e = absurd cc
kinds_same (c ∷ cs) (d ∷ ds) e = step (same_kind c.kind d.kind) refl e (kinds_same cs ds)
  where
    step : (b : Bool) → same_kind c.kind d.kind ≡ b → (b && same_kinds cs ds) ≡ true → (same_kinds cs ds ≡ true → kinds cs ≡ kinds ds) → kinds (c ∷ cs) ≡ kinds (d ∷ ds)
    step true is h rest = let k = (kind_decides c.kind d.kind).0 is in let ks = rest h in λ i. k i ∷ ks i
    step false is h rest = absurd cc

same_kinds_are : (cs ds : List ScopeColumn) → kinds cs ≡ kinds ds → same_kinds cs ds ≡ true
same_kinds_are [] [] e = refl
same_kinds_are [] (d ∷ ds) e = absurd cc
same_kinds_are (c ∷ cs) [] e = absurd cc
same_kinds_are (c ∷ cs) (d ∷ ds) e =
    let k : c.kind ≡ d.kind = cc in
    let ks : kinds cs ≡ kinds ds = cc in
    ap (λ b. b && same_kinds cs ds) ((kind_decides c.kind d.kind).1 k) ∙ same_kinds_are cs ds ks

other_kinds : (cs ds : List ScopeColumn) → kinds cs ≢ kinds ds → same_kinds cs ds ≡ false
other_kinds cs ds never = step (same_kinds cs ds) refl
  where
    step : (b : Bool) → same_kinds cs ds ≡ b → same_kinds cs ds ≡ false
    step true e = absurd (never (kinds_same cs ds e))
    step false e = e

kinds_differ : (cs ds : List ScopeColumn) → same_kinds cs ds ≡ false → kinds cs ≢ kinds ds
kinds_differ cs ds e is = let same = same_kinds_are cs ds is in absurd cc

-- the fields of a BY list
abbrev Fields : List ScopeColumn → List ℕ → List Field → Answer (List ℕ) → Type 0
Fields cs before fs (Ok js) = (ks : List ℕ) × (ds : List ScopeColumn) × FieldsName cs fs ks ds × (js ≡ before ++ ks)
Fields cs before fs (Err cause) = FieldsFail cs fs cause

fields_found : (cs : List ScopeColumn) (fs : List Field) (before : List ℕ) → Fields cs before fs (fields_of cs before fs)
fields_found cs [] before = ([], [], r.none, sym (append-nil before))
fields_found cs (f ∷ fs) before = step (field_of cs f) (named_found cs f) (λ more. fields_found cs fs more)
  where
    joined : (k : ℕ) (d : ScopeColumn) → Names cs f k d → (a : Answer (List ℕ)) → Fields cs (before ++ k ∷ []) fs a → Fields cs before (f ∷ fs) a
    joined k d h (Ok js) rest = (k ∷ rest.0, d ∷ rest.1, r.more h rest.2, rest.3 ∙ append_assoc before (k ∷ []) rest.0)
    joined k d h (Err cause) rest = r.after h rest

    step : (a : Answer ℕ) → Named cs f a → ((more : List ℕ) → Fields cs more fs (fields_of cs more fs)) → Fields cs before (f ∷ fs) (first a (λ k. fields_of cs (before ++ k ∷ []) fs))
    step (Ok k) h rest = joined k h.0 h.1 (fields_of cs (before ++ k ∷ []) fs) (rest (before ++ k ∷ []))
    step (Err cause) h rest = r.here h

fields_read : {cs : List ScopeColumn} {fs : List Field} {ks : List ℕ} {ds : List ScopeColumn} (before : List ℕ) → FieldsName cs fs ks ds → fields_of cs before fs ≡ Ok (before ++ ks)
fields_read before r.none = ap Ok (sym (append-nil before))
fields_read {cs} before (r.more {f = f} {fs = fs} {k = k} {ks = ks} h rest) =
    ap (λ a. first a (λ k. fields_of cs (before ++ k ∷ []) fs)) (names_read h) ∙ fields_read (before ++ k ∷ []) rest ∙ ap Ok (append_assoc before (k ∷ []) ks)

fields_failed : {cs : List ScopeColumn} {fs : List Field} {cause : Cause} (before : List ℕ) → FieldsFail cs fs cause → fields_of cs before fs ≡ Err cause
fields_failed {cs} before (r.here {f = f} {fs = fs} h) = ap (λ a. first a (λ k. fields_of cs (before ++ k ∷ []) fs)) (names_failed h)
fields_failed {cs} before (r.after {f = f} {fs = fs} {k = k} h rest) = ap (λ a. first a (λ k. fields_of cs (before ++ k ∷ []) fs)) (names_read h) ∙ fields_failed (before ++ k ∷ []) rest

fields_columns : {cs : List ScopeColumn} {fs : List Field} {ks : List ℕ} {ds : List ScopeColumn} → FieldsName cs fs ks ds → columns_at cs ks ≡ ds
fields_columns r.none = refl
fields_columns {cs} (r.more {k = k} {ks = ks} {d = d} {ds = ds} h rest) = let a = column_there cs k d (named_at h) in let b = fields_columns rest in λ i. a i ∷ b i

columns_same : {cs ds us bs : List ScopeColumn} {fs gs : List Field} {is js : List ℕ} → FieldsName cs fs is us → FieldsName ds gs js bs → same_kinds_at cs ds is js ≡ same_kinds us bs
columns_same {cs} {ds} {us} {bs} {fs} {gs} {is} {js} one two = ap (λ x. same_kinds x (columns_at ds js)) (fields_columns one) ∙ ap (λ y. same_kinds us y) (fields_columns two)

fields_length : {cs : List ScopeColumn} {fs : List Field} {ks : List ℕ} {ds : List ScopeColumn} → FieldsName cs fs ks ds → length ks ≡ length fs
fields_length r.none = refl
fields_length (r.more h rest) = ap suc (fields_length rest)

columns_length : (cs : List Column) → length (channel_columns cs) ≡ length cs
columns_length [] = refl
columns_length (c ∷ cs) = ap suc (columns_length cs)

only_one : {A : Type 0} {P : A → Type 0} {x : A} → Among P (x ∷ []) → P x
only_one (r.here h) = h
only_one (r.after h) = elim h [ ]

one_of_two : {A : Type 0} {P : A → Type 0} {x y : A} → Among P (x ∷ y ∷ []) → P x ⊎ P y
one_of_two (r.here h) = inl h
one_of_two (r.after h) = inr (only_one h)

abbrev pub Narrow : Aliases → Type 0
Narrow done = AllByRecursion (λ e. width e.1 ≤ 64) done

fits : (n : ℕ) → n ≤ 64 → nat_le n 64 ≡ true
fits n h = grind (arith, nat_tests, h)

too_many : (n : ℕ) → 64 < n → nat_le n 64 ≡ false
too_many n h = grind (arith, nat_tests, h)

not_wide : (n : ℕ) → nat_le n 64 ≡ true → n ≤ 64
not_wide n h = grind (arith, nat_tests, h)

is_wide : (n : ℕ) → nat_le n 64 ≡ false → 64 < n
is_wide n h = grind (arith, nat_tests, h)

abbrev made : Node → Scope → Defined
made n s = record { node = n; scope = s }

module _ (ch : Channels) (schemas : HaveSchemas ch) (done : Aliases) (narrow : Narrow done) where
  known_is : {a : List ℕ} {k : ℕ} {s : Scope} → IsFirst a done k s → known done a ≡ Ok (k, s)
  known_is h = ap (some_or fault.UnknownAlias) (entry_is h)

  known_missing : (a : List ℕ) → IsMissing a done → known done a ≡ Err fault.UnknownAlias
  known_missing a h = ap (some_or fault.UnknownAlias) (entry_missing a done 0 h)

  -- an alias that stands for rows, one that isn't defined, a grouped one
  data Operand (a : List ℕ) : Type 0 where
    rows : (k : ℕ) (cs : List ScopeColumn) → RowsOf done a k cs → Operand a
    missing : IsMissing a done → Operand a
    grouped : (k : ℕ) (bag : List ℕ) (by cs : List ScopeColumn) → IsFirst a done k (Group bag by cs) → Operand a

  operand : (a : List ℕ) → Operand a
  operand a = step (find a 0 done) (entry_found a done 0)
    where
      scoped : (k : ℕ) (s : Scope) → IsFirst a done k s → Operand a
      scoped k (Rows cs) h = rows k cs h
      scoped k (Group bag by cs) h = grouped k bag by cs h

      step : (o : Option (ℕ × Scope)) → Found a 0 done o → Operand a
      step (Some m) h = scoped h.0 m.1 h.2
      step None h = missing h

  narrow_at : {a : List ℕ} {k : ℕ} {s : Scope} → IsFirst a done k s → width s ≤ 64
  narrow_at h = entry_all (λ s. width s ≤ 64) h narrow

  rows_narrow : {a : List ℕ} {k : ℕ} {cs : List ScopeColumn} → RowsOf done a k cs → (d : Defined) → Ok d ≡ if_not fault.TooWide (nat_le (length cs) 64) d
  rows_narrow {a} {k} {cs} h d = sym (ap (λ b. if_not fault.TooWide b d) (fits (length cs) (narrow_at h)))

  -- arms of a UNION
  data Arms (arms : List (List ℕ)) : Type 0 where
    rows : (ks : List ℕ) (css : List (List ScopeColumn)) → ArmsAre done arms ks css → Arms arms
    missing : Among (λ a. IsMissing a done) arms → Arms arms
    grouped : AllByRecursion (IsDefined done) arms → Among (IsGrouped done) arms → Arms arms

  arms_are : (arms : List (List ℕ)) → Arms arms
  arms_are [] = rows [] [] r.none
  arms_are (a ∷ us) = step (operand a) (arms_are us)
    where
      defined_all : {ks : List ℕ} {css : List (List ScopeColumn)} {arms : List (List ℕ)} → ArmsAre done arms ks css → AllByRecursion (IsDefined done) arms
      defined_all r.none = tt
      defined_all (r.more {k = k} {cs = cs} h rest) = ((k, Rows cs, h), defined_all rest)

      step : Operand a → Arms us → Arms (a ∷ us)
      step (missing h) rest = missing (r.here h)
      step (rows k cs h) (rows ks css all) = rows (k ∷ ks) (cs ∷ css) (r.more h all)
      step (rows k cs h) (missing g) = missing (r.after g)
      step (rows k cs h) (grouped all g) = grouped ((k, Rows cs, h), all) (r.after g)
      step (grouped k bag by cs h) (rows ks css all) = grouped ((k, Group bag by cs, h), defined_all all) (r.here (k, bag, by, cs, h))
      step (grouped k bag by cs h) (missing g) = missing (r.after g)
      step (grouped k bag by cs h) (grouped all g) = grouped ((k, Group bag by cs, h), all) (r.after g)

  arms_known : {arms : List (List ℕ)} {ks : List ℕ} {css : List (List ScopeColumn)} (before : List ℕ) → ArmsAre done arms ks css → all_known done before arms ≡ Ok (before ++ ks)
  arms_known before r.none = ap Ok (sym (append-nil before))
  arms_known before (r.more {us = us} {k = k} {ks = ks} h rest) =
      ap (λ a. first a (λ k. all_known done (before ++ k.0 ∷ []) us)) (known_is h) ∙ arms_known (before ++ k ∷ []) rest ∙ ap Ok (append_assoc before (k ∷ []) ks)

  arms_defined : (arms : List (List ℕ)) (before : List ℕ) → AllByRecursion (IsDefined done) arms → (ks : List ℕ) × (all_known done before arms ≡ Ok ks)
  arms_defined [] before all = (before, refl)
  arms_defined (a ∷ us) before all =
      let rest = arms_defined us (before ++ all.0.0 ∷ []) all.1 in
      (rest.0, ap (λ x. first x (λ k. all_known done (before ++ k.0 ∷ []) us)) (known_is all.0.2) ∙ rest.1)

  arms_missing : {arms : List (List ℕ)} (before : List ℕ) → Among (λ a. IsMissing a done) arms → all_known done before arms ≡ Err fault.UnknownAlias
  arms_missing before (r.here {x = a} {xs = us} h) = ap (λ x. first x (λ k. all_known done (before ++ k.0 ∷ []) us)) (known_missing a h)
  arms_missing before (r.after {x = a} {xs = us} h) = step (operand a) (λ more. arms_missing more h)
    where
      on_first : {k : ℕ} {s : Scope} → IsFirst a done k s → ((more : List ℕ) → all_known done more us ≡ Err fault.UnknownAlias) → all_known done before (a ∷ us) ≡ Err fault.UnknownAlias
      on_first {k} {s} first_is rest = ap (λ x. first x (λ k. all_known done (before ++ k.0 ∷ []) us)) (known_is first_is) ∙ rest (before ++ k ∷ [])

      step : Operand a → ((more : List ℕ) → all_known done more us ≡ Err fault.UnknownAlias) → all_known done before (a ∷ us) ≡ Err fault.UnknownAlias
      step (rows k cs g) rest = on_first g rest
      step (missing g) rest = ap (λ x. first x (λ k. all_known done (before ++ k.0 ∷ []) us)) (known_missing a g)
      step (grouped k bag by cs g) rest = on_first g rest

  rows_is : {a : List ℕ} {k : ℕ} {cs : List ScopeColumn} → RowsOf done a k cs → row_columns done a ≡ Ok cs
  rows_is h = ap (λ x. first x (λ k. ungrouped k.1)) (known_is h)

  rows_grouped : {a : List ℕ} → IsGrouped done a → row_columns done a ≡ Err fault.BagMisused
  rows_grouped g = ap (λ x. first x (λ k. ungrouped k.1)) (known_is g.4)

  arms_rows : {arms : List (List ℕ)} {ks : List ℕ} {css : List (List ScopeColumn)} → ArmsAre done arms ks css → none_grouped done arms ≡ Ok tt
  arms_rows r.none = refl
  arms_rows (r.more {us = us} h rest) = ap (λ x. first x (λ cs. none_grouped done us)) (rows_is h) ∙ arms_rows rest

  arms_grouped : {arms : List (List ℕ)} → AllByRecursion (IsDefined done) arms → Among (IsGrouped done) arms → none_grouped done arms ≡ Err fault.BagMisused
  arms_grouped all (r.here {x = a} {xs = us} g) = ap (λ x. first x (λ cs. none_grouped done us)) (rows_grouped g)
  arms_grouped all (r.after {x = a} {xs = us} g) = step all.0.0 all.0.1 all.0.2 (arms_grouped all.1 g)
    where
      step : (k : ℕ) (s : Scope) → IsFirst a done k s → none_grouped done us ≡ Err fault.BagMisused → none_grouped done (a ∷ us) ≡ Err fault.BagMisused
      step k (Rows cs) h rest = ap (λ x. first x (λ cs. none_grouped done us)) (rows_is h) ∙ rest
      step k (Group bag by cs) h rest = ap (λ x. first x (λ cs. none_grouped done us)) (rows_grouped (k, bag, by, cs, h))

  arms_first : {arms : List (List ℕ)} {ks : List ℕ} {css : List (List ScopeColumn)} → ArmsAre done arms ks css → first_rows done arms ≡ Ok (first_arm css)
  arms_first r.none = refl
  arms_first (r.more h rest) = rows_is h

  first_narrow : {arms : List (List ℕ)} {ks : List ℕ} {css : List (List ScopeColumn)} → ArmsAre done arms ks css → length (first_arm css) ≤ 64
  first_narrow r.none = omega arith
  first_narrow (r.more h rest) = narrow_at h

  abbrev Alike : List ScopeColumn → List (List ScopeColumn) → Type 0
  Alike bs css = AllByRecursion (λ cs. kinds bs ≡ kinds cs) css

  abbrev alike_after : List ScopeColumn → List (List ℕ) → List ScopeColumn → Answer (Unit {0})
  alike_after bs us ds = first (test fault.SchemaDiffers (same_kinds bs ds)) (λ _. all_alike done bs us)

  alike_is : (bs : List ScopeColumn) {arms : List (List ℕ)} {ks : List ℕ} {css : List (List ScopeColumn)} → ArmsAre done arms ks css → Alike bs css → all_alike done bs arms ≡ Ok tt
  alike_is bs r.none all = refl
  alike_is bs (r.more {us = us} {cs = cs} h rest) all =
      ap (λ x. first x (alike_after bs us)) (rows_is h) ∙ ap (λ b. first (test fault.SchemaDiffers b) (λ _. all_alike done bs us)) (same_kinds_are bs cs all.0) ∙ alike_is bs rest all.1

  unlike_is : (bs : List ScopeColumn) {arms : List (List ℕ)} {ks : List ℕ} {css : List (List ScopeColumn)} → ArmsAre done arms ks css → (Alike bs css → ⊥) → all_alike done bs arms ≡ Err fault.SchemaDiffers
  unlike_is bs r.none never = absurd (never tt)
  unlike_is bs (r.more {us = us} {cs = cs} {css = css} h rest) never = ap (λ x. first x (alike_after bs us)) (rows_is h) ∙ step (same_kinds bs cs) refl (λ none. unlike_is bs rest none)
    where
      step : (b : Bool) → same_kinds bs cs ≡ b → ((Alike bs css → ⊥) → all_alike done bs us ≡ Err fault.SchemaDiffers) → first (test fault.SchemaDiffers b) (λ _. all_alike done bs us) ≡ Err fault.SchemaDiffers
      step true e more = more (λ all. never (kinds_same bs cs e, all))
      step false e more = refl

  alike_or : (bs : List ScopeColumn) (css : List (List ScopeColumn)) → Alike bs css ⊎ (Alike bs css → ⊥)
  alike_or bs [] = inl tt
  alike_or bs (cs ∷ css) = step (same_kinds bs cs) refl (alike_or bs css)
    where
      step : (b : Bool) → same_kinds bs cs ≡ b → Alike bs css ⊎ (Alike bs css → ⊥) → Alike bs (cs ∷ css) ⊎ (Alike bs (cs ∷ css) → ⊥)
      step true e (inl all) = inl (kinds_same bs cs e, all)
      step true e (inr never) = inr (λ all. never all.1)
      step false e rest = inr (λ all. kinds_differ bs cs e all.0)

  -- the steps of `union`
  abbrev union_alike : List (List ℕ) → List ℕ → List ScopeColumn → Answer Defined
  union_alike arms ks cs = first (all_alike done cs arms) (λ _. Ok (made (node.Union ks) (Rows cs)))

  abbrev union_first : List (List ℕ) → List ℕ → Answer Defined
  union_first arms ks = first (first_rows done arms) (union_alike arms ks)

  abbrev union_rows : List (List ℕ) → List ℕ → Answer Defined
  union_rows arms ks = first (none_grouped done arms) (λ _. union_first arms ks)

  union_of : {arms : List (List ℕ)} {ks : List ℕ} {css : List (List ScopeColumn)} → ArmsAre done arms ks css → union done arms ≡ union_alike arms ks (first_arm css)
  union_of {arms} {ks} {css} h =
      ap (λ a. first a (union_rows arms)) (arms_known [] h) ∙ ap (λ a. first a (λ _. union_first arms ks)) (arms_rows h) ∙ ap (λ a. first a (union_alike arms ks)) (arms_first h)

  -- the steps of the other operators
  abbrev filter_made : ℕ → List ScopeColumn → Typed → Answer Defined
  filter_made k cs t = if_not fault.WrongType (is_condition t.sort) (made (node.Filter k t.expr) (Rows cs))

  abbrev group_made : List ℕ → ℕ → List ScopeColumn → List ℕ → Answer Defined
  group_made from k cs ks = Ok (made (node.Group k ks) (Group from (columns_at cs ks) cs))

  abbrev join_made : ℕ → List ℕ → List ScopeColumn → List ℕ → ℕ → List ℕ → List ScopeColumn → List ℕ → Answer Defined
  join_made i left cs is j right ds js = defined (node.Join i is j js) (from_alias left cs ++ from_alias right ds)

  abbrev join_kinds : ℕ → List ℕ → List ScopeColumn → List ℕ → ℕ → List ℕ → List ScopeColumn → List ℕ → Answer Defined
  join_kinds i left cs is j right ds js = first (test fault.WrongType (same_kinds_at cs ds is js)) (λ _. join_made i left cs is j right ds js)

  abbrev join_lengths : ℕ → List ℕ → List ScopeColumn → List ℕ → ℕ → List ℕ → List ScopeColumn → List ℕ → Answer Defined
  join_lengths i left cs is j right ds js = first (test fault.SchemaDiffers (nat_eq (length is) (length js))) (λ _. join_kinds i left cs is j right ds js)

  abbrev join_right : ℕ → List ℕ → List ScopeColumn → ℕ → List ℕ → List ScopeColumn → List Field → List ℕ → Answer Defined
  join_right i left cs j right ds right_by is = first (fields_of ds [] right_by) (join_lengths i left cs is j right ds)

  abbrev filter_next : Expr → (ℕ × Scope) → List ScopeColumn → Answer Defined
  filter_next c k cs = first (expr_of (Rows cs) c) (filter_made k.0 cs)

  abbrev group_next : List ℕ → List Field → (ℕ × Scope) → List ScopeColumn → Answer Defined
  group_next from by k cs = first (fields_of cs [] by) (group_made from k.0 cs)

  abbrev distinct_next : (ℕ × Scope) → List ScopeColumn → Answer Defined
  distinct_next k cs = Ok (made (node.Distinct k.0) (Rows cs))

  abbrev foreach_made : ℕ → Made → Answer Defined
  foreach_made k m = defined (node.Foreach k m.exprs) m.columns

  abbrev foreach_next : List Item → (ℕ × Scope) → Answer Defined
  foreach_next items k = first (items_of k.1 nothing items) (foreach_made k.0)

  abbrev load_next : (ℕ × Shape) → Answer Defined
  load_next i = Ok (made (node.Load i.0) (Rows (channel_columns i.1.columns)))

  on_rows : {B : Type 0} {a : List ℕ} {k : ℕ} {cs : List ScopeColumn} (next : (ℕ × Scope) → List ScopeColumn → Answer B) → RowsOf done a k cs
      → first (known done a) (λ k. first (ungrouped k.1) (next k)) ≡ next (k, Rows cs) cs
  on_rows next h = ap (λ x. first x (λ k. first (ungrouped k.1) (next k))) (known_is h)

  on_missing : {B : Type 0} (a : List ℕ) (next : (ℕ × Scope) → Answer B) → IsMissing a done → first (known done a) next ≡ Err fault.UnknownAlias
  on_missing a next h = ap (λ x. first x next) (known_missing a h)

  on_no_rows : {B : Type 0} (a : List ℕ) (next : (ℕ × Scope) → List ScopeColumn → Answer B) → IsMissing a done → first (known done a) (λ k. first (ungrouped k.1) (next k)) ≡ Err fault.UnknownAlias
  on_no_rows a next h = ap (λ x. first x (λ k. first (ungrouped k.1) (next k))) (known_missing a h)

  on_grouped : {B : Type 0} {a : List ℕ} (next : (ℕ × Scope) → List ScopeColumn → Answer B) → IsGrouped done a → first (known done a) (λ k. first (ungrouped k.1) (next k)) ≡ Err fault.BagMisused
  on_grouped next g = ap (λ x. first x (λ k. first (ungrouped k.1) (next k))) (known_is g.4)

  filter_of : {from : List ℕ} {k : ℕ} {cs : List ScopeColumn} (c : Expr) → RowsOf done from k cs → filter_rows done from c ≡ first (expr_of (Rows cs) c) (filter_made k cs)
  filter_of c h = on_rows (filter_next c) h

  foreach_of : {from : List ℕ} {k : ℕ} {s : Scope} (items : List Item) → IsFirst from done k s → foreach done from items ≡ first (items_of s nothing items) (foreach_made k)
  foreach_of items h = ap (λ x. first x (foreach_next items)) (known_is h)

  group_of : {from : List ℕ} {k : ℕ} {cs : List ScopeColumn} (by : List Field) → RowsOf done from k cs → group done from by ≡ first (fields_of cs [] by) (group_made from k cs)
  group_of {from} by h = on_rows (group_next from by) h

  distinct_of : {from : List ℕ} {k : ℕ} {cs : List ScopeColumn} → RowsOf done from k cs → distinct done from ≡ Ok (made (node.Distinct k) (Rows cs))
  distinct_of h = on_rows distinct_next h

  -- the steps of `join`, by what its operands are
  module _ (left : List ℕ) (left_by : List Field) (right : List ℕ) (right_by : List Field) where
    abbrev join_scopes : (ℕ × Scope) → (ℕ × Scope) → Answer Defined
    join_scopes l m = first (ungrouped l.1) (λ cs. first (ungrouped m.1) (λ ds. join_rows l.0 left cs left_by m.0 right ds right_by))

    join_operands : {i j : ℕ} {s t : Scope} → IsFirst left done i s → IsFirst right done j t → join done left left_by right right_by ≡ join_scopes (i, s) (j, t)
    join_operands {i} {j} {s} {t} g h =
        ap (λ x. first x (λ l. first (known done right) (join_scopes l))) (known_is g) ∙ ap (λ x. first x (join_scopes (i, s))) (known_is h)

    join_of : {i j : ℕ} {cs ds : List ScopeColumn} → RowsOf done left i cs → RowsOf done right j ds
        → join done left left_by right right_by ≡ first (fields_of cs [] left_by) (join_right i left cs j right ds right_by)
    join_of g h = join_operands g h

    join_left_missing : IsMissing left done → join done left left_by right right_by ≡ Err fault.UnknownAlias
    join_left_missing h = on_missing left (λ l. first (known done right) (join_scopes l)) h

    join_right_missing : {i : ℕ} {s : Scope} → IsFirst left done i s → IsMissing right done → join done left left_by right right_by ≡ Err fault.UnknownAlias
    join_right_missing {i} {s} g h = ap (λ x. first x (λ l. first (known done right) (join_scopes l))) (known_is g) ∙ on_missing right (join_scopes (i, s)) h

  -- an operator that makes a node, which is answered where it isn't too wide
  makes_is : {o : Op} {n : Node} {s : Scope} → Makes ch done o n s → op_of ch done o ≡ if_not fault.TooWide (nat_le (width s) 64) (made n s)
  makes_is (r.load {channel = channel} {k = k} {shape = shape} h) =
      ap (λ o. first (some_or fault.UnknownChannel o) load_next) (entry_is h)
      ∙ sym (ap (λ b. if_not fault.TooWide b (made (node.Load k) (Rows (channel_columns shape.columns)))) (fits (length (channel_columns shape.columns)) few))
    where
      few : length (channel_columns shape.columns) ≤ 64
      few = let is = entry_all IsShape h schemas in let f = is.few_columns in let l = columns_length shape.columns in omega (arith, f, l)
  makes_is (r.filter {k = k} {cs = cs} {c = c} {x = x} h is) =
      filter_of c h ∙ ap (λ a. first a (filter_made k cs)) (expr_read is) ∙ rows_narrow h (made (node.Filter k x) (Rows cs))
  makes_is (r.distinct {k = k} {cs = cs} h) = distinct_of h ∙ rows_narrow h (made (node.Distinct k) (Rows cs))
  makes_is (r.foreach {k = k} {items = items} h all) = foreach_of items h ∙ ap (λ a. first a (foreach_made k)) (items_read nothing all)
  makes_is (r.group {from = from} {k = k} {cs = cs} {ds = ds} {by = by} {ks = ks} h all) =
      group_of by h ∙ ap (λ a. first a (group_made from k cs)) (fields_read [] all) ∙ ap (λ es. Ok (made (node.Group k ks) (Group from es cs))) (fields_columns all)
  makes_is (r.join {left = left} {right = right} {i = i} {j = j} {cs = cs} {ds = ds} {us = us} {bs = bs} {left_by = left_by} {right_by = right_by} {is = is} {js = js} g h one two same alike) =
      join_of left left_by right right_by g h
      ∙ ap (λ a. first a (join_right i left cs j right ds right_by)) (fields_read [] one)
      ∙ ap (λ a. first a (join_lengths i left cs is j right ds)) (fields_read [] two)
      ∙ ap (λ b. first (test fault.SchemaDiffers b) (λ _. join_kinds i left cs is j right ds js)) lengths
      ∙ ap (λ b. first (test fault.WrongType b) (λ _. join_made i left cs is j right ds js)) kinds_are
    where
      lengths : nat_eq (length is) (length js) ≡ true
      lengths = let e = fields_length one ∙ same ∙ sym (fields_length two) in grind (arith, nat_tests, e)

      kinds_are : same_kinds_at cs ds is js ≡ true
      kinds_are = columns_same one two ∙ same_kinds_are us bs alike
  makes_is (r.union {arms = arms} {ks = ks} {css = css} h all) =
      union_of h ∙ ap (λ a. first a (λ _. Ok (made (node.Union ks) (Rows (first_arm css))))) (alike_is (first_arm css) h all)
      ∙ sym (ap (λ b. if_not fault.TooWide b (made (node.Union ks) (Rows (first_arm css)))) (fits (length (first_arm css)) (first_narrow h)))

  module _ (alias : List ℕ) where
    -- what is answered of a statement
    abbrev pub Defining : Op → Answer Defined → Type 0
    Defining o (Ok d) = IsMissing alias done × Makes ch done o d.node d.scope × (width d.scope ≤ 64)
    Defining o (Err cause) = DefineFails ch done alias o cause

    module _ (new : IsMissing alias done) where
      -- what an operator makes may be too wide
      made_found : (o : Op) (n : Node) (s : Scope) → Makes ch done o n s → Defining o (op_of ch done o)
      made_found o n s h = subst (Defining o) (sym (makes_is h)) (step (nat_le (width s) 64) refl)
        where
          step : (b : Bool) → nat_le (width s) 64 ≡ b → Defining o (if_not fault.TooWide b (made n s))
          step true e = (new, h, not_wide (width s) e)
          step false e = r.too_wide new h (is_wide (width s) e)

      fails : (o : Op) (cause : Cause) → DefineFails ch done alias o cause → op_of ch done o ≡ Err cause → Defining o (op_of ch done o)
      fails o cause h is = subst (Defining o) (sym is) h

      load_found : (channel : List ℕ) → Defining (op.Load channel) (load ch channel)
      load_found channel = step (find channel 0 ch.inputs) refl (entry_found channel ch.inputs 0)
        where
          step : (x : Option (ℕ × Shape)) → find channel 0 ch.inputs ≡ x → Found channel 0 ch.inputs x → Defining (op.Load channel) (load ch channel)
          step (Some m) e h = made_found (op.Load channel) (node.Load h.0) (Rows (channel_columns m.1.columns)) (r.load h.2)
          step None e h = fails (op.Load channel) fault.UnknownChannel (r.unknown_channel new h)
              (ap (λ o. first (some_or fault.UnknownChannel o) load_next) e)

      filter_found : (from : List ℕ) (c : Expr) → Operand from → Defining (op.Filter from c) (filter_rows done from c)
      filter_found from c (missing h) = fails (op.Filter from c) fault.UnknownAlias (r.unknown_alias new (r.here h)) (on_no_rows from (filter_next c) h)
      filter_found from c (grouped k bag by cs h) =
          fails (op.Filter from c) fault.BagMisused (r.bag_misused new ((k, Group bag by cs, h), tt) tt (r.here (k, bag, by, cs, h)))
          (on_grouped (filter_next c) (k, bag, by, cs, h))
      filter_found from c (rows k cs h) = step (expr_of (Rows cs) c) refl (expr_found (Rows cs) c)
        where
          by_sort : (t : Typed) → expr_of (Rows cs) c ≡ Ok t → Resolves (Rows cs) c t.expr t.sort → (b : Bool) → is_condition t.sort ≡ b → Defining (op.Filter from c) (filter_rows done from c)
          by_sort t given g true e = made_found (op.Filter from c) (node.Filter k t.expr) (Rows cs) (r.filter h (subst (λ i. Resolves (Rows cs) c t.expr i) (is_condition_sort t.sort e) g))
          by_sort t given g false e =
              fails (op.Filter from c) fault.WrongType (r.no_condition new h g (no_condition t.sort e))
              (filter_of c h ∙ ap (λ a. first a (filter_made k cs)) given ∙ ap (λ b. if_not fault.WrongType b (made (node.Filter k t.expr) (Rows cs))) e)

          step : (a : Answer Typed) → expr_of (Rows cs) c ≡ a → Answered (Rows cs) c a → Defining (op.Filter from c) (filter_rows done from c)
          step (Ok t) given g = by_sort t given g (is_condition t.sort) refl
          step (Err cause) given g = fails (op.Filter from c) cause (r.in_filter new h g) (filter_of c h ∙ ap (λ a. first a (filter_made k cs)) given)

      foreach_over : (from : List ℕ) (items : List Item) (k : ℕ) (s : Scope) → IsFirst from done k s → Defining (op.Foreach from items) (foreach done from items)
      foreach_over from items k s h = step (items_of s nothing items) refl (items_found s items nothing)
        where
          step : (a : Answer Made) → items_of s nothing items ≡ a → AllMake s nothing items a → Defining (op.Foreach from items) (foreach done from items)
          step (Ok m) given g = made_found (op.Foreach from items) (node.Foreach k g.0) (Rows g.1) (r.foreach h g.2)
          step (Err cause) given g =
              fails (op.Foreach from items) cause (r.in_foreach new h g)
              (foreach_of items h ∙ ap (λ a. first a (foreach_made k)) given)

      foreach_found : (from : List ℕ) (items : List Item) → Operand from → Defining (op.Foreach from items) (foreach done from items)
      foreach_found from items (missing h) = fails (op.Foreach from items) fault.UnknownAlias (r.unknown_alias new (r.here h)) (on_missing from (foreach_next items) h)
      foreach_found from items (grouped k bag by cs h) = foreach_over from items k (Group bag by cs) h
      foreach_found from items (rows k cs h) = foreach_over from items k (Rows cs) h

      group_found : (from : List ℕ) (by : List Field) → Operand from → Defining (op.Group from by) (group done from by)
      group_found from by (missing h) = fails (op.Group from by) fault.UnknownAlias (r.unknown_alias new (r.here h)) (on_no_rows from (group_next from by) h)
      group_found from by (grouped k bag ds cs h) =
          fails (op.Group from by) fault.BagMisused (r.bag_misused new ((k, Group bag ds cs, h), tt) tt (r.here (k, bag, ds, cs, h)))
          (on_grouped (group_next from by) (k, bag, ds, cs, h))
      group_found from by (rows k cs h) = step (fields_of cs [] by) refl (fields_found cs by [])
        where
          step : (a : Answer (List ℕ)) → fields_of cs [] by ≡ a → Fields cs [] by a → Defining (op.Group from by) (group done from by)
          step (Ok js) given g = made_found (op.Group from by) (node.Group k g.0) (Group from g.1 cs) (r.group h g.2)
          step (Err cause) given g = fails (op.Group from by) cause (r.in_group new h g) (group_of by h ∙ ap (λ a. first a (group_made from k cs)) given)

      distinct_found : (from : List ℕ) → Operand from → Defining (op.Distinct from) (distinct done from)
      distinct_found from (missing h) = fails (op.Distinct from) fault.UnknownAlias (r.unknown_alias new (r.here h)) (on_no_rows from distinct_next h)
      distinct_found from (grouped k bag by cs h) =
          fails (op.Distinct from) fault.BagMisused (r.bag_misused new ((k, Group bag by cs, h), tt) tt (r.here (k, bag, by, cs, h)))
          (on_grouped distinct_next (k, bag, by, cs, h))
      distinct_found from (rows k cs h) = made_found (op.Distinct from) (node.Distinct k) (Rows cs) (r.distinct h)

      union_found : (arms : List (List ℕ)) → Arms arms → Defining (op.Union arms) (union done arms)
      union_found arms (missing h) = fails (op.Union arms) fault.UnknownAlias (r.unknown_alias new h) (ap (λ a. first a (union_rows arms)) (arms_missing [] h))
      union_found arms (grouped all h) =
          let known_all = arms_defined arms [] all in
          fails (op.Union arms) fault.BagMisused (r.bag_misused new all tt h)
          (ap (λ a. first a (union_rows arms)) known_all.1 ∙ ap (λ a. first a (λ _. union_first arms known_all.0)) (arms_grouped all h))
      union_found arms (rows ks css h) = step (alike_or (first_arm css) css)
        where
          step : Alike (first_arm css) css ⊎ (Alike (first_arm css) css → ⊥) → Defining (op.Union arms) (union done arms)
          step (inl all) = made_found (op.Union arms) (node.Union ks) (Rows (first_arm css)) (r.union h all)
          step (inr never) =
              fails (op.Union arms) fault.SchemaDiffers (r.schema_differs new h never)
              (union_of h ∙ ap (λ a. first a (λ _. Ok (made (node.Union ks) (Rows (first_arm css))))) (unlike_is (first_arm css) h never))

      module _ (left : List ℕ) (left_by : List Field) (right : List ℕ) (right_by : List Field) where
        abbrev the_join : Op
        the_join = op.Join left left_by right right_by

        abbrev joins : Type 0
        joins = Defining the_join (join done left left_by right right_by)

        unknown_left : IsMissing left done → joins
        unknown_left h = fails the_join fault.UnknownAlias (r.unknown_alias new (r.here h)) (join_left_missing left left_by right right_by h)

        unknown_right : {i : ℕ} {s : Scope} → IsFirst left done i s → IsMissing right done → joins
        unknown_right g h = fails the_join fault.UnknownAlias (r.unknown_alias new (r.after (r.here h))) (join_right_missing left left_by right right_by g h)

        grouped_left : {i j : ℕ} {bag : List ℕ} {by cs : List ScopeColumn} {t : Scope} → IsFirst left done i (Group bag by cs) → IsFirst right done j t → joins
        grouped_left {i} {j} {bag} {by} {cs} {t} g h =
            fails the_join fault.BagMisused (r.bag_misused new ((i, Group bag by cs, g), ((j, t, h), tt)) tt (r.here (i, bag, by, cs, g)))
            (join_operands left left_by right right_by g h)

        grouped_right : {i j : ℕ} {bag : List ℕ} {by cs ds : List ScopeColumn} → RowsOf done left i ds → IsFirst right done j (Group bag by cs) → joins
        grouped_right {i} {j} {bag} {by} {cs} {ds} g h =
            fails the_join fault.BagMisused (r.bag_misused new ((i, Rows ds, g), ((j, Group bag by cs, h), tt)) tt (r.after (r.here (j, bag, by, cs, h))))
            (join_operands left left_by right right_by g h)

        module _ (i j : ℕ) (cs ds : List ScopeColumn) (g : RowsOf done left i cs) (h : RowsOf done right j ds) where
          -- with the columns of both BY lists
          lists_found : (is js : List ℕ) (us bs : List ScopeColumn) → FieldsName cs left_by is us → FieldsName ds right_by js bs → joins
          lists_found is js us bs one two = by_length (nat_eq (length is) (length js)) refl
            where
              lists : join done left left_by right right_by ≡ join_lengths i left cs is j right ds js
              lists =
                  join_of left left_by right right_by g h
                  ∙ ap (λ a. first a (join_right i left cs j right ds right_by)) (fields_read [] one)
                  ∙ ap (λ a. first a (join_lengths i left cs is j right ds)) (fields_read [] two)

              by_kind : length left_by ≡ length right_by → nat_eq (length is) (length js) ≡ true → (b : Bool) → same_kinds us bs ≡ b → joins
              by_kind same e true alike = made_found the_join (node.Join i is j js) (Rows (from_alias left cs ++ from_alias right ds)) (r.join g h one two same (kinds_same us bs alike))
              by_kind same e false other =
                  fails the_join fault.WrongType (r.by_kinds new g h one two same (kinds_differ us bs other))
                  (lists ∙ ap (λ b. first (test fault.SchemaDiffers b) (λ _. join_kinds i left cs is j right ds js)) e
                  ∙ ap (λ b. first (test fault.WrongType b) (λ _. join_made i left cs is j right ds js)) (columns_same one two ∙ other))

              by_length : (b : Bool) → nat_eq (length is) (length js) ≡ b → joins
              by_length true e =
                  let k : length is ≡ length js = grind (arith, nat_tests, e) in
                  by_kind (sym (fields_length one) ∙ k ∙ fields_length two) e (same_kinds us bs) refl
              by_length false e =
                  let k : length is ≢ length js = grind (arith, nat_tests, e) in
                  fails the_join fault.SchemaDiffers (r.by_lengths new g h one two (λ same. k (fields_length one ∙ same ∙ sym (fields_length two))))
                  (lists ∙ ap (λ b. first (test fault.SchemaDiffers b) (λ _. join_kinds i left cs is j right ds js)) e)

          rows_found : joins
          rows_found = on_left (fields_of cs [] left_by) refl (fields_found cs left_by [])
            where
              on_right : (is : List ℕ) (us : List ScopeColumn) → FieldsName cs left_by is us → (a : Answer (List ℕ)) → fields_of ds [] right_by ≡ a → Fields ds [] right_by a → joins
              on_right is us one (Ok js) given two = lists_found is two.0 us two.1 one two.2
              on_right is us one (Err cause) given two =
                  fails the_join cause (r.in_right new g h one two)
                  (join_of left left_by right right_by g h
                  ∙ ap (λ a. first a (join_right i left cs j right ds right_by)) (fields_read [] one)
                  ∙ ap (λ a. first a (join_lengths i left cs is j right ds)) given)

              on_left : (a : Answer (List ℕ)) → fields_of cs [] left_by ≡ a → Fields cs [] left_by a → joins
              on_left (Ok is) given one = on_right one.0 one.1 one.2 (fields_of ds [] right_by) refl (fields_found ds right_by [])
              on_left (Err cause) given one =
                  fails the_join cause (r.in_left new g h one)
                  (join_of left left_by right right_by g h ∙ ap (λ a. first a (join_right i left cs j right ds right_by)) given)

        join_found : Operand left → Operand right → joins
        join_found (missing g) h = unknown_left g
        join_found (rows i cs g) (missing h) = unknown_right g h
        join_found (grouped i bag by cs g) (missing h) = unknown_right g h
        join_found (grouped i bag by cs g) (rows j ds h) = grouped_left g h
        join_found (grouped i bag by cs g) (grouped j bag2 by2 ds h) = grouped_left g h
        join_found (rows i cs g) (grouped j bag by ds h) = grouped_right g h
        join_found (rows i cs g) (rows j ds h) = rows_found i j cs ds g h

      op_found : (o : Op) → Defining o (op_of ch done o)
      op_found (op.Load channel) = load_found channel
      op_found (op.Filter from c) = filter_found from c (operand from)
      op_found (op.Foreach from items) = foreach_found from items (operand from)
      op_found (op.Group from by) = group_found from by (operand from)
      op_found (op.Join left left_by right right_by) = join_found left left_by right right_by (operand left) (operand right)
      op_found (op.Union arms) = union_found arms (arms_are arms)
      op_found (op.Distinct from) = distinct_found from (operand from)

    pub define_found : (o : Op) → Defining o (define ch done alias o)
    define_found o = step (find alias 0 done) (entry_found alias done 0)
      where
        step : (x : Option (ℕ × Scope)) → Found alias 0 done x → Defining o (first (none_or fault.AliasTwice x) (λ _. op_of ch done o))
        step (Some m) h = r.alias_twice (h.0, m.1, h.2)
        step None h = op_found h o

    new_is : IsMissing alias done → (o : Op) → define ch done alias o ≡ op_of ch done o
    new_is new o = ap (λ x. first (none_or fault.AliasTwice x) (λ _. op_of ch done o)) (entry_missing alias done 0 new)

    pub define_read : {o : Op} {n : Node} {s : Scope} → IsMissing alias done → Makes ch done o n s → width s ≤ 64 → define ch done alias o ≡ Ok (made n s)
    define_read {o} {n} {s} new h le = new_is new o ∙ makes_is h ∙ ap (λ b. if_not fault.TooWide b (made n s)) (fits (width s) le)

    one_missing : (o : Op) → Among (λ a. IsMissing a done) (operands o) → op_of ch done o ≡ Err fault.UnknownAlias
    one_missing (op.Load channel) h = none h
      where
        none : Among (λ a. IsMissing a done) [] → load ch channel ≡ Err fault.UnknownAlias
        none h = elim h [ ]
    one_missing (op.Filter from c) h = on_no_rows from (filter_next c) (only_one h)
    one_missing (op.Foreach from items) h = on_missing from (foreach_next items) (only_one h)
    one_missing (op.Group from by) h = on_no_rows from (group_next from by) (only_one h)
    one_missing (op.Distinct from) h = on_no_rows from distinct_next (only_one h)
    one_missing (op.Union arms) h = ap (λ a. first a (union_rows arms)) (arms_missing [] h)
    one_missing (op.Join left left_by right right_by) h = step (one_of_two h) (operand left)
      where
        step : IsMissing left done ⊎ IsMissing right done → Operand left → join done left left_by right right_by ≡ Err fault.UnknownAlias
        step (inl g) x = join_left_missing left left_by right right_by g
        step (inr g) (missing k) = join_left_missing left left_by right right_by k
        step (inr g) (rows i cs k) = join_right_missing left left_by right right_by k g
        step (inr g) (grouped i bag by cs k) = join_right_missing left left_by right right_by k g

    one_grouped : (o : Op) → AllByRecursion (IsDefined done) (operands o) → TakesRows o → Among (IsGrouped done) (operands o) → op_of ch done o ≡ Err fault.BagMisused
    one_grouped (op.Load channel) all takes h = none h
      where
        none : Among (IsGrouped done) [] → load ch channel ≡ Err fault.BagMisused
        none h = elim h [ ]
    one_grouped (op.Filter from c) all takes h = on_grouped (filter_next c) (only_one h)
    one_grouped (op.Foreach from items) all takes h = absurd takes
    one_grouped (op.Group from by) all takes h = on_grouped (group_next from by) (only_one h)
    one_grouped (op.Distinct from) all takes h = on_grouped distinct_next (only_one h)
    one_grouped (op.Union arms) all takes h =
        let known_all = arms_defined arms [] all in
        ap (λ a. first a (union_rows arms)) known_all.1 ∙ ap (λ a. first a (λ _. union_first arms known_all.0)) (arms_grouped all h)
    one_grouped (op.Join left left_by right right_by) all takes h = step (one_of_two h)
      where
        right_grouped : {i : ℕ} (s : Scope) → IsFirst left done i s → IsGrouped done right → join done left left_by right right_by ≡ Err fault.BagMisused
        right_grouped (Rows cs) k g = join_operands left left_by right right_by k g.4
        right_grouped (Group bag by cs) k g = join_operands left left_by right right_by k g.4

        step : IsGrouped done left ⊎ IsGrouped done right → join done left left_by right right_by ≡ Err fault.BagMisused
        step (inl g) = join_operands left left_by right right_by g.4 all.1.0.2
        step (inr g) = right_grouped all.0.1 all.0.2 g

    pub define_failed : {o : Op} {cause : Cause} → DefineFails ch done alias o cause → define ch done alias o ≡ Err cause
    define_failed {o} (r.alias_twice h) = ap (λ x. first (none_or fault.AliasTwice x) (λ _. op_of ch done o)) (entry_is h.2)
    define_failed {o} (r.unknown_alias new h) = new_is new o ∙ one_missing o h
    define_failed (r.unknown_channel {channel = channel} new h) =
        new_is new (op.Load channel)
        ∙ ap (λ o. first (some_or fault.UnknownChannel o) load_next) (entry_missing channel ch.inputs 0 h)
    define_failed {o} (r.bag_misused new all takes h) = new_is new o ∙ one_grouped o all takes h
    define_failed (r.in_filter {from = from} {k = k} {cs = cs} {c = c} new h g) = new_is new (op.Filter from c) ∙ filter_of c h ∙ ap (λ a. first a (filter_made k cs)) (expr_failed g)
    define_failed (r.no_condition {from = from} {k = k} {cs = cs} {c = c} {x = x} {r = i} new h g other) =
        new_is new (op.Filter from c) ∙ filter_of c h ∙ ap (λ a. first a (filter_made k cs)) (expr_read g)
        ∙ ap (λ b. if_not fault.WrongType b (made (node.Filter k x) (Rows cs))) (other_condition i other)
    define_failed (r.in_foreach {from = from} {k = k} {items = items} new h g) =
        new_is new (op.Foreach from items) ∙ foreach_of items h ∙ ap (λ a. first a (foreach_made k)) (items_failed nothing g)
    define_failed (r.in_group {from = from} {k = k} {cs = cs} {by = by} new h g) = new_is new (op.Group from by) ∙ group_of by h ∙ ap (λ a. first a (group_made from k cs)) (fields_failed [] g)
    define_failed (r.in_left {left = left} {right = right} {i = i} {j = j} {cs = cs} {ds = ds} {left_by = left_by} {right_by = right_by} new g h one) =
        new_is new (op.Join left left_by right right_by) ∙ join_of left left_by right right_by g h ∙ ap (λ a. first a (join_right i left cs j right ds right_by)) (fields_failed [] one)
    define_failed (r.in_right {left = left} {right = right} {i = i} {j = j} {cs = cs} {ds = ds} {left_by = left_by} {right_by = right_by} {is = is} new g h one two) =
        new_is new (op.Join left left_by right right_by) ∙ join_of left left_by right right_by g h ∙ ap (λ a. first a (join_right i left cs j right ds right_by)) (fields_read [] one)
        ∙ ap (λ a. first a (join_lengths i left cs is j right ds)) (fields_failed [] two)
    define_failed (r.by_lengths {left = left} {right = right} {i = i} {j = j} {cs = cs} {ds = ds} {left_by = left_by} {right_by = right_by} {is = is} {js = js} new g h one two apart) =
        new_is new (op.Join left left_by right right_by) ∙ join_of left left_by right right_by g h ∙ ap (λ a. first a (join_right i left cs j right ds right_by)) (fields_read [] one)
        ∙ ap (λ a. first a (join_lengths i left cs is j right ds)) (fields_read [] two)
        ∙ ap (λ b. first (test fault.SchemaDiffers b) (λ _. join_kinds i left cs is j right ds js)) lengths
      where
        lengths : nat_eq (length is) (length js) ≡ false
        lengths = let e : length is ≢ length js = (λ same. apart (sym (fields_length one) ∙ same ∙ fields_length two)) in grind (arith, nat_tests, e)
    define_failed (r.by_kinds {left = left} {right = right} {i = i} {j = j} {cs = cs} {ds = ds} {us = us} {bs = bs} {left_by = left_by} {right_by = right_by} {is = is} {js = js} new g h one two same apart) =
        new_is new (op.Join left left_by right right_by) ∙ join_of left left_by right right_by g h ∙ ap (λ a. first a (join_right i left cs j right ds right_by)) (fields_read [] one)
        ∙ ap (λ a. first a (join_lengths i left cs is j right ds)) (fields_read [] two)
        ∙ ap (λ b. first (test fault.SchemaDiffers b) (λ _. join_kinds i left cs is j right ds js)) lengths
        ∙ ap (λ b. first (test fault.WrongType b) (λ _. join_made i left cs is j right ds js)) (columns_same one two ∙ other_kinds us bs apart)
      where
        lengths : nat_eq (length is) (length js) ≡ true
        lengths = let e = fields_length one ∙ same ∙ sym (fields_length two) in grind (arith, nat_tests, e)
    define_failed (r.schema_differs {arms = arms} {ks = ks} {css = css} new h never) =
        new_is new (op.Union arms) ∙ union_of h ∙ ap (λ a. first a (λ _. Ok (made (node.Union ks) (Rows (first_arm css))))) (unlike_is (first_arm css) h never)
    define_failed {o} (r.too_wide {n = n} {s = s} new h wide) = new_is new o ∙ makes_is h ∙ ap (λ b. if_not fault.TooWide b (made n s)) (too_many (width s) wide)

  -- what is answered of STORE
  abbrev pub Storing : List ℕ → List ℕ → Answer ℕ → Type 0
  Storing alias channel (Ok k) = Stores ch done alias channel k
  Storing alias channel (Err cause) = StoreFails ch done alias channel cause

  abbrev output_kinds : List ScopeColumn
  output_kinds = channel_columns ch.output.1.columns

  abbrev stored_rows : (ℕ × Scope) → List ScopeColumn → Answer ℕ
  stored_rows k cs = if_not fault.SchemaDiffers (same_kinds cs output_kinds) k.0

  abbrev stored_known : List ℕ → (ℕ × Scope) → Answer ℕ
  stored_known channel k = first (test fault.UnknownChannel (same_text channel ch.output.0)) (λ _. first (ungrouped k.1) (stored_rows k))

  store_on : {alias : List ℕ} {k : ℕ} {s : Scope} (channel : List ℕ) → IsFirst alias done k s → store ch done alias channel ≡ stored_known channel (k, s)
  store_on channel h = ap (λ a. first a (stored_known channel)) (known_is h)

  store_output : {alias : List ℕ} {k : ℕ} {s : Scope} → IsFirst alias done k s → store ch done alias ch.output.0 ≡ first (ungrouped s) (stored_rows (k, s))
  store_output {alias} {k} {s} h = store_on ch.output.0 h ∙ ap (λ b. first (test fault.UnknownChannel b) (λ _. first (ungrouped s) (stored_rows (k, s)))) (self_same ch.output.0)

  pub store_found : (alias channel : List ℕ) → Storing alias channel (store ch done alias channel)
  store_found alias channel = by_operand (operand alias)
    where
      on_channel : {k : ℕ} {s : Scope} → IsFirst alias done k s → Storing alias ch.output.0 (first (ungrouped s) (stored_rows (k, s)))
          → (b : Bool) → same_text channel ch.output.0 ≡ b → Storing alias channel (store ch done alias channel)
      on_channel h good true e =
          subst (λ c. Storing alias c (store ch done alias c)) (sym (same_is channel ch.output.0 e)) (subst (Storing alias ch.output.0) (sym (store_output h)) good)
      on_channel {k} {s} h good false e =
          subst (Storing alias channel) (sym (store_on channel h ∙ ap (λ b. first (test fault.UnknownChannel b) (λ _. first (ungrouped s) (stored_rows (k, s)))) e))
          (r.unknown_channel (k, s, h) (not_same channel ch.output.0 e))

      schema : {k : ℕ} {cs : List ScopeColumn} → RowsOf done alias k cs → (b : Bool) → same_kinds cs output_kinds ≡ b → Storing alias ch.output.0 (if_not fault.SchemaDiffers b k)
      schema {k} {cs} h true e = r.stores h (kinds_same cs output_kinds e)
      schema {k} {cs} h false e = r.schema_differs h (kinds_differ cs output_kinds e)

      by_operand : Operand alias → Storing alias channel (store ch done alias channel)
      by_operand (missing h) = subst (Storing alias channel) (sym (on_missing alias (stored_known channel) h)) (r.unknown_alias h)
      by_operand (rows k cs h) = on_channel h (schema h (same_kinds cs output_kinds) refl) (same_text channel ch.output.0) refl
      by_operand (grouped k bag by cs h) = on_channel h (r.bag_misused (k, bag, by, cs, h)) (same_text channel ch.output.0) refl

  pub store_read : {alias channel : List ℕ} {k : ℕ} → Stores ch done alias channel k → store ch done alias channel ≡ Ok k
  store_read (r.stores {k = k} {cs = cs} h same) = store_output h ∙ ap (λ b. if_not fault.SchemaDiffers b k) (same_kinds_are cs output_kinds same)

  pub store_failed : {alias channel : List ℕ} {cause : Cause} → StoreFails ch done alias channel cause → store ch done alias channel ≡ Err cause
  store_failed {alias} (r.unknown_alias {channel = channel} h) = on_missing alias (stored_known channel) h
  store_failed {alias} (r.unknown_channel {channel = channel} h other) =
      store_on channel h.2 ∙ ap (λ b. first (test fault.UnknownChannel b) (λ _. first (ungrouped h.1) (stored_rows (h.0, h.1)))) (is_other channel ch.output.0 other)
  store_failed (r.bag_misused g) = store_output g.4
  store_failed (r.schema_differs {k = k} {cs = cs} h other) = store_output h ∙ ap (λ b. if_not fault.SchemaDiffers b k) (other_kinds cs output_kinds other)
