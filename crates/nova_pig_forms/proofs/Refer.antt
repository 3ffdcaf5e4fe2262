-- What is answered of a reference and of a call is what the relations say.
use Rattle.std.proofs.Common.{◌≡◌, ◌≢◌, ◌+◌, ◌<◌, ℕ, zero, suc, Bool, true, false, ◌&&◌, if◌then◌else◌, nat_lt, List, [], ◌∷◌, length, Option, Some, None, Ok, Err, slice_get, refl, ap, sym, ◌∙◌, subst, arith}
use Rattle.std.specs.Bool.{Decides}
use Rattle.std.specs.Cmp.Lexicographic.{bytes_decides}
use Rattle.std.proofs.lemmas.Bool.Decides.{nat_tests}
use Rattle.nova_value.specs.declared.value.Kind.{Kind}
use Rattle.nova_value.specs.declared.value.Kind.TheVariants as kind
use Rattle.nova_pig_tree.specs.declared.expression.CallKind.{CallKind}
use Rattle.nova_pig_tree.specs.declared.expression.CallKind.TheVariants as call
use Rattle.nova_pig_tree.specs.declared.expression.Field.{Field}
use Rattle.nova_pig_tree.specs.declared.expression.Field.TheVariants as field
use Rattle.nova_pig_algebra.specs.declared.node.PlanExpr.{PlanExpr}
use Rattle.nova_pig_algebra.specs.declared.node.PlanExpr.TheVariants as p
use Rattle.nova_pig_algebra.specs.declared.node.Sort.{Sort}
use Rattle.nova_pig_algebra.specs.declared.node.Sort.TheVariants.{Of}
use Rattle.nova_pig_plan.specs.declared.fault.Cause.{Cause}
use Rattle.nova_pig_plan.specs.declared.fault.Cause.TheVariants as fault
use Rattle.nova_pig_plan.specs.declared.scope.ScopeColumn.{ScopeColumn}
use Rattle.nova_pig_plan.specs.declared.scope.Scope.{Scope}
use Rattle.nova_pig_plan.specs.declared.scope.Scope.TheVariants.{Rows, Group}
use Rattle.nova_pig_plan.specs.declared.scope.Typed.{Typed}
use Rattle.nova_pig_plan.specs.Answers.{Answer, first, if_not}
use Rattle.nova_pig_plan.specs.Columns.{same_text, is_text, is_named, comes_from, places, the_one, field_of, kind_at}
use Rattle.nova_pig_plan.specs.Exprs.{typed, group_name, whole_group, group_place, group_field, column_place, ref_of, bag_call, column_call, call_field, call_of}
use Rattle.nova_pig_plan.specs.Items.{column_at}
use Rattle.nova_pig_forms.specs.References.{HasName, ComesFrom, IsOnly, NoneFits, SeveralFit, Names, NameFails, NamesGroup, GroupFails, Refers, RefFails, Calls, CallFails}
use Rattle.nova_pig_forms.specs.References as r

pub same_is : (a b : List ℕ) → same_text a b ≡ true → a ≡ b
same_is a b e = (bytes_decides a b).0 e

pub is_same : (a b : List ℕ) → a ≡ b → same_text a b ≡ true
is_same a b e = (bytes_decides a b).1 e

pub self_same : (a : List ℕ) → same_text a a ≡ true
self_same a = is_same a a refl

pub not_same : (a b : List ℕ) → same_text a b ≡ false → a ≢ b
not_same a b e is = let same = is_same a b is in absurd cc

pub is_other : (a b : List ℕ) → a ≢ b → same_text a b ≡ false
is_other a b other = step (same_text a b) refl
  where
    step : (t : Bool) → same_text a b ≡ t → same_text a b ≡ false
    step true e = absurd (other (same_is a b e))
    step false e = e

text_decides : (o : Option (List ℕ)) (name : List ℕ) → Decides (is_text o name) (o ≡ Some name)
text_decides (Some t) name = (λ e. ap Some (same_is t name e), λ e. let same : t ≡ name = cc in is_same t name same)
text_decides None name = (λ e. absurd cc, λ e. absurd cc)

name_decides : (name : List ℕ) (c : ScopeColumn) → Decides (is_named name c) (HasName name c)
name_decides name c = text_decides c.name name

and_decides : (a b : Bool) (P Q : Type 0) → Decides a P → Decides b Q → Decides (a && b) (P × Q)
and_decides true b P Q h k = (λ e. (h.0 refl, k.0 e), λ pq. k.1 pq.1)
and_decides false b P Q h k = (λ e. absurd cc, λ pq. h.1 pq.0)

from_decides : (alias name : List ℕ) (c : ScopeColumn) → Decides (comes_from alias name c) (ComesFrom alias name c)
from_decides alias name c = and_decides (is_text c.origin alias) (is_text c.name name) _ _ (text_decides c.origin alias) (text_decides c.name name)

-- which columns fit
module _ (fits : ScopeColumn → Bool) (Fits : ScopeColumn → Type 0) (decides : (c : ScopeColumn) → Decides (fits c) (Fits c)) where
  abbrev Sought : ℕ → List ScopeColumn → List ℕ → Type 0
  Sought n cs [] = NoneFits Fits cs
  Sought n cs (k ∷ []) = (i : ℕ) × (c : ScopeColumn) × (k ≡ n + i) × IsOnly Fits cs i c
  Sought n cs (k ∷ l ∷ ks) = SeveralFit Fits cs

  -- a column that fits, before others
  fitting : (n : ℕ) (c : ScopeColumn) (cs : List ScopeColumn) → Fits c → (ks : List ℕ) → Sought (suc n) cs ks → Sought n (c ∷ cs) (n ∷ ks)
  fitting n c cs h [] none = (0, c, omega arith, record { at = refl; fits = h; only = only })
    where
      only : (j : ℕ) (d : ScopeColumn) → slice_get (c ∷ cs) j ≡ Some d → Fits d → j ≡ 0
      only zero d e f = refl
      only (suc j) d e f = absurd (none j d e f)
  fitting n c cs h (k ∷ []) one = r.several {j = 0} {k = suc one.0} (λ e. omega (arith, e)) refl h one.3.at one.3.fits
  fitting n c cs h (k ∷ l ∷ ks) (r.several {j = j} {k = i} apart at f at2 g) = r.several {j = suc j} {k = suc i} (λ e. apart (omega (arith, e))) at f at2 g

  -- a column that doesn't fit
  passing : (n : ℕ) (c : ScopeColumn) (cs : List ScopeColumn) → (Fits c → ⊥) → (ks : List ℕ) → Sought (suc n) cs ks → Sought n (c ∷ cs) ks
  passing n c cs never [] none = go
    where
      go : (j : ℕ) (d : ScopeColumn) → slice_get (c ∷ cs) j ≡ Some d → Fits d → ⊥
      go zero d e f = let same : c ≡ d = cc in never (subst Fits (sym same) f)
      go (suc j) d e f = none j d e f
  passing n c cs never (k ∷ []) one = (suc one.0, one.1, omega (arith, one.2), record { at = one.3.at; fits = one.3.fits; only = only })
    where
      only : (j : ℕ) (d : ScopeColumn) → slice_get (c ∷ cs) j ≡ Some d → Fits d → j ≡ suc one.0
      only zero d e f = let same : c ≡ d = cc in absurd (never (subst Fits (sym same) f))
      only (suc j) d e f = ap suc (one.3.only j d e f)
  passing n c cs never (k ∷ l ∷ ks) (r.several {j = j} {k = i} apart at f at2 g) = r.several {j = suc j} {k = suc i} (λ e. apart (omega (arith, e))) at f at2 g

  sought : (n : ℕ) (cs : List ScopeColumn) → Sought n cs (places fits n cs)
  sought n [] = λ j d e f. absurd cc
  sought n (c ∷ cs) = step (fits c) refl (sought (suc n) cs)
    where
      step : (b : Bool) → fits c ≡ b → Sought (suc n) cs (places fits (suc n) cs) → Sought n (c ∷ cs) (if b then n ∷ places fits (suc n) cs else places fits (suc n) cs)
      step true e rest = fitting n c cs ((decides c).0 e) (places fits (suc n) cs) rest
      step false e rest = passing n c cs (λ h. let is = (decides c).1 h in absurd cc) (places fits (suc n) cs) rest

  -- what is answered of the columns that fit
  abbrev pub One : List ScopeColumn → Answer ℕ → Type 0
  One cs (Ok k) = (c : ScopeColumn) × IsOnly Fits cs k c
  One cs (Err fault.UnknownField) = NoneFits Fits cs
  One cs (Err fault.Ambiguous) = SeveralFit Fits cs
  One cs (Err _) = ⊥

  pub one_found : (cs : List ScopeColumn) → One cs (the_one (places fits 0 cs))
  one_found cs = step (places fits 0 cs) (sought 0 cs)
    where
      step : (ks : List ℕ) → Sought 0 cs ks → One cs (the_one ks)
      step [] h = h
      step (k ∷ []) h = let is : h.0 ≡ k = omega (arith, h.2) in (h.1, subst (λ i. IsOnly Fits cs i h.1) is h.3)
      step (k ∷ l ∷ ks) h = h

  only_one : (cs : List ScopeColumn) (k : ℕ) (c : ScopeColumn) → IsOnly Fits cs k c → (a : Answer ℕ) → One cs a → a ≡ Ok k
  only_one cs k c h (Ok j) one = ap Ok (h.only j one.0 one.1.at one.1.fits)
  only_one cs k c h (Err fault.UnknownField) none = absurd (none k c h.at h.fits)
  only_one cs k c h (Err fault.Ambiguous) (r.several {j = i} {k = j} {c = d} {d = b} apart at f at2 g) = absurd (apart (h.only i d at f ∙ sym (h.only j b at2 g)))
  only_one cs k c h (Err _) never = absurd never

  pub is_only : (cs : List ScopeColumn) (k : ℕ) (c : ScopeColumn) → IsOnly Fits cs k c → the_one (places fits 0 cs) ≡ Ok k
  is_only cs k c h = only_one cs k c h (the_one (places fits 0 cs)) (one_found cs)

  no_one : (cs : List ScopeColumn) → NoneFits Fits cs → (a : Answer ℕ) → One cs a → a ≡ Err fault.UnknownField
  no_one cs none (Ok j) one = absurd (none j one.0 one.1.at one.1.fits)
  no_one cs none (Err fault.UnknownField) h = refl
  no_one cs none (Err fault.Ambiguous) (r.several {j = i} {c = d} apart at f at2 g) = absurd (none i d at f)
  no_one cs none (Err _) never = absurd never

  pub is_none : (cs : List ScopeColumn) → NoneFits Fits cs → the_one (places fits 0 cs) ≡ Err fault.UnknownField
  is_none cs h = no_one cs h (the_one (places fits 0 cs)) (one_found cs)

  more_than_one : (cs : List ScopeColumn) → SeveralFit Fits cs → (a : Answer ℕ) → One cs a → a ≡ Err fault.Ambiguous
  more_than_one cs (r.several {j = i} {k = j} {c = d} {d = b} apart at f at2 g) (Ok k) one = absurd (apart (one.1.only i d at f ∙ sym (one.1.only j b at2 g)))
  more_than_one cs (r.several {j = i} {c = d} apart at f at2 g) (Err fault.UnknownField) none = absurd (none i d at f)
  more_than_one cs h (Err fault.Ambiguous) k = refl
  more_than_one cs h (Err _) never = absurd never

  pub is_several : (cs : List ScopeColumn) → SeveralFit Fits cs → the_one (places fits 0 cs) ≡ Err fault.Ambiguous
  is_several cs h = more_than_one cs h (the_one (places fits 0 cs)) (one_found cs)

-- fields anywhere but over a group
abbrev pub Named : List ScopeColumn → Field → Answer ℕ → Type 0
Named cs f (Ok k) = (c : ScopeColumn) × Names cs f k c
Named cs f (Err cause) = NameFails cs f cause

got : (cs : List ScopeColumn) (n : ℕ) → n < length cs → (c : ScopeColumn) × (slice_get cs n ≡ Some c)
got [] n lt = absurd (omega (arith, lt))
got (c ∷ cs) zero lt = (c, refl)
got (c ∷ cs) (suc n) lt = got cs n (omega (arith, lt))

within : (cs : List ScopeColumn) (n : ℕ) (c : ScopeColumn) → slice_get cs n ≡ Some c → n < length cs
within [] n c e = absurd cc
within (d ∷ cs) zero c e = omega arith
within (d ∷ cs) (suc n) c e = let lt = within cs n c e in omega (arith, lt)

pub named_found : (cs : List ScopeColumn) (f : Field) → Named cs f (field_of cs f)
named_found cs (field.Plain name) = step (the_one (places (is_named name) 0 cs)) (one_found (is_named name) (HasName name) (name_decides name) cs)
  where
    step : (a : Answer ℕ) → One (is_named name) (HasName name) (name_decides name) cs a → Named cs (field.Plain name) a
    step (Ok k) h = (h.0, r.plain h.1)
    step (Err fault.UnknownField) h = r.none h
    step (Err fault.Ambiguous) h = r.several h
    step (Err _) h = absurd h
named_found cs (field.Of alias name) = step (the_one (places (comes_from alias name) 0 cs)) (one_found (comes_from alias name) (ComesFrom alias name) (from_decides alias name) cs)
  where
    step : (a : Answer ℕ) → One (comes_from alias name) (ComesFrom alias name) (from_decides alias name) cs a → Named cs (field.Of alias name) a
    step (Ok k) h = (h.0, r.of h.1)
    step (Err fault.UnknownField) h = r.none_of h
    step (Err fault.Ambiguous) h = r.several_of h
    step (Err _) h = absurd h
named_found cs (field.GroupOf name) = r.of_group
named_found cs (field.At n) = step (nat_lt n (length cs)) refl
  where
    step : (b : Bool) → nat_lt n (length cs) ≡ b → Named cs (field.At n) (if_not fault.UnknownField b n)
    step true e = let g = got cs n (grind (arith, nat_tests, e)) in (g.0, r.at g.1)
    step false e = r.beyond (grind (arith, nat_tests, e))

pub names_read : {cs : List ScopeColumn} {f : Field} {k : ℕ} {c : ScopeColumn} → Names cs f k c → field_of cs f ≡ Ok k
names_read {cs} (r.plain {name = name} {k = k} {c = c} h) = is_only (is_named name) (HasName name) (name_decides name) cs k c h
names_read {cs} (r.of {alias = alias} {name = name} {k = k} {c = c} h) = is_only (comes_from alias name) (ComesFrom alias name) (from_decides alias name) cs k c h
names_read {cs} (r.at {n = n} {c = c} h) =
    let lt = within cs n c h in
    let is : nat_lt n (length cs) ≡ true = grind (arith, nat_tests, lt) in
    ap (λ b. if_not fault.UnknownField b n) is

pub names_failed : {cs : List ScopeColumn} {f : Field} {cause : Cause} → NameFails cs f cause → field_of cs f ≡ Err cause
names_failed {cs} (r.none {name = name} h) = is_none (is_named name) (HasName name) (name_decides name) cs h
names_failed {cs} (r.none_of {alias = alias} {name = name} h) = is_none (comes_from alias name) (ComesFrom alias name) (from_decides alias name) cs h
names_failed {cs} (r.beyond {n = n} le) = let is : nat_lt n (length cs) ≡ false = grind (arith, nat_tests, le) in ap (λ b. if_not fault.UnknownField b n) is
names_failed {cs} r.of_group = refl
names_failed {cs} (r.several {name = name} h) = is_several (is_named name) (HasName name) (name_decides name) cs h
names_failed {cs} (r.several_of {alias = alias} {name = name} h) = is_several (comes_from alias name) (ComesFrom alias name) (from_decides alias name) cs h

-- the column at the place of a reference
pub named_at : {cs : List ScopeColumn} {f : Field} {k : ℕ} {c : ScopeColumn} → Names cs f k c → slice_get cs k ≡ Some c
named_at (r.plain h) = h.at
named_at (r.of h) = h.at
named_at (r.at h) = h

pub kind_there : (cs : List ScopeColumn) (k : ℕ) (c : ScopeColumn) → slice_get cs k ≡ Some c → kind_at cs k ≡ c.kind
kind_there [] k c e = absurd cc
kind_there (d ∷ cs) zero c e = let same : d ≡ c = cc in ap (λ x. x.kind) same
kind_there (d ∷ cs) (suc k) c e = kind_there cs k c e

pub column_there : (cs : List ScopeColumn) (k : ℕ) (c : ScopeColumn) → slice_get cs k ≡ Some c → column_at cs k ≡ c
column_there [] k c e = absurd cc
column_there (d ∷ cs) zero c e = cc
column_there (d ∷ cs) (suc k) c e = column_there cs k c e

-- references in a scope
abbrev pub Referred : Scope → Field → Answer Typed → Type 0
Referred s f (Ok t) = (c : ScopeColumn) × Refers s f t.expr c × (t.sort ≡ Of c.kind)
Referred s f (Err cause) = RefFails s f cause

over_rows : (cs : List ScopeColumn) (f : Field) (a : Answer ℕ) → Named cs f a → Referred (Rows cs) f (first a (λ k. Ok (column_place cs k)))
over_rows cs f (Ok k) h = (h.0, r.rows h.1, ap Of (kind_there cs k h.0 (named_at h.1)))
over_rows cs f (Err cause) h = r.rows h

module _ (bag : List ℕ) (by cs : List ScopeColumn) where
  -- `group` alone, by a field that is it
  whole_found : (f : Field) → ((c : ScopeColumn) → by ≡ c ∷ [] → NamesGroup by f 0 c) → (length by ≢ 1 → GroupFails bag by f fault.WrongType)
      → (ds : List ScopeColumn) → by ≡ ds → Referred (Group bag by cs) f (whole_group ds)
  whole_found f ok never [] e = r.groups (never (λ l. let n = ap length e in omega (arith, l, n)))
  whole_found f ok never (c ∷ []) e = (c, r.groups (ok c e), refl)
  whole_found f ok never (c ∷ d ∷ ds) e = r.groups (never (λ l. let n = ap length e in omega (arith, l, n)))

  part_found : (name : List ℕ) (a : Answer ℕ) → One (is_named name) (HasName name) (name_decides name) by a → Referred (Group bag by cs) (field.GroupOf name) (first a (λ k. Ok (group_place by k)))
  part_found name (Ok k) h = (h.0, r.groups (r.part h.1), ap Of (kind_there by k h.0 h.1.at))
  part_found name (Err fault.UnknownField) h = r.groups (r.no_part h)
  part_found name (Err fault.Ambiguous) h = r.groups (r.several h)
  part_found name (Err _) h = absurd h

  plain_found : (name : List ℕ) → Referred (Group bag by cs) (field.Plain name) (group_field bag by (field.Plain name))
  plain_found name = step (same_text name group_name) refl (same_text name bag) refl
    where
      step : (a : Bool) → same_text name group_name ≡ a → (b : Bool) → same_text name bag ≡ b
          → Referred (Group bag by cs) (field.Plain name) (if a then whole_group by else if b then Err fault.BagMisused else Err fault.UnknownField)
      step true e b g = subst (λ n. Referred (Group bag by cs) (field.Plain n) (whole_group by)) (sym (same_is name group_name e)) (whole_found (field.Plain group_name) (λ c is. r.group is) (λ l. r.group l) by refl)
      step false e true g =
          let is = same_is name bag g in
          r.groups (subst (λ n. GroupFails bag by (field.Plain n) fault.BagMisused) (sym is) (r.bag (λ h. not_same name group_name e (is ∙ h))))
      step false e false g = r.groups (r.none (not_same name group_name e) (not_same name bag g))

  group_found : (f : Field) → Referred (Group bag by cs) f (group_field bag by f)
  group_found (field.Plain name) = plain_found name
  group_found (field.Of alias name) = r.groups r.of
  group_found (field.GroupOf name) = part_found name (the_one (places (is_named name) 0 by)) (one_found (is_named name) (HasName name) (name_decides name) by)
  group_found (field.At zero) = whole_found (field.At 0) (λ c is. r.first is) (λ l. r.first l) by refl
  group_found (field.At (suc zero)) = r.groups r.second
  group_found (field.At (suc (suc n))) = r.groups (r.beyond (omega arith))

pub ref_found : (s : Scope) (f : Field) → Referred s f (ref_of s f)
ref_found (Rows cs) f = over_rows cs f (field_of cs f) (named_found cs f)
ref_found (Group bag by cs) f = group_found bag by cs f

whole_read : (by : List ScopeColumn) (c : ScopeColumn) → by ≡ c ∷ [] → whole_group by ≡ Ok (typed (p.GroupColumn 0) (Of c.kind))
whole_read by c is = ap whole_group is

group_read : (bag : List ℕ) {by : List ScopeColumn} {f : Field} {k : ℕ} {c : ScopeColumn} → NamesGroup by f k c → group_field bag by f ≡ Ok (typed (p.GroupColumn k) (Of c.kind))
group_read bag {by} (r.group {c = c} is) = whole_read by c is
group_read bag {by} (r.first {c = c} is) = whole_read by c is
group_read bag {by} (r.part {name = name} {k = k} {c = c} h) =
    ap (λ a. first a (λ k. Ok (group_place by k))) (is_only (is_named name) (HasName name) (name_decides name) by k c h)
    ∙ ap (λ j. Ok (typed (p.GroupColumn k) (Of j))) (kind_there by k c h.at)

whole_failed : (by : List ScopeColumn) → length by ≢ 1 → whole_group by ≡ Err fault.WrongType
whole_failed [] never = refl
whole_failed (c ∷ []) never = absurd (never (omega arith))
whole_failed (c ∷ d ∷ by) never = refl

group_failed : (bag : List ℕ) {by : List ScopeColumn} {f : Field} {cause : Cause} → GroupFails bag by f cause → group_field bag by f ≡ Err cause
group_failed bag {by} (r.bag other) =
    ap (λ a. if a then whole_group by else if same_text bag bag then Err fault.BagMisused else Err fault.UnknownField) (is_other bag group_name other)
    ∙ ap (λ b. if b then Err fault.BagMisused else Err fault.UnknownField) (self_same bag)
group_failed bag {by} r.second = refl
group_failed bag {by} (r.none {name = name} never other) =
    ap (λ a. if a then whole_group by else if same_text name bag then Err fault.BagMisused else Err fault.UnknownField) (is_other name group_name never)
    ∙ ap (λ b. if b then Err fault.BagMisused else Err fault.UnknownField) (is_other name bag other)
group_failed bag {by} r.of = refl
group_failed bag {by} (r.no_part {name = name} h) = ap (λ a. first a (λ k. Ok (group_place by k))) (is_none (is_named name) (HasName name) (name_decides name) by h)
group_failed bag {by} (r.beyond {n = n} lt) = past n lt
  where
    past : (n : ℕ) → 1 < n → group_field bag by (field.At n) ≡ Err fault.UnknownField
    past zero lt = absurd (omega (arith, lt))
    past (suc zero) lt = absurd (omega (arith, lt))
    past (suc (suc n)) lt = refl
group_failed bag {by} (r.several {name = name} h) = ap (λ a. first a (λ k. Ok (group_place by k))) (is_several (is_named name) (HasName name) (name_decides name) by h)
group_failed bag {by} (r.group never) = whole_failed by never
group_failed bag {by} (r.first never) = whole_failed by never

pub ref_read : {s : Scope} {f : Field} {x : PlanExpr} {c : ScopeColumn} → Refers s f x c → ref_of s f ≡ Ok (typed x (Of c.kind))
ref_read (r.rows {cs = cs} {f = f} {k = k} {c = c} h) =
    ap (λ a. first a (λ k. Ok (column_place cs k))) (names_read h) ∙ ap (λ j. Ok (typed (p.Column k) (Of j))) (kind_there cs k c (named_at h))
ref_read (r.groups {bag = bag} h) = group_read bag h

pub ref_failed : {s : Scope} {f : Field} {cause : Cause} → RefFails s f cause → ref_of s f ≡ Err cause
ref_failed (r.rows {cs = cs} h) = ap (λ a. first a (λ k. Ok (column_place cs k))) (names_failed h)
ref_failed (r.groups {bag = bag} h) = group_failed bag h

-- calls
abbrev pub Called : Scope → CallKind → List ℕ → Option Field → Answer Typed → Type 0
Called s k alias f (Ok t) = Calls s k alias f t.expr t.sort
Called s k alias f (Err cause) = CallFails s k alias f cause

module _ (bag : List ℕ) (by cs : List ScopeColumn) where
  column_found : (k : CallKind) (f : Field) (n : ℕ) (c : ScopeColumn) → Names cs f n c → (j : Kind) → c.kind ≡ j → Called (Group bag by cs) k bag (Some f) (column_call k j n)
  column_found call.Count f n c h j is = r.count_of h
  column_found call.Sum f n c h kind.Long is = r.sum_of h is
  column_found call.Sum f n c h kind.Text is = r.sum_of_text h is
  column_found call.Min f n c h j is = subst (λ i. Calls (Group bag by cs) call.Min bag (Some f) (p.Agg call.Min (Some n)) (Of i)) is (r.min_of h)
  column_found call.Max f n c h j is = subst (λ i. Calls (Group bag by cs) call.Max bag (Some f) (p.Agg call.Max (Some n)) (Of i)) is (r.max_of h)

  field_found : (k : CallKind) (f : Option Field) → Called (Group bag by cs) k bag f (call_field cs k f)
  field_found call.Count None = r.count
  field_found call.Sum None = r.without (λ e. cc)
  field_found call.Min None = r.without (λ e. cc)
  field_found call.Max None = r.without (λ e. cc)
  field_found k (Some f) = step (field_of cs f) (named_found cs f)
    where
      step : (a : Answer ℕ) → Named cs f a → Called (Group bag by cs) k bag (Some f) (first a (λ n. column_call k (kind_at cs n) n))
      step (Ok n) h = column_found k f n h.0 h.1 (kind_at cs n) (sym (kind_there cs n h.0 (named_at h.1)))
      step (Err cause) h = r.name h

pub call_found : (s : Scope) (k : CallKind) (alias : List ℕ) (f : Option Field) → Called s k alias f (call_of s k alias f)
call_found (Rows cs) k alias f = r.rows
call_found (Group bag by cs) k alias f = step (same_text alias bag) refl
  where
    step : (b : Bool) → same_text alias bag ≡ b → Called (Group bag by cs) k alias f (if b then call_field cs k f else Err fault.BagMisused)
    step true e = subst (λ a. Called (Group bag by cs) k a f (call_field cs k f)) (sym (same_is alias bag e)) (field_found bag by cs k f)
    step false e = r.other (not_same alias bag e)

own : (bag : List ℕ) (by cs : List ScopeColumn) (k : CallKind) (f : Option Field) → call_of (Group bag by cs) k bag f ≡ call_field cs k f
own bag by cs k f = ap (λ b. if b then call_field cs k f else Err fault.BagMisused) (self_same bag)

own_column : (bag : List ℕ) (by cs : List ScopeColumn) (k : CallKind) (f : Field) (n : ℕ) (c : ScopeColumn) → Names cs f n c → call_of (Group bag by cs) k bag (Some f) ≡ column_call k c.kind n
own_column bag by cs k f n c h =
    own bag by cs k (Some f) ∙ ap (λ a. first a (λ n. column_call k (kind_at cs n) n)) (names_read h) ∙ ap (λ j. column_call k j n) (kind_there cs n c (named_at h))

pub call_read : {s : Scope} {k : CallKind} {alias : List ℕ} {f : Option Field} {x : PlanExpr} {i : Sort} → Calls s k alias f x i → call_of s k alias f ≡ Ok (typed x i)
call_read (r.count {bag = bag} {by = by} {cs = cs}) = own bag by cs call.Count None
call_read (r.count_of {bag = bag} {by = by} {cs = cs} {f = f} {k = n} {c = c} h) = own_column bag by cs call.Count f n c h
call_read (r.sum_of {bag = bag} {by = by} {cs = cs} {f = f} {k = n} {c = c} h is) = own_column bag by cs call.Sum f n c h ∙ ap (λ j. column_call call.Sum j n) is
call_read (r.min_of {bag = bag} {by = by} {cs = cs} {f = f} {k = n} {c = c} h) = own_column bag by cs call.Min f n c h
call_read (r.max_of {bag = bag} {by = by} {cs = cs} {f = f} {k = n} {c = c} h) = own_column bag by cs call.Max f n c h

none_failed : (k : CallKind) → k ≢ call.Count → bag_call k ≡ Err fault.WrongType
none_failed call.Count never = absurd (never refl)
none_failed call.Sum never = refl
none_failed call.Min never = refl
none_failed call.Max never = refl

pub call_failed : {s : Scope} {k : CallKind} {alias : List ℕ} {f : Option Field} {cause : Cause} → CallFails s k alias f cause → call_of s k alias f ≡ Err cause
call_failed r.rows = refl
call_failed (r.other {bag = bag} {cs = cs} {k = k} {alias = alias} {f = f} other) = ap (λ b. if b then call_field cs k f else Err fault.BagMisused) (is_other alias bag other)
call_failed (r.name {bag = bag} {by = by} {cs = cs} {k = k} {f = f} h) = own bag by cs k (Some f) ∙ ap (λ a. first a (λ n. column_call k (kind_at cs n) n)) (names_failed h)
call_failed (r.sum_of_text {bag = bag} {by = by} {cs = cs} {f = f} {k = n} {c = c} h is) = own_column bag by cs call.Sum f n c h ∙ ap (λ j. column_call call.Sum j n) is
call_failed (r.without {bag = bag} {by = by} {cs = cs} {k = k} never) = own bag by cs k None ∙ none_failed k never
