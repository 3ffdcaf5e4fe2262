-- What is answered of the items of a FOREACH is what the relations say.
use Rattle.std.proofs.Common.{◌≡◌, ◌≢◌, ℕ, suc, Bool, true, false, List, [], ◌∷◌, ◌++◌, length, map, Option, Some, None, Ok, Err, refl, ap, sym, ◌∙◌, subst, arith, append_assoc, append-nil}
use Rattle.nova_value.specs.declared.value.Kind.{Kind}
use Rattle.nova_value.specs.declared.value.Kind.TheVariants as kind
use Rattle.nova_pig_tree.specs.declared.expression.Field.{Field}
use Rattle.nova_pig_tree.specs.declared.expression.Field.TheVariants as field
use Rattle.nova_pig_tree.specs.declared.expression.Expr.{Expr}
use Rattle.nova_pig_tree.specs.declared.expression.Expr.TheVariants as e
use Rattle.nova_pig_tree.specs.declared.expression.Expr.TheOpen.{Expr-F}
use Rattle.nova_pig_tree.specs.declared.expression.Expr.TheViews.{roll-Expr, out-Expr, roll-out-Expr}
use Rattle.nova_pig_tree.specs.declared.statement.Item.{Item}
use Rattle.nova_pig_tree.specs.declared.statement.Item.TheVariants as item
use Rattle.nova_pig_algebra.specs.declared.node.PlanExpr.{PlanExpr}
use Rattle.nova_pig_algebra.specs.declared.node.PlanExpr.TheVariants as p
use Rattle.nova_pig_algebra.specs.declared.node.Sort.{Sort}
use Rattle.nova_pig_algebra.specs.declared.node.Sort.TheVariants.{Of, Condition}
use Rattle.nova_pig_plan.specs.declared.fault.Cause.{Cause}
use Rattle.nova_pig_plan.specs.declared.fault.Cause.TheVariants as fault
use Rattle.nova_pig_plan.specs.declared.scope.ScopeColumn.{ScopeColumn}
use Rattle.nova_pig_plan.specs.declared.scope.Scope.{Scope}
use Rattle.nova_pig_plan.specs.declared.scope.Scope.TheVariants.{Rows, Group}
use Rattle.nova_pig_plan.specs.declared.scope.Typed.{Typed}
use Rattle.nova_pig_plan.specs.declared.scope.Made.{Made}
use Rattle.nova_pig_plan.specs.Layer.{Layer}
use Rattle.nova_pig_plan.specs.Answers.{Answer, first, if_not}
use Rattle.nova_pig_plan.specs.Exprs.{group_name, expr_of, ref_of}
use Rattle.nova_pig_plan.specs.Items.{column_with, same_kind, column_meant, field_label, layer_label, item_label, value_kind, with_kind, with_item, with_all, with_flat, flattened, value_of, item_of, items_of}
use Rattle.nova_pig_forms.specs.References.{Names, Refers}
use Rattle.nova_pig_forms.specs.References as refer
use Rattle.nova_pig_forms.specs.Resolves.{Resolves, ExprFails, Label, IsLabel, IsKindAfter, numbered, ItemMakes, ItemFails, ItemsMake, ItemsFail}
use Rattle.nova_pig_forms.specs.Resolves as r
use Rattle.nova_pig_forms.proofs.Refer.{Referred, ref_found, names_read, named_at, column_there}
use Rattle.nova_pig_forms.proofs.Express.{Answered, expr_found, expr_read, expr_failed}
use Rattle.nova_pig_plan.proofs.Laws as laws

abbrev label_of : ScopeColumn → Label
label_of c = (c.name, c.origin)

ref_label : {s : Scope} {f : Field} {x : PlanExpr} {c : ScopeColumn} → Refers s f x c → IsLabel s None (e.Ref f) (label_of (field_label s f))
ref_label (refer.rows {cs = cs} {f = f} {k = k} {c = c} h) =
    subst (λ d. IsLabel (Rows cs) None (e.Ref f) (label_of d)) (sym (ap (column_meant cs) (names_read h) ∙ column_there cs k c (named_at h))) (r.kept h)
ref_label (refer.groups (refer.group is)) = r.group
ref_label (refer.groups (refer.first is)) = r.first
ref_label (refer.groups (refer.part h)) = r.part

opened : (x : Expr) (f : Field) → out-Expr x ≡ Expr-F.Ref f → x ≡ e.Ref f
opened x f is = sym (roll-out-Expr x) ∙ ap roll-Expr is ∙ e.rolls-Ref f

label_found : (s : Scope) (x : Expr) (t : Typed) → expr_of s x ≡ Ok t → IsLabel s None x (label_of (layer_label s (out-Expr x)))
label_found s x t given = step (out-Expr x) refl
  where
    referred : (f : Field) (a : Answer Typed) → Referred s f a → a ≡ Ok t → IsLabel s None (e.Ref f) (label_of (field_label s f))
    referred f (Ok u) h is = ref_label h.1
    referred f (Err cause) h is = absurd cc

    step : (y : Layer) → out-Expr x ≡ y → IsLabel s None x (label_of (layer_label s y))
    step (Expr-F.Ref f) is =
        let same = opened x f is in
        subst (λ z. IsLabel s None z (label_of (field_label s f))) (sym same) (referred f (ref_of s f) (ref_found s f) (sym (laws.expr-Ref s f) ∙ ap (expr_of s) (sym same) ∙ given))
    step y is = r.other (λ f same. let o = sym is ∙ ap out-Expr same ∙ e.outs-Ref f in absurd cc)

item_label_found : (s : Scope) (name : Option (List ℕ)) (x : Expr) (t : Typed) → expr_of s x ≡ Ok t → IsLabel s name x (label_of (item_label s name x))
item_label_found s (Some name) x t given = r.given
item_label_found s None x t given = label_found s x t given

other_label : (s : Scope) (x : Expr) (k : Kind) → ((f : Field) → x ≡ e.Ref f → ⊥) → with_kind k (layer_label s (out-Expr x)) ≡ column_with k None None
other_label s x k none = step (out-Expr x) refl
  where
    step : (y : Layer) → out-Expr x ≡ y → with_kind k (layer_label s y) ≡ column_with k None None
    step (Expr-F.Ref f) is = absurd (none f (opened x f is))
    step y is = refl

label_read : {s : Scope} {name : Option (List ℕ)} {x : Expr} {l : Label} (k : Kind) → IsLabel s name x l → with_kind k (item_label s name x) ≡ column_with k l.0 l.1
label_read k r.given = refl
label_read i (r.kept {cs = cs} {f = f} {k = k} {c = c} h) =
    ap (λ y. with_kind i (layer_label (Rows cs) y)) (e.outs-Ref f) ∙ ap (λ a. with_kind i (column_meant cs a)) (names_read h) ∙ ap (with_kind i) (column_there cs k c (named_at h))
label_read i (r.group {bag = bag} {by = by} {cs = cs}) = ap (λ y. with_kind i (layer_label (Group bag by cs) y)) (e.outs-Ref (field.Plain group_name))
label_read i (r.first {bag = bag} {by = by} {cs = cs}) = ap (λ y. with_kind i (layer_label (Group bag by cs) y)) (e.outs-Ref (field.At 0))
label_read i (r.part {bag = bag} {name = name} {by = by} {cs = cs}) = ap (λ y. with_kind i (layer_label (Group bag by cs) y)) (e.outs-Ref (field.GroupOf name))
label_read i (r.other {s = s} {x = x} none) = other_label s x i none

-- what was made, and more
abbrev pub more : Made → List PlanExpr → List ScopeColumn → Made
more made xs cs = record { exprs = made.exprs ++ xs; columns = made.columns ++ cs }

nothing_more : (made : Made) → more made [] [] ≡ made
nothing_more made = λ i. record { exprs = append-nil made.exprs i; columns = append-nil made.columns i }

twice_more : (made : Made) (xs ys : List PlanExpr) (cs ds : List ScopeColumn) → more (more made xs cs) ys ds ≡ more made (xs ++ ys) (cs ++ ds)
twice_more made xs ys cs ds = λ i. record { exprs = append_assoc made.exprs xs ys i; columns = append_assoc made.columns cs ds i }

all_made : (n : ℕ) (made : Made) (cs : List ScopeColumn) → with_all n made cs ≡ more made (numbered p.Column n cs) cs
all_made n made [] = sym (nothing_more made)
all_made n made (c ∷ cs) = all_made (suc n) (with_item made (p.Column n) c) cs ∙ twice_more made (p.Column n ∷ []) (numbered p.Column (suc n) cs) (c ∷ []) cs

abbrev from_group : ScopeColumn → ScopeColumn
from_group c = column_with c.kind c.name (Some group_name)

flat_made : (n : ℕ) (made : Made) (cs : List ScopeColumn) → with_flat n made cs ≡ more made (numbered p.GroupColumn n cs) (map from_group cs)
flat_made n made [] = sym (nothing_more made)
flat_made n made (c ∷ cs) =
    flat_made (suc n) (with_item made (p.GroupColumn n) (from_group c)) cs ∙ twice_more made (p.GroupColumn n ∷ []) (numbered p.GroupColumn (suc n) cs) (from_group c ∷ []) (map from_group cs)

-- what is answered of an item, after others
abbrev pub Makes : Scope → Made → Item → Answer Made → Type 0
Makes s made i (Ok m) = (xs : List PlanExpr) × (cs : List ScopeColumn) × ItemMakes s i xs cs × (m ≡ more made xs cs)
Makes s made i (Err cause) = ItemFails s i cause

flat_found : (bag : List ℕ) (by cs : List ScopeColumn) (made : Made) → Makes (Group bag by cs) made item.Flatten (Ok (flattened made by))
flat_found bag [] cs made = ([], [], r.flat (λ l. omega (arith, l)), flat_made 0 made [])
flat_found bag (c ∷ []) cs made = (p.GroupColumn 0 ∷ [], column_with c.kind (Some group_name) None ∷ [], r.one, refl)
flat_found bag (c ∷ d ∷ by) cs made = (numbered p.GroupColumn 0 (c ∷ d ∷ by), map from_group (c ∷ d ∷ by), r.flat (λ l. omega (arith, l)), flat_made 0 made (c ∷ d ∷ by))

flat_read : (by : List ScopeColumn) (made : Made) → length by ≢ 1 → flattened made by ≡ more made (numbered p.GroupColumn 0 by) (map from_group by)
flat_read [] made never = flat_made 0 made []
flat_read (c ∷ []) made never = absurd (never (omega arith))
flat_read (c ∷ d ∷ by) made never = flat_made 0 made (c ∷ d ∷ by)

kind_after : (j k : Kind) → same_kind k j ≡ true → j ≡ k
kind_after kind.Long kind.Long h = refl
kind_after kind.Text kind.Text h = refl
kind_after kind.Long kind.Text h = absurd cc
kind_after kind.Text kind.Long h = absurd cc

own_kind : (k : Kind) → same_kind k k ≡ true
own_kind kind.Long = refl
own_kind kind.Text = refl

kind_apart : (j k : Kind) → j ≢ k → same_kind k j ≡ false
kind_apart kind.Long kind.Long h = absurd (h refl)
kind_apart kind.Text kind.Text h = absurd (h refl)
kind_apart kind.Long kind.Text h = refl
kind_apart kind.Text kind.Long h = refl

not_kind : (j k : Kind) → same_kind k j ≡ false → j ≢ k
not_kind j k h is = let own = ap (same_kind k) is ∙ own_kind k in absurd cc

value_found : (s : Scope) (made : Made) (x : Expr) (name : Option (List ℕ)) (after : Option Kind) → Makes s made (item.Value x name after) (value_of s made x name after)
value_found s made x name after = step (expr_of s x) refl (expr_found s x)
  where
    made_of : (t : Typed) (k : Kind) → expr_of s x ≡ Ok t → Resolves s x t.expr (Of k) → IsKindAfter after k
        → Makes s made (item.Value x name after) (Ok (with_item made t.expr (with_kind k (item_label s name x))))
    made_of t k given h is = (t.expr ∷ [], with_kind k (item_label s name x) ∷ [], r.value h is (item_label_found s name x t given), refl)

    by_after : (t : Typed) (k : Kind) → expr_of s x ≡ Ok t → Resolves s x t.expr (Of k) → (o : Option Kind) → after ≡ o
        → Makes s made (item.Value x name after) (first (value_kind (Of k) o) (λ j. Ok (with_item made t.expr (with_kind j (item_label s name x)))))
    by_after t k given h None is = made_of t k given h (subst (λ o. IsKindAfter o k) (sym is) tt)
    by_after t k given h (Some j) is = by_kind (same_kind k j) refl
      where
        by_kind : (b : Bool) → same_kind k j ≡ b → Makes s made (item.Value x name after) (first (if_not fault.WrongType b k) (λ j. Ok (with_item made t.expr (with_kind j (item_label s name x)))))
        by_kind true same = made_of t k given h (subst (λ o. IsKindAfter o k) (sym is) (kind_after j k same))
        by_kind false other = subst (λ o. ItemFails s (item.Value x name o) fault.WrongType) (sym is) (r.other_kind h (not_kind j k other))

    by_sort : (t : Typed) → expr_of s x ≡ Ok t → (i : Sort) → Resolves s x t.expr i
        → Makes s made (item.Value x name after) (first (value_kind i after) (λ j. Ok (with_item made t.expr (with_kind j (item_label s name x)))))
    by_sort t given (Of k) h = by_after t k given h after refl
    by_sort t given Condition h = r.condition h

    step : (a : Answer Typed) → expr_of s x ≡ a → Answered s x a
        → Makes s made (item.Value x name after) (first a (λ t. first (value_kind t.sort after) (λ j. Ok (with_item made t.expr (with_kind j (item_label s name x))))))
    step (Ok t) given h = by_sort t given t.sort h
    step (Err cause) given h = r.expression h

item_found : (s : Scope) (made : Made) (i : Item) → Makes s made i (item_of s made i)
item_found (Rows cs) made item.All = (numbered p.Column 0 cs, cs, r.all, all_made 0 made cs)
item_found (Group bag by cs) made item.All = r.all
item_found (Rows cs) made item.Flatten = r.flat
item_found (Group bag by cs) made item.Flatten = flat_found bag by cs made
item_found s made (item.Value x name after) = value_found s made x name after

abbrev value_from : Scope → Made → Expr → Option (List ℕ) → Option Kind → Typed → Answer Made
value_from s made x name after t = first (value_kind t.sort after) (λ j. Ok (with_item made t.expr (with_kind j (item_label s name x))))

kind_read : (after : Option Kind) (k : Kind) → IsKindAfter after k → value_kind (Of k) after ≡ Ok k
kind_read None k h = refl
kind_read (Some j) k h = ap (λ b. if_not fault.WrongType b k) (ap (same_kind k) h ∙ own_kind k)

item_read : {s : Scope} {i : Item} {xs : List PlanExpr} {cs : List ScopeColumn} (made : Made) → ItemMakes s i xs cs → item_of s made i ≡ Ok (more made xs cs)
item_read made (r.all {cs = cs}) = ap Ok (all_made 0 made cs)
item_read made r.one = refl
item_read made (r.flat {by = by} never) = ap Ok (flat_read by made never)
item_read made (r.value {s = s} {x = x} {name = name} {after = after} {v = v} {k = k} h is l) =
    ap (λ a. first a (value_from s made x name after)) (expr_read h)
    ∙ ap (λ a. first a (λ j. Ok (with_item made v (with_kind j (item_label s name x))))) (kind_read after k is)
    ∙ ap (λ c. Ok (with_item made v c)) (label_read k l)

item_failed : {s : Scope} {i : Item} {cause : Cause} (made : Made) → ItemFails s i cause → item_of s made i ≡ Err cause
item_failed made r.all = refl
item_failed made r.flat = refl
item_failed made (r.expression {s = s} {x = x} {name = name} {after = after} h) = ap (λ a. first a (value_from s made x name after)) (expr_failed h)
item_failed made (r.condition {s = s} {x = x} {name = name} {after = after} h) = ap (λ a. first a (value_from s made x name after)) (expr_read h)
item_failed made (r.other_kind {s = s} {x = x} {name = name} {j = j} {k = k} {v = v} h other) =
    ap (λ a. first a (value_from s made x name (Some j))) (expr_read h)
    ∙ ap (λ b. first (if_not fault.WrongType b k) (λ j. Ok (with_item made v (with_kind j (item_label s name x))))) (kind_apart j k other)

-- what is answered of items, after others
abbrev pub AllMake : Scope → Made → List Item → Answer Made → Type 0
AllMake s made is (Ok m) = (xs : List PlanExpr) × (cs : List ScopeColumn) × ItemsMake s is xs cs × (m ≡ more made xs cs)
AllMake s made is (Err cause) = ItemsFail s is cause

pub items_found : (s : Scope) (is : List Item) (made : Made) → AllMake s made is (items_of s made is)
items_found s [] made = ([], [], r.none, sym (nothing_more made))
items_found s (i ∷ is) made = step (item_of s made i) (item_found s made i) (λ m. items_found s is m)
  where
    joined : (xs : List PlanExpr) (cs : List ScopeColumn) (m : Made) → ItemMakes s i xs cs → m ≡ more made xs cs → (a : Answer Made) → AllMake s m is a → AllMake s made (i ∷ is) a
    joined xs cs m h same (Ok n) rest = (xs ++ rest.0, cs ++ rest.1, r.more h rest.2, rest.3 ∙ ap (λ z. more z rest.0 rest.1) same ∙ twice_more made xs rest.0 cs rest.1)
    joined xs cs m h same (Err cause) rest = r.after h rest

    step : (a : Answer Made) → Makes s made i a → ((m : Made) → AllMake s m is (items_of s m is)) → AllMake s made (i ∷ is) (first a (λ m. items_of s m is))
    step (Ok m) h rest = joined h.0 h.1 m h.2 h.3 (items_of s m is) (rest m)
    step (Err cause) h rest = r.here h

pub items_read : {s : Scope} {is : List Item} {xs : List PlanExpr} {cs : List ScopeColumn} (made : Made) → ItemsMake s is xs cs → items_of s made is ≡ Ok (more made xs cs)
items_read made r.none = ap Ok (sym (nothing_more made))
items_read {s} made (r.more {is = is} {xs = xs} {ys = ys} {cs = cs} {ds = ds} h rest) =
    ap (λ a. first a (λ m. items_of s m is)) (item_read made h) ∙ items_read (more made xs cs) rest ∙ ap Ok (twice_more made xs ys cs ds)

pub items_failed : {s : Scope} {is : List Item} {cause : Cause} (made : Made) → ItemsFail s is cause → items_of s made is ≡ Err cause
items_failed {s} made (r.here {is = is} h) = ap (λ a. first a (λ m. items_of s m is)) (item_failed made h)
items_failed {s} made (r.after {is = is} {xs = xs} {cs = cs} h rest) = ap (λ a. first a (λ m. items_of s m is)) (item_read made h) ∙ items_failed (more made xs cs) rest
