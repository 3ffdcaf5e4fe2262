-- An answered node has the kinds of its scope.
use Rattle.std.proofs.Common.{◌≡◌, ◌+◌, ℕ, suc, Bool, true, false, if◌then◌else◌, nat_le, List, [], ◌∷◌, ◌++◌, map, length, Option, Some, None, Ok, Err, slice_get, refl, ap, sym, ◌∙◌, subst, arith}
use Rattle.nova_value.specs.declared.value.Kind.{Kind}
use Rattle.nova_pig_tree.specs.declared.expression.Expr.{Expr}
use Rattle.nova_pig_tree.specs.declared.statement.Item.{Item}
use Rattle.nova_pig_tree.specs.declared.statement.Item.TheVariants as item
use Rattle.nova_pig_algebra.specs.declared.node.PlanExpr.{PlanExpr}
use Rattle.nova_pig_algebra.specs.declared.node.PlanExpr.TheVariants as p
use Rattle.nova_pig_algebra.specs.declared.node.Node.TheVariants as node
use Rattle.nova_pig_algebra.specs.declared.node.Sort.{Sort}
use Rattle.nova_pig_algebra.specs.declared.node.Sort.TheVariants.{Of, Condition}
use Rattle.nova_pig_plan.specs.declared.fault.Cause.TheVariants as fault
use Rattle.nova_pig_plan.specs.declared.scope.ScopeColumn.{ScopeColumn}
use Rattle.nova_pig_plan.specs.declared.scope.Scope.{Scope}
use Rattle.nova_pig_plan.specs.declared.scope.Scope.TheVariants.{Rows, Group}
use Rattle.nova_pig_plan.specs.declared.scope.Typed.{Typed}
use Rattle.nova_pig_plan.specs.declared.scope.Made.{Made}
use Rattle.nova_pig_plan.specs.declared.scope.Defined.{Defined}
use Rattle.nova_pig_plan.specs.declared.scope.Channels.{Channels}
use Rattle.nova_pig_plan.specs.Answers.{Answer, first, if_not}
use Rattle.nova_pig_plan.specs.Columns.{same_text}
use Rattle.nova_pig_plan.specs.Exprs.{is_condition, expr_of}
use Rattle.nova_pig_plan.specs.Items.{same_kind, value_kind, with_kind as with_kind_of, item_label, with_all, with_flat, flattened, with_item, nothing, item_of, items_of, value_of}
use Rattle.nova_pig_plan.specs.Plans.{Aliases, find, known, some_or, ungrouped, defined, filter_rows, foreach, distinct}
use Rattle.nova_pig_plan.specs.Sorts.{Over, Row, Bag, over, kinds, of_kind, has, sort_of, Sorted}
use Rattle.nova_pig_plan.specs.Kinded.{with_kind, item_kinds, as_rows, filter_over, foreach_over, distinct_over, node_over, overs, input_kinds, Kinded}
use Rattle.nova_pig_plan.proofs.Sorted.{expr_sorted, sort-Column, sort-GroupColumn}

-- what is found stands at its place
pub found_in : {A B : Type 0} (f : A → B) (name : List ℕ) (n : ℕ) (es : List (List ℕ × A)) (k : ℕ) (x : A) → find name n es ≡ Some (k, x) → (j : ℕ) × ((k ≡ n + j) × (slice_get (map (λ e. f e.1) es) j ≡ Some (f x)))
found_in f name n [] k x e = absurd cc
found_in {A} f name n (d ∷ es) k x e = step (same_text name d.0) e (found_in f name (suc n) es k x)
  where
    step : (b : Bool) → (if b then Some (n, d.1) else find name (suc n) es) ≡ Some (k, x)
        → (find name (suc n) es ≡ Some (k, x) → (j : ℕ) × ((k ≡ suc n + j) × (slice_get (map (λ e. f e.1) es) j ≡ Some (f x))))
        → (j : ℕ) × ((k ≡ n + j) × (slice_get (map (λ e. f e.1) (d ∷ es)) j ≡ Some (f x)))
    step true h rest =
        let pair : ◌≡◌ {A = ℕ × A} (n, d.1) (k, x) = cc in
        let a : n ≡ k = ap (λ z. z.0) pair in
        (0, (omega (arith, a), ap (λ z. Some (f z.1)) pair))
    step false h rest = let r = rest h in (suc r.0, (omega (arith, r.1.0), r.1.1))

pub known_at : (name : List ℕ) (done : Aliases) (k : ℕ) (s : Scope) → known done name ≡ Ok (k, s) → slice_get (overs done) k ≡ Some (over s)
known_at name done k s e = step (find name 0 done) refl e
  where
    step : (o : Option (ℕ × Scope)) → find name 0 done ≡ o → some_or fault.UnknownAlias o ≡ Ok (k, s) → slice_get (overs done) k ≡ Some (over s)
    step (Some x) is h =
        let same : x ≡ (k, s) = cc in
        let r = found_in over name 0 done k s (is ∙ ap Some same) in
        let at : r.0 ≡ k = omega (arith, r.1.0) in
        subst (λ i. slice_get (overs done) i ≡ Some (over s)) at r.1.1
    step None is h = absurd cc

module _ (ch : Channels) (done : Aliases) where
  pub on_known : (name : List ℕ) (next : (ℕ × Scope) → Answer Defined) → ((k : ℕ) (s : Scope) → slice_get (overs done) k ≡ Some (over s) → Kinded ch done (next (k, s))) → Kinded ch done (first (known done name) next)
  on_known name next go = step (known done name) refl
    where
      step : (a : Answer (ℕ × Scope)) → known done name ≡ a → Kinded ch done (first a next)
      step (Ok x) e = go x.0 x.1 (known_at name done x.0 x.1 e)
      step (Err c) e = tt

  pub on_rows : (s : Scope) (next : List ScopeColumn → Answer Defined) → ((cs : List ScopeColumn) → s ≡ Rows cs → Kinded ch done (next cs)) → Kinded ch done (first (ungrouped s) next)
  on_rows (Rows cs) next go = go cs refl
  on_rows (Group bag by cs) next go = tt

  pub filter_kinded : (from : List ℕ) (x : Expr) → Kinded ch done (filter_rows done from x)
  filter_kinded from x = on_known from _ (λ k s at. on_rows s _ (λ cs is. step k cs (at ∙ ap (λ z. Some (over z)) is) (expr_of (Rows cs) x) (expr_sorted (Rows cs) x)))
    where
      checked : (k : ℕ) (cs : List ScopeColumn) → slice_get (overs done) k ≡ Some (Row (kinds cs)) → (t : Typed) → sort_of (Row (kinds cs)) t.expr ≡ Some t.sort → (b : Bool) → is_condition t.sort ≡ b
          → Kinded ch done (if_not fault.WrongType b (record { node = node.Filter k t.expr; scope = Rows cs }))
      checked k cs at t h true is = ap (filter_over t.expr) at ∙ ap (λ o. if has is_condition o then Some (Row (kinds cs)) else None) h ∙ ap (λ b. if b then Some (Row (kinds cs)) else None) is
      checked k cs at t h false is = tt

      step : (k : ℕ) (cs : List ScopeColumn) → slice_get (overs done) k ≡ Some (Row (kinds cs)) → (a : Answer Typed) → Sorted (Row (kinds cs)) a
          → Kinded ch done (first a (λ t. if_not fault.WrongType (is_condition t.sort) (record { node = node.Filter k t.expr; scope = Rows cs })))
      step k cs at (Ok t) h = checked k cs at t h (is_condition t.sort) refl
      step k cs at (Err c) h = tt

  pub distinct_kinded : (from : List ℕ) → Kinded ch done (distinct done from)
  distinct_kinded from = on_known from _ (λ k s at. on_rows s _ (λ cs is. ap distinct_over (at ∙ ap (λ z. Some (over z)) is)))

-- the items so far have the kinds of their columns
abbrev MadeKinded : Over → Answer Made → Type 0
MadeKinded o (Ok m) = item_kinds o m.exprs ≡ Some (kinds m.columns)
MadeKinded o (Err c) = Unit {0}

kinds_more : (cs : List ScopeColumn) (c : ScopeColumn) → kinds (cs ++ c ∷ []) ≡ kinds cs ++ c.kind ∷ []
kinds_more [] c = refl
kinds_more (d ∷ cs) c = ap (λ ks. d.kind ∷ ks) (kinds_more cs c)

own : (j : Kind) (o : Option Kind) (i : Kind) → value_kind (Of j) o ≡ Ok i → j ≡ i
own j None i f = cc
own j (Some k) i f = step (same_kind j k) f
  where
    step : (b : Bool) → if_not fault.WrongType b j ≡ Ok i → j ≡ i
    step true g = cc
    step false g = absurd cc

module _ (o : Over) where
  more : (e : PlanExpr) (k : Kind) → sort_of o e ≡ Some (Of k) → (es : List PlanExpr) (ks : List Kind) → item_kinds o es ≡ Some ks → item_kinds o (es ++ e ∷ []) ≡ Some (ks ++ k ∷ [])
  more e k is [] ks h = let same : [] ≡ ks = cc in ap (λ t. with_kind t (Some [])) is ∙ ap (λ l. Some (l ++ k ∷ [])) same
  more e k is (x ∷ xs) ks h = step (sort_of o x) (item_kinds o xs) h (more e k is xs)
    where
      step : (t : Option Sort) (l : Option (List Kind)) → with_kind t l ≡ Some ks → ((js : List Kind) → l ≡ Some js → item_kinds o (xs ++ e ∷ []) ≡ Some (js ++ k ∷ [])) → with_kind t (item_kinds o (xs ++ e ∷ [])) ≡ Some (ks ++ k ∷ [])
      step (Some (Of j)) (Some js) g rest = let same : j ∷ js ≡ ks = cc in ap (with_kind (Some (Of j))) (rest js refl) ∙ ap (λ l. Some (l ++ k ∷ [])) same
      step (Some (Of j)) None g rest = absurd cc
      step (Some Condition) l g rest = absurd cc
      step None l g rest = absurd cc

  one_more : (m : Made) (e : PlanExpr) (c : ScopeColumn) → sort_of o e ≡ Some (Of c.kind) → MadeKinded o (Ok m) → MadeKinded o (Ok (with_item m e c))
  one_more m e c is h = more e c.kind is m.exprs (kinds m.columns) h ∙ ap Some (sym (kinds_more m.columns c))

  value_kinded : (s : Scope) → over s ≡ o → (m : Made) (x : Expr) (name : Option (List ℕ)) (k : Option Kind) → MadeKinded o (Ok m) → MadeKinded o (value_of s m x name k)
  value_kinded s is m x name k h = step (expr_of s x) (subst (λ z. Sorted z (expr_of s x)) is (expr_sorted s x))
    where
      kind_step : (t : Typed) → sort_of o t.expr ≡ Some t.sort → (r : Sort) (a : Answer Kind) → t.sort ≡ r → value_kind r k ≡ a
          → MadeKinded o (first a (λ j. Ok (with_item m t.expr (with_kind_of j (item_label s name x)))))
      kind_step t g (Of j) (Ok i) e f = one_more m t.expr _ (g ∙ ap Some e ∙ ap (λ z. Some (Of z)) (own j k i f)) h
      kind_step t g (Of j) (Err c) e f = tt
      kind_step t g Condition (Ok i) e f = absurd cc
      kind_step t g Condition (Err c) e f = tt

      step : (a : Answer Typed) → Sorted o a → MadeKinded o (first a (λ t. first (value_kind t.sort k) (λ j. Ok (with_item m t.expr (with_kind_of j (item_label s name x))))))
      step (Ok t) g = kind_step t g t.sort (value_kind t.sort k) refl refl
      step (Err c) g = tt

all_kinded : (ks : List Kind) (n : ℕ) (m : Made) (cs : List ScopeColumn) → ((i : ℕ) → slice_get ks (n + i) ≡ slice_get (kinds cs) i) → MadeKinded (Row ks) (Ok m) → MadeKinded (Row ks) (Ok (with_all n m cs))
all_kinded ks n m [] at h = h
all_kinded ks n m (c ∷ cs) at h =
    all_kinded ks (suc n) (with_item m (p.Column n) c) cs
    (λ i. ap (slice_get ks) (omega arith) ∙ at (suc i))
    (one_more (Row ks) m (p.Column n) c (sort-Column (Row ks) n ∙ ap of_kind (ap (slice_get ks) (omega arith) ∙ at 0)) h)

flat_kinded : (ks js : List Kind) (n : ℕ) (m : Made) (cs : List ScopeColumn) → ((i : ℕ) → slice_get ks (n + i) ≡ slice_get (kinds cs) i) → MadeKinded (Bag ks js) (Ok m) → MadeKinded (Bag ks js) (Ok (with_flat n m cs))
flat_kinded ks js n m [] at h = h
flat_kinded ks js n m (c ∷ cs) at h =
    flat_kinded ks js (suc n) (with_item m (p.GroupColumn n) _) cs
    (λ i. ap (slice_get ks) (omega arith) ∙ at (suc i))
    (one_more (Bag ks js) m (p.GroupColumn n) _ (sort-GroupColumn (Bag ks js) n ∙ ap of_kind (ap (slice_get ks) (omega arith) ∙ at 0)) h)

from_0 : (ks : List Kind) (i : ℕ) → slice_get ks (0 + i) ≡ slice_get ks i
from_0 ks i = ap (slice_get ks) (omega arith)

flattened_kinded : (by : List ScopeColumn) (js : List Kind) (m : Made) → MadeKinded (Bag (kinds by) js) (Ok m) → MadeKinded (Bag (kinds by) js) (Ok (flattened m by))
flattened_kinded [] js m h = h
flattened_kinded (c ∷ []) js m h = one_more (Bag (kinds (c ∷ [])) js) m (p.GroupColumn 0) _ (sort-GroupColumn (Bag (kinds (c ∷ [])) js) 0) h
flattened_kinded (c ∷ d ∷ by) js m h = flat_kinded (kinds (c ∷ d ∷ by)) js 0 m (c ∷ d ∷ by) (from_0 (kinds (c ∷ d ∷ by))) h

item_kinded : (s : Scope) (m : Made) (i : Item) → MadeKinded (over s) (Ok m) → MadeKinded (over s) (item_of s m i)
item_kinded (Rows cs) m item.All h = all_kinded (kinds cs) 0 m cs (from_0 (kinds cs)) h
item_kinded (Group bag by cs) m item.All h = tt
item_kinded (Rows cs) m item.Flatten h = tt
item_kinded (Group bag by cs) m item.Flatten h = flattened_kinded by (kinds cs) m h
item_kinded s m (item.Value x name k) h = value_kinded (over s) s refl m x name k h

pub items_kinded : (s : Scope) (m : Made) (is : List Item) → MadeKinded (over s) (Ok m) → MadeKinded (over s) (items_of s m is)
items_kinded s m [] h = h
items_kinded s m (i ∷ rest) h = step (item_of s m i) (item_kinded s m i h) (λ n. items_kinded s n rest)
  where
    step : (a : Answer Made) → MadeKinded (over s) a → ((n : Made) → MadeKinded (over s) (Ok n) → MadeKinded (over s) (items_of s n rest)) → MadeKinded (over s) (first a (λ n. items_of s n rest))
    step (Ok n) g go = go n g
    step (Err c) g go = tt

pub foreach_kinded : (ch : Channels) (done : Aliases) (from : List ℕ) (items : List Item) → Kinded ch done (foreach done from items)
foreach_kinded ch done from items = on_known ch done from _ (λ k s at. step k s at (items_of s nothing items) (items_kinded s nothing items refl))
  where
    wide : (k : ℕ) (m : Made) (b : Bool) → node_over (input_kinds ch) (overs done) (node.Foreach k m.exprs) ≡ Some (Row (kinds m.columns)) → Kinded ch done (if_not fault.TooWide b (record { node = node.Foreach k m.exprs; scope = Rows m.columns }))
    wide k m true h = h
    wide k m false h = tt

    step : (k : ℕ) (s : Scope) → slice_get (overs done) k ≡ Some (over s) → (a : Answer Made) → MadeKinded (over s) a → Kinded ch done (first a (λ m. defined (node.Foreach k m.exprs) m.columns))
    step k s at (Ok m) h = wide k m (nat_le (length m.columns) 64) (ap (foreach_over m.exprs) at ∙ ap as_rows h)
    step k s at (Err c) h = tt
