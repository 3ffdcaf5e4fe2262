-- Items of which one too many is kept are all items, or both are too wide.
use Rattle.std.specs.Prelude.{◌≡◌, ◌⊎◌, ◌<◌, ℕ, suc, Bool, true, false, nat_le, if◌then◌else◌, List, [], ◌∷◌, length, Option, Some, None, Ok, Err, refl}
use Rattle.std.proofs.Common.{ap, sym, ◌∙◌, inl, inr, subst, arith, length-append}
use Rattle.std.proofs.lemmas.Bool.Decides.{nat_tests}
use Rattle.nova_value.specs.declared.value.Kind.{Kind}
use Rattle.nova_pig_tree.specs.declared.statement.Item.{Item}
use Rattle.nova_pig_tree.specs.declared.statement.Item.TheVariants as item
use Rattle.nova_pig_tree.specs.declared.expression.Expr.{Expr}
use Rattle.nova_pig_algebra.specs.declared.node.Node.{Node}
use Rattle.nova_pig_algebra.specs.declared.node.Node.TheVariants as node
use Rattle.nova_pig_algebra.specs.declared.node.PlanExpr.{PlanExpr}
use Rattle.nova_pig_algebra.specs.declared.node.PlanExpr.TheVariants as p
use Rattle.nova_pig_plan.specs.declared.fault.Cause.TheVariants as fault
use Rattle.nova_pig_plan.specs.declared.scope.ScopeColumn.{ScopeColumn}
use Rattle.nova_pig_plan.specs.declared.scope.Scope.{Scope}
use Rattle.nova_pig_plan.specs.declared.scope.Scope.TheVariants.{Rows, Group}
use Rattle.nova_pig_plan.specs.declared.scope.Made.{Made}
use Rattle.nova_pig_plan.specs.declared.scope.Defined.{Defined}
use Rattle.nova_pig_plan.specs.declared.scope.Typed.{Typed}
use Rattle.nova_pig_plan.specs.Answers.{Answer, first, if_not}
use Rattle.nova_pig_plan.specs.Exprs.{group_name, expr_of}
use Rattle.nova_pig_plan.specs.Items as all
use Rattle.nova_pig_plan.specs.Kept as kept
use Rattle.nova_pig_plan.specs.Plans.{Aliases, known, defined, foreach}

-- more columns than an alias may have
abbrev IsWide : Made → Type 0
IsWide m = 64 < length m.columns

-- all items, and those that are kept
abbrev Same : Made → Made → Type 0
Same m k = (m ≡ k) ⊎ (IsWide m × IsWide k)

wide_test : (m : Made) → kept.is_wide m ≡ true → IsWide m
wide_test m e = grind (arith, nat_tests, e)

wider : (m : Made) (e : PlanExpr) (c : ScopeColumn) → IsWide m → IsWide (all.with_item m e c)
wider m e c h = let n = length-append m.columns (c ∷ []) in omega (arith, h, n)

with_same : (m k : Made) → Same m k → (e : PlanExpr) (c : ScopeColumn) → Same (all.with_item m e c) (kept.with_item k e c)
with_same m k (inl same) e c = go (kept.is_wide k) refl
  where
    go : (b : Bool) → kept.is_wide k ≡ b → Same (all.with_item m e c) (if b then k else all.with_item k e c)
    go true t = inr (wider m e c (subst IsWide (sym same) (wide_test k t)), wide_test k t)
    go false t = inl (ap (λ z. all.with_item z e c) same)
with_same m k (inr w) e c = go (kept.is_wide k)
  where
    go : (b : Bool) → Same (all.with_item m e c) (if b then k else all.with_item k e c)
    go true = inr (wider m e c w.0, w.1)
    go false = inr (wider m e c w.0, wider k e c w.1)

all_wider : (n : ℕ) (m : Made) (cs : List ScopeColumn) → IsWide m → IsWide (all.with_all n m cs)
all_wider n m [] h = h
all_wider n m (c ∷ cs) h = all_wider (suc n) (all.with_item m (p.Column n) c) cs (wider m (p.Column n) c h)

flat_wider : (n : ℕ) (m : Made) (cs : List ScopeColumn) → IsWide m → IsWide (all.with_flat n m cs)
flat_wider n m [] h = h
flat_wider n m (c ∷ cs) h =
    let d = all.column_with c.kind c.name (Some group_name) in
    flat_wider (suc n) (all.with_item m (p.GroupColumn n) d) cs (wider m (p.GroupColumn n) d h)

-- where the kept ones are too wide, so are all
both_wide : (m k : Made) → Same m k → IsWide k → IsWide m
both_wide m k (inl same) h = subst IsWide (sym same) h
both_wide m k (inr w) h = w.0

all_same : (n : ℕ) (m k : Made) (cs : List ScopeColumn) → Same m k → Same (all.with_all n m cs) (kept.with_all n k cs)
all_same n m k [] s = s
all_same n m k (c ∷ cs) s = go (kept.is_wide k) refl (all_same (suc n) (all.with_item m (p.Column n) c) (kept.with_item k (p.Column n) c) cs (with_same m k s (p.Column n) c))
  where
    go : (b : Bool) → kept.is_wide k ≡ b → Same (all.with_all n m (c ∷ cs)) (kept.with_all (suc n) (kept.with_item k (p.Column n) c) cs)
        → Same (all.with_all n m (c ∷ cs)) (if b then k else kept.with_all (suc n) (kept.with_item k (p.Column n) c) cs)
    go true t rest = let w = wide_test k t in inr (all_wider n m (c ∷ cs) (both_wide m k s w), w)
    go false t rest = rest

flat_same : (n : ℕ) (m k : Made) (cs : List ScopeColumn) → Same m k → Same (all.with_flat n m cs) (kept.with_flat n k cs)
flat_same n m k [] s = s
flat_same n m k (c ∷ cs) s =
    let d = all.column_with c.kind c.name (Some group_name) in
    go (kept.is_wide k) refl (flat_same (suc n) (all.with_item m (p.GroupColumn n) d) (kept.with_item k (p.GroupColumn n) d) cs (with_same m k s (p.GroupColumn n) d))
  where
    go : (b : Bool) → kept.is_wide k ≡ b → Same (all.with_flat n m (c ∷ cs)) (kept.with_flat (suc n) (kept.with_item k (p.GroupColumn n) (all.column_with c.kind c.name (Some group_name))) cs)
        → Same (all.with_flat n m (c ∷ cs)) (if b then k else kept.with_flat (suc n) (kept.with_item k (p.GroupColumn n) (all.column_with c.kind c.name (Some group_name))) cs)
    go true t rest = let w = wide_test k t in inr (flat_wider n m (c ∷ cs) (both_wide m k s w), w)
    go false t rest = rest

flattened_same : (m k : Made) (by : List ScopeColumn) → Same m k → Same (all.flattened m by) (kept.flattened k by)
flattened_same m k [] s = s
flattened_same m k (c ∷ []) s = with_same m k s (p.GroupColumn 0) (all.column_with c.kind (Some group_name) None)
flattened_same m k (c ∷ d ∷ cs) s = flat_same 0 m k (c ∷ d ∷ cs) s

-- answers with one fault, or with such items
abbrev SameAnswer : Answer Made → Answer Made → Type 0
SameAnswer (Ok m) (Ok k) = Same m k
SameAnswer (Err c) (Err d) = c ≡ d
SameAnswer (Ok m) (Err d) = ⊥
SameAnswer (Err c) (Ok k) = ⊥

value_same : (s : Scope) (m k : Made) → Same m k → (x : Expr) (name : Option (List ℕ)) (kind : Option Kind) → SameAnswer (all.value_of s m x name kind) (kept.value_of s k x name kind)
value_same s m k h x name kind = go (expr_of s x)
  where
    named : (t : Typed) (a : Answer Kind) → SameAnswer (first a (λ j. Ok (all.with_item m t.expr (all.with_kind j (all.item_label s name x))))) (first a (λ j. Ok (kept.with_item k t.expr (all.with_kind j (all.item_label s name x)))))
    named t (Ok j) = with_same m k h t.expr (all.with_kind j (all.item_label s name x))
    named t (Err c) = refl

    go : (a : Answer Typed) → SameAnswer (first a (λ t. first (all.value_kind t.sort kind) (λ j. Ok (all.with_item m t.expr (all.with_kind j (all.item_label s name x))))))
        (first a (λ t. first (all.value_kind t.sort kind) (λ j. Ok (kept.with_item k t.expr (all.with_kind j (all.item_label s name x))))))
    go (Ok t) = named t (all.value_kind t.sort kind)
    go (Err c) = refl

item_same : (s : Scope) (m k : Made) → Same m k → (i : Item) → SameAnswer (all.item_of s m i) (kept.item_of s k i)
item_same (Rows cs) m k h item.All = all_same 0 m k cs h
item_same (Group bag by cs) m k h item.All = refl
item_same (Rows cs) m k h item.Flatten = refl
item_same (Group bag by cs) m k h item.Flatten = flattened_same m k by h
item_same (Rows cs) m k h (item.Value x name kind) = value_same (Rows cs) m k h x name kind
item_same (Group bag by cs) m k h (item.Value x name kind) = value_same (Group bag by cs) m k h x name kind

items_same : (s : Scope) (m k : Made) → Same m k → (is : List Item) → SameAnswer (all.items_of s m is) (kept.items_of s k is)
items_same s m k h [] = h
items_same s m k h (i ∷ is) = go (λ n l g. items_same s n l g is) (all.item_of s m i) (kept.item_of s k i) (item_same s m k h i)
  where
    go : ((n l : Made) → Same n l → SameAnswer (all.items_of s n is) (kept.items_of s l is)) → (a b : Answer Made) → SameAnswer a b
        → SameAnswer (first a (λ z. all.items_of s z is)) (first b (λ z. kept.items_of s z is))
    go rest (Ok n) (Ok l) g = rest n l g
    go rest (Err c) (Err d) g = g
    go rest (Ok n) (Err d) g = absurd g
    go rest (Err c) (Ok l) g = absurd g

too_wide : (n : Node) (m : Made) → IsWide m → defined n m.columns ≡ Err fault.TooWide
too_wide n m h = go (nat_le (length m.columns) 64) refl
  where
    go : (b : Bool) → nat_le (length m.columns) 64 ≡ b → if_not {A = Defined} fault.TooWide b (record { node = n; scope = Rows m.columns }) ≡ Err fault.TooWide
    go true e = absurd (grind (arith, nat_tests, e, h))
    go false e = refl

made_same : (from : ℕ) (m k : Made) → Same m k → defined (node.Foreach from m.exprs) m.columns ≡ defined (node.Foreach from k.exprs) k.columns
made_same from m k (inl same) = ap (λ z. defined (node.Foreach from z.exprs) z.columns) same
made_same from m k (inr w) = too_wide (node.Foreach from m.exprs) m w.0 ∙ sym (too_wide (node.Foreach from k.exprs) k w.1)

-- a FOREACH is defined alike by all items and by those that are kept
pub foreach_same : (done : Aliases) (from : List ℕ) (items : List Item) → foreach done from items ≡ kept.foreach done from items
foreach_same done from items = go (known done from)
  where
    made : (at : ℕ) (a b : Answer Made) → SameAnswer a b → first a (λ m. defined (node.Foreach at m.exprs) m.columns) ≡ first b (λ m. defined (node.Foreach at m.exprs) m.columns)
    made at (Ok m) (Ok k) h = made_same at m k h
    made at (Err c) (Err d) h = ap (λ z. Err z) h
    made at (Ok m) (Err d) h = absurd h
    made at (Err c) (Ok k) h = absurd h

    go : (a : Answer (ℕ × Scope)) → first a (λ k. first (all.items_of k.1 all.nothing items) (λ m. defined (node.Foreach k.0 m.exprs) m.columns))
        ≡ first a (λ k. first (kept.items_of k.1 all.nothing items) (λ m. defined (node.Foreach k.0 m.exprs) m.columns))
    go (Ok k) = made k.0 (all.items_of k.1 all.nothing items) (kept.items_of k.1 all.nothing items) (items_same k.1 all.nothing all.nothing (inl refl) items)
    go (Err c) = refl
