-- The equations of `sort_of`, and that an answered expression has the sort that the answer says.
use Rattle.std.proofs.Common.{◌≡◌, ◌<◌, ◌≤◌, ◌+◌, ℕ, zero, suc, ℤ, Bool, true, false, ◌&&◌, if◌then◌else◌, nat_lt, List, [], ◌∷◌, length, Option, Some, None, Ok, Err, slice_get, refl, ap, sym, ◌∙◌, subst, arith}
use Rattle.std.proofs.lemmas.Bool.Decides.{nat_tests}
use Rattle.nova_value.specs.declared.value.Kind.{Kind}
use Rattle.nova_value.specs.declared.value.Kind.TheVariants as kind
use Rattle.nova_pig_tree.specs.declared.expression.CallKind.{CallKind}
use Rattle.nova_pig_tree.specs.declared.expression.CallKind.TheVariants as call
use Rattle.nova_pig_tree.specs.declared.expression.CompareOp.{CompareOp}
use Rattle.nova_pig_tree.specs.declared.expression.Field.{Field}
use Rattle.nova_pig_tree.specs.declared.expression.Field.TheVariants as field
use Rattle.nova_pig_tree.specs.declared.expression.Expr.{Expr}
use Rattle.nova_pig_tree.specs.declared.expression.Expr.TheOpen.{Expr-F}
use Rattle.nova_pig_tree.specs.declared.expression.Expr.TheFolds.{fold-roll-Expr, ind-Expr, map-Expr}
use Rattle.nova_pig_tree.specs.declared.expression.Expr.TheViews.{roll-Expr}
use Rattle.nova_pig_algebra.specs.declared.node.PlanExpr.{PlanExpr}
use Rattle.nova_pig_algebra.specs.declared.node.PlanExpr.TheOpen.{PlanExpr-F}
use Rattle.nova_pig_algebra.specs.declared.node.PlanExpr.TheVariants as p
use Rattle.nova_pig_algebra.specs.declared.node.PlanExpr.TheFolds.{fold-roll-PlanExpr}
use Rattle.nova_pig_algebra.specs.declared.node.Sort.{Sort}
use Rattle.nova_pig_algebra.specs.declared.node.Sort.TheVariants.{Condition}
use Rattle.nova_pig_plan.specs.declared.fault.Cause.TheVariants as fault
use Rattle.nova_pig_plan.specs.declared.scope.ScopeColumn.{ScopeColumn}
use Rattle.nova_pig_plan.specs.declared.scope.Scope.{Scope}
use Rattle.nova_pig_plan.specs.declared.scope.Scope.TheVariants.{Rows, Group}
use Rattle.nova_pig_plan.specs.declared.scope.Typed.{Typed}
use Rattle.nova_pig_plan.specs.Answers.{Answer, first, both, if_not}
use Rattle.nova_pig_plan.specs.Columns.{places, the_one, field_of, kind_at, is_named, comes_from, same_text}
use Rattle.nova_pig_plan.specs.Exprs.{long, is_long, is_condition, are_alike, longs, conditions, alike, minus, negated, choice, expr_of, expr_step, ref_of, call_of, group_field, whole_group, group_name, group_place, column_place, call_field, column_call, bag_call}
use Rattle.nova_pig_plan.specs.Sorts.{Over, Row, Bag, over, kinds, of_kind, when, has, are, chosen, column_agg, long_sort, condition_sort, sort_of, sort_step, Sorted}

pub sort-Num : (o : Over) (n : ℤ) → sort_of o (p.Num n) ≡ sort_step o (PlanExpr-F.Num n)
unfolding sort_of
sort-Num o n = ap (sort_of o) (sym (p.rolls-Num n)) ∙ fold-roll-PlanExpr (Option Sort) (sort_step o) (PlanExpr-F.Num n)

pub sort-Lit : (o : Over) (t : List ℕ) → sort_of o (p.Lit t) ≡ sort_step o (PlanExpr-F.Lit t)
unfolding sort_of
sort-Lit o t = ap (sort_of o) (sym (p.rolls-Lit t)) ∙ fold-roll-PlanExpr (Option Sort) (sort_step o) (PlanExpr-F.Lit t)

pub sort-Column : (o : Over) (k : ℕ) → sort_of o (p.Column k) ≡ sort_step o (PlanExpr-F.Column k)
unfolding sort_of
sort-Column o k = ap (sort_of o) (sym (p.rolls-Column k)) ∙ fold-roll-PlanExpr (Option Sort) (sort_step o) (PlanExpr-F.Column k)

pub sort-GroupColumn : (o : Over) (k : ℕ) → sort_of o (p.GroupColumn k) ≡ sort_step o (PlanExpr-F.GroupColumn k)
unfolding sort_of
sort-GroupColumn o k = ap (sort_of o) (sym (p.rolls-GroupColumn k)) ∙ fold-roll-PlanExpr (Option Sort) (sort_step o) (PlanExpr-F.GroupColumn k)

pub sort-Agg : (o : Over) (c : CallKind) (k : Option ℕ) → sort_of o (p.Agg c k) ≡ sort_step o (PlanExpr-F.Agg c k)
unfolding sort_of
sort-Agg o c k = ap (sort_of o) (sym (p.rolls-Agg c k)) ∙ fold-roll-PlanExpr (Option Sort) (sort_step o) (PlanExpr-F.Agg c k)

pub sort-Neg : (o : Over) (a : PlanExpr) → sort_of o (p.Neg a) ≡ sort_step o (PlanExpr-F.Neg (sort_of o a))
unfolding sort_of
sort-Neg o a = ap (sort_of o) (sym (p.rolls-Neg a)) ∙ fold-roll-PlanExpr (Option Sort) (sort_step o) (PlanExpr-F.Neg a)

pub sort-Not : (o : Over) (a : PlanExpr) → sort_of o (p.Not a) ≡ sort_step o (PlanExpr-F.Not (sort_of o a))
unfolding sort_of
sort-Not o a = ap (sort_of o) (sym (p.rolls-Not a)) ∙ fold-roll-PlanExpr (Option Sort) (sort_step o) (PlanExpr-F.Not a)

pub sort-Add : (o : Over) (a b : PlanExpr) → sort_of o (p.Add a b) ≡ sort_step o (PlanExpr-F.Add (sort_of o a) (sort_of o b))
unfolding sort_of
sort-Add o a b = ap (sort_of o) (sym (p.rolls-Add a b)) ∙ fold-roll-PlanExpr (Option Sort) (sort_step o) (PlanExpr-F.Add a b)

pub sort-Sub : (o : Over) (a b : PlanExpr) → sort_of o (p.Sub a b) ≡ sort_step o (PlanExpr-F.Sub (sort_of o a) (sort_of o b))
unfolding sort_of
sort-Sub o a b = ap (sort_of o) (sym (p.rolls-Sub a b)) ∙ fold-roll-PlanExpr (Option Sort) (sort_step o) (PlanExpr-F.Sub a b)

pub sort-Mul : (o : Over) (a b : PlanExpr) → sort_of o (p.Mul a b) ≡ sort_step o (PlanExpr-F.Mul (sort_of o a) (sort_of o b))
unfolding sort_of
sort-Mul o a b = ap (sort_of o) (sym (p.rolls-Mul a b)) ∙ fold-roll-PlanExpr (Option Sort) (sort_step o) (PlanExpr-F.Mul a b)

pub sort-And : (o : Over) (a b : PlanExpr) → sort_of o (p.And a b) ≡ sort_step o (PlanExpr-F.And (sort_of o a) (sort_of o b))
unfolding sort_of
sort-And o a b = ap (sort_of o) (sym (p.rolls-And a b)) ∙ fold-roll-PlanExpr (Option Sort) (sort_step o) (PlanExpr-F.And a b)

pub sort-Or : (o : Over) (a b : PlanExpr) → sort_of o (p.Or a b) ≡ sort_step o (PlanExpr-F.Or (sort_of o a) (sort_of o b))
unfolding sort_of
sort-Or o a b = ap (sort_of o) (sym (p.rolls-Or a b)) ∙ fold-roll-PlanExpr (Option Sort) (sort_step o) (PlanExpr-F.Or a b)

pub sort-Compare : (o : Over) (op : CompareOp) (a b : PlanExpr) → sort_of o (p.Compare op a b) ≡ sort_step o (PlanExpr-F.Compare op (sort_of o a) (sort_of o b))
unfolding sort_of
sort-Compare o op a b = ap (sort_of o) (sym (p.rolls-Compare op a b)) ∙ fold-roll-PlanExpr (Option Sort) (sort_step o) (PlanExpr-F.Compare op a b)

pub sort-If : (o : Over) (c a b : PlanExpr) → sort_of o (p.If c a b) ≡ sort_step o (PlanExpr-F.If (sort_of o c) (sort_of o a) (sort_of o b))
unfolding sort_of
sort-If o c a b = ap (sort_of o) (sym (p.rolls-If c a b)) ∙ fold-roll-PlanExpr (Option Sort) (sort_step o) (PlanExpr-F.If c a b)

only : (n k : ℕ) (r : List ℕ) → the_one (n ∷ r) ≡ Ok k → n ≡ k
only n k [] e = cc
only n k (j ∷ r) e = absurd cc

-- a place that is answered is within the columns
within : (fits : ScopeColumn → Bool) (n : ℕ) (cs : List ScopeColumn) (k : ℕ) → the_one (places fits n cs) ≡ Ok k → (n ≤ k) × (k < n + length cs)
within fits n [] k e = absurd cc
within fits n (c ∷ cs) k e = step (fits c) e (within fits (suc n) cs k)
  where
    step : (b : Bool) → the_one (if b then n ∷ places fits (suc n) cs else places fits (suc n) cs) ≡ Ok k
        → (the_one (places fits (suc n) cs) ≡ Ok k → (suc n ≤ k) × (k < suc n + length cs)) → (n ≤ k) × (k < n + suc (length cs))
    step true e rest = let is : n ≡ k = only n k (places fits (suc n) cs) e in (omega (arith, is), omega (arith, is))
    step false e rest = let r = rest e in (omega (arith, r.0), omega (arith, r.1))

kind_got : (cs : List ScopeColumn) (k : ℕ) → k < length cs → slice_get (kinds cs) k ≡ Some (kind_at cs k)
kind_got [] k lt = absurd (omega arith)
kind_got (c ∷ cs) zero lt = refl
kind_got (c ∷ cs) (suc k) lt = kind_got cs k (omega arith)

module _ (o : Over) where
  abbrev Has : Typed → Type 0
  Has x = sort_of o x.expr ≡ Some x.sort

  checked : (b : Bool) (t : Typed) → (b ≡ true → Has t) → Sorted o (if_not fault.WrongType b t)
  checked true t h = h refl
  checked false t h = tt

  firstly : (a : Answer Typed) (next : Typed → Answer Typed) → Sorted o a → ((x : Typed) → Has x → Sorted o (next x)) → Sorted o (first a next)
  firstly (Ok x) next h go = go x h
  firstly (Err c) next h go = tt

  in_turn : (a b : Answer Typed) (next : Typed → Typed → Answer Typed) → Sorted o a → Sorted o b → ((x y : Typed) → Has x → Has y → Sorted o (next x y)) → Sorted o (both a b next)
  in_turn (Ok x) (Ok y) next h k go = go x y h k
  in_turn (Ok x) (Err c) next h k go = tt
  in_turn (Err c) b next h k go = tt

  longs_sorted : (op : PlanExpr → PlanExpr → PlanExpr) → ((a b : PlanExpr) → sort_of o (op a b) ≡ long_sort (sort_of o a) (sort_of o b)) → (x y : Typed) → Has x → Has y → Sorted o (longs op x y)
  longs_sorted op eq x y h k = checked (is_long x.sort && is_long y.sort) _ (λ e. eq x.expr y.expr ∙ (λ i. long_sort (h i) (k i)) ∙ ap (λ b. when b long) e)

  conditions_sorted : (op : PlanExpr → PlanExpr → PlanExpr) → ((a b : PlanExpr) → sort_of o (op a b) ≡ condition_sort (sort_of o a) (sort_of o b)) → (x y : Typed) → Has x → Has y → Sorted o (conditions op x y)
  conditions_sorted op eq x y h k = checked (is_condition x.sort && is_condition y.sort) _ (λ e. eq x.expr y.expr ∙ (λ i. condition_sort (h i) (k i)) ∙ ap (λ b. when b Condition) e)

  alike_sorted : (op : CompareOp) (x y : Typed) → Has x → Has y → Sorted o (alike (p.Compare op) x y)
  alike_sorted op x y h k = checked (are_alike x.sort y.sort) _ (λ e. sort-Compare o op x.expr y.expr ∙ (λ i. when (are are_alike (h i) (k i)) Condition) ∙ ap (λ b. when b Condition) e)

  minus_sorted : (x : Typed) → Has x → Sorted o (minus x)
  minus_sorted x h = checked (is_long x.sort) _ (λ e. sort-Neg o x.expr ∙ (λ i. when (has is_long (h i)) long) ∙ ap (λ b. when b long) e)

  negated_sorted : (x : Typed) → Has x → Sorted o (negated x)
  negated_sorted x h = checked (is_condition x.sort) _ (λ e. sort-Not o x.expr ∙ (λ i. when (has is_condition (h i)) Condition) ∙ ap (λ b. when b Condition) e)

  choice_sorted : (c x y : Typed) → Has c → Has x → Has y → Sorted o (choice c x y)
  choice_sorted c x y g h k = checked (is_condition c.sort && are_alike x.sort y.sort) _ (λ e. sort-If o c.expr x.expr y.expr ∙ (λ i. chosen (has is_condition (g i) && are are_alike (h i) (k i)) (h i)) ∙ ap (λ b. chosen b (Some x.sort)) e)

pub field_within : (cs : List ScopeColumn) (f : Field) (k : ℕ) → field_of cs f ≡ Ok k → k < length cs
field_within cs (field.Plain name) k e = let r = within (is_named name) 0 cs k e in omega (arith, r.1)
field_within cs (field.Of alias name) k e = let r = within (comes_from alias name) 0 cs k e in omega (arith, r.1)
field_within cs (field.GroupOf name) k e = absurd cc
field_within cs (field.At n) k e = step (nat_lt n (length cs)) refl e
  where
    step : (b : Bool) → nat_lt n (length cs) ≡ b → if_not fault.UnknownField b n ≡ Ok k → k < length cs
    step true is h = let same : n ≡ k = cc in grind (arith, nat_tests, is, same)
    step false is h = absurd cc

column_sorted : (cs : List ScopeColumn) (f : Field) → Sorted (Row (kinds cs)) (first (field_of cs f) (λ k. Ok (column_place cs k)))
column_sorted cs f = step (field_of cs f) refl
  where
    step : (a : Answer ℕ) → field_of cs f ≡ a → Sorted (Row (kinds cs)) (first a (λ k. Ok (column_place cs k)))
    step (Ok k) e = sort-Column (Row (kinds cs)) k ∙ ap of_kind (kind_got cs k (field_within cs f k e))
    step (Err c) e = tt

whole_sorted : (by : List ScopeColumn) (ks : List Kind) → Sorted (Bag (kinds by) ks) (whole_group by)
whole_sorted [] ks = tt
whole_sorted (c ∷ []) ks = sort-GroupColumn (Bag (kinds (c ∷ [])) ks) 0
whole_sorted (c ∷ d ∷ by) ks = tt

group_sorted : (bag : List ℕ) (by : List ScopeColumn) (ks : List Kind) (f : Field) → Sorted (Bag (kinds by) ks) (group_field bag by f)
group_sorted bag by ks (field.Plain name) = step (same_text name group_name) (same_text name bag)
  where
    step : (a b : Bool) → Sorted (Bag (kinds by) ks) (if a then whole_group by else if b then Err fault.BagMisused else Err fault.UnknownField)
    step true b = whole_sorted by ks
    step false true = tt
    step false false = tt
group_sorted bag by ks (field.Of alias name) = tt
group_sorted bag by ks (field.GroupOf name) = step (the_one (places (is_named name) 0 by)) refl
  where
    step : (a : Answer ℕ) → the_one (places (is_named name) 0 by) ≡ a → Sorted (Bag (kinds by) ks) (first a (λ k. Ok (group_place by k)))
    step (Ok k) e = let r = within (is_named name) 0 by k e in sort-GroupColumn (Bag (kinds by) ks) k ∙ ap of_kind (kind_got by k (omega (arith, r.1)))
    step (Err c) e = tt
group_sorted bag by ks (field.At zero) = whole_sorted by ks
group_sorted bag by ks (field.At (suc zero)) = tt
group_sorted bag by ks (field.At (suc (suc n))) = tt

ref_sorted : (s : Scope) (f : Field) → Sorted (over s) (ref_of s f)
ref_sorted (Rows cs) f = column_sorted cs f
ref_sorted (Group bag by cs) f = group_sorted bag by (kinds cs) f

bag_sorted : (by ks : List Kind) (c : CallKind) → Sorted (Bag by ks) (bag_call c)
bag_sorted by ks call.Count = sort-Agg (Bag by ks) call.Count None
bag_sorted by ks call.Sum = tt
bag_sorted by ks call.Min = tt
bag_sorted by ks call.Max = tt

agg_sorted : (by ks : List Kind) (c : CallKind) (j : Kind) (k : ℕ) → slice_get ks k ≡ Some j → Sorted (Bag by ks) (column_call c j k)
agg_sorted by ks call.Count j k e = sort-Agg (Bag by ks) call.Count (Some k) ∙ ap (column_agg call.Count) e
agg_sorted by ks call.Sum kind.Long k e = sort-Agg (Bag by ks) call.Sum (Some k) ∙ ap (column_agg call.Sum) e
agg_sorted by ks call.Sum kind.Text k e = tt
agg_sorted by ks call.Min j k e = sort-Agg (Bag by ks) call.Min (Some k) ∙ ap (column_agg call.Min) e
agg_sorted by ks call.Max j k e = sort-Agg (Bag by ks) call.Max (Some k) ∙ ap (column_agg call.Max) e

field_sorted : (by : List Kind) (cs : List ScopeColumn) (c : CallKind) (f : Option Field) → Sorted (Bag by (kinds cs)) (call_field cs c f)
field_sorted by cs c None = bag_sorted by (kinds cs) c
field_sorted by cs c (Some f) = step (field_of cs f) refl
  where
    step : (a : Answer ℕ) → field_of cs f ≡ a → Sorted (Bag by (kinds cs)) (first a (λ k. column_call c (kind_at cs k) k))
    step (Ok k) e = agg_sorted by (kinds cs) c (kind_at cs k) k (kind_got cs k (field_within cs f k e))
    step (Err x) e = tt

call_sorted : (s : Scope) (c : CallKind) (alias : List ℕ) (f : Option Field) → Sorted (over s) (call_of s c alias f)
call_sorted (Rows cs) c alias f = tt
call_sorted (Group bag by cs) c alias f = step (same_text alias bag)
  where
    step : (b : Bool) → Sorted (Bag (kinds by) (kinds cs)) (if b then call_field cs c f else Err fault.BagMisused)
    step true = field_sorted (kinds by) cs c f
    step false = tt

module _ (s : Scope) where
  layer : {E : Type 0} (un : E → Expr) → ((e : E) → Sorted (over s) (expr_of s (un e))) → (y : Expr-F E) → Sorted (over s) (expr_of s (roll-Expr (map-Expr E Expr un y)))
  unfolding expr_of
  layer un ok y = subst (Sorted (over s)) (sym (fold-roll-Expr (Answer Typed) (expr_step s) (map-Expr _ Expr un y))) (go un ok y)
    where
      go : {E : Type 0} (un : E → Expr) → ((e : E) → Sorted (over s) (expr_of s (un e))) → (y : Expr-F E) → Sorted (over s) (expr_step s (map-Expr Expr (Answer Typed) (expr_of s) (map-Expr E Expr un y)))
      go un ok (Expr-F.Num n) = sort-Num (over s) n
      go un ok (Expr-F.Lit t) = sort-Lit (over s) t
      go un ok (Expr-F.Ref f) = ref_sorted s f
      go un ok (Expr-F.Call c alias f) = call_sorted s c alias f
      go un ok (Expr-F.Neg a) = firstly (over s) (expr_of s (un a)) minus (ok a) (minus_sorted (over s))
      go un ok (Expr-F.Add a b) = in_turn (over s) (expr_of s (un a)) (expr_of s (un b)) (longs p.Add) (ok a) (ok b) (longs_sorted (over s) p.Add (sort-Add (over s)))
      go un ok (Expr-F.Sub a b) = in_turn (over s) (expr_of s (un a)) (expr_of s (un b)) (longs p.Sub) (ok a) (ok b) (longs_sorted (over s) p.Sub (sort-Sub (over s)))
      go un ok (Expr-F.Mul a b) = in_turn (over s) (expr_of s (un a)) (expr_of s (un b)) (longs p.Mul) (ok a) (ok b) (longs_sorted (over s) p.Mul (sort-Mul (over s)))
      go un ok (Expr-F.Compare op a b) = in_turn (over s) (expr_of s (un a)) (expr_of s (un b)) (alike (p.Compare op)) (ok a) (ok b) (alike_sorted (over s) op)
      go un ok (Expr-F.And a b) = in_turn (over s) (expr_of s (un a)) (expr_of s (un b)) (conditions p.And) (ok a) (ok b) (conditions_sorted (over s) p.And (sort-And (over s)))
      go un ok (Expr-F.Or a b) = in_turn (over s) (expr_of s (un a)) (expr_of s (un b)) (conditions p.Or) (ok a) (ok b) (conditions_sorted (over s) p.Or (sort-Or (over s)))
      go un ok (Expr-F.Not a) = firstly (over s) (expr_of s (un a)) negated (ok a) (negated_sorted (over s))
      go un ok (Expr-F.If c a b) = firstly (over s) (expr_of s (un c)) (λ z. both (expr_of s (un a)) (expr_of s (un b)) (choice z)) (ok c)
          (λ z h. in_turn (over s) (expr_of s (un a)) (expr_of s (un b)) (choice z) (ok a) (ok b) (λ x y. choice_sorted (over s) z x y h))

  -- an answered expression has the sort that the answer says
  pub expr_sorted : (x : Expr) → Sorted (over s) (expr_of s x)
  expr_sorted x = ind-Expr (λ e. Sorted (over s) (expr_of s e)) (λ l y is. subst (λ z. Sorted (over s) (expr_of s (roll-Expr z))) is (layer (λ e. e.0) (λ e. e.1) y)) x
