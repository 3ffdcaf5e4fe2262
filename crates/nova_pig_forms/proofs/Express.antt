-- What is answered of an expression and of an item is what the relations say.
use Rattle.std.proofs.Common.{◌≡◌, ◌≢◌, ℕ, Bool, true, false, ◌&&◌, List, Option, Ok, Err, refl, ap, sym, ◌∙◌, subst}
use Rattle.nova_value.specs.declared.value.Kind.{Kind}
use Rattle.nova_value.specs.declared.value.Kind.TheVariants as kind
use Rattle.nova_pig_tree.specs.declared.expression.CallKind.{CallKind}
use Rattle.nova_pig_tree.specs.declared.expression.Field.{Field}
use Rattle.nova_pig_tree.specs.declared.expression.Expr.{Expr}
use Rattle.nova_pig_tree.specs.declared.expression.Expr.TheVariants as e
use Rattle.nova_pig_tree.specs.declared.expression.Expr.TheOpen.{Expr-F}
use Rattle.nova_pig_tree.specs.declared.expression.Expr.TheFolds.{ind-Expr, map-Expr}
use Rattle.nova_pig_tree.specs.declared.expression.Expr.TheViews.{roll-Expr}
use Rattle.nova_pig_algebra.specs.declared.node.PlanExpr.{PlanExpr}
use Rattle.nova_pig_algebra.specs.declared.node.PlanExpr.TheVariants as p
use Rattle.nova_pig_algebra.specs.declared.node.Sort.{Sort}
use Rattle.nova_pig_algebra.specs.declared.node.Sort.TheVariants.{Of, Condition}
use Rattle.nova_pig_plan.specs.declared.fault.Cause.{Cause}
use Rattle.nova_pig_plan.specs.declared.fault.Cause.TheVariants as fault
use Rattle.nova_pig_plan.specs.declared.scope.Scope.{Scope}
use Rattle.nova_pig_plan.specs.declared.scope.Typed.{Typed}
use Rattle.nova_pig_plan.specs.Answers.{Answer, first, both, if_not}
use Rattle.nova_pig_plan.specs.Exprs.{long, is_long, is_condition, are_alike, typed, minus, negated, choice, ref_of, call_of, expr_of}
use Rattle.nova_pig_forms.specs.Resolves.{Operator, Add, Sub, Mul, Compare, And, Or, tree, planned, Takes, Resolves, ExprFails}
use Rattle.nova_pig_forms.specs.Resolves as r
use Rattle.nova_pig_forms.proofs.Refer.{Referred, ref_found, ref_read, ref_failed, Called, call_found, call_read, call_failed}
use Rattle.nova_pig_plan.proofs.Laws as laws

-- the test of an operator, and what it gives
abbrev test : Operator → Sort → Sort → Bool
test Add i j = is_long i && is_long j
test Sub i j = is_long i && is_long j
test Mul i j = is_long i && is_long j
test (Compare op) i j = are_alike i j
test And i j = is_condition i && is_condition j
test Or i j = is_condition i && is_condition j

abbrev gives : Operator → Sort
gives Add = long
gives Sub = long
gives Mul = long
gives (Compare op) = Condition
gives And = Condition
gives Or = Condition

abbrev operated : Operator → Typed → Typed → Answer Typed
operated op x y = if_not fault.WrongType (test op x.sort y.sort) (typed (planned op x.expr y.expr) (gives op))

takes_tested : {op : Operator} {i j k : Sort} → Takes op i j k → (test op i j ≡ true) × (k ≡ gives op)
takes_tested r.sum = (refl, refl)
takes_tested r.difference = (refl, refl)
takes_tested r.product = (refl, refl)
takes_tested r.longs = (refl, refl)
takes_tested r.texts = (refl, refl)
takes_tested r.conjunction = (refl, refl)
takes_tested r.disjunction = (refl, refl)

tested_takes : (op : Operator) (i j : Sort) → test op i j ≡ true → Takes op i j (gives op)
tested_takes Add (Of kind.Long) (Of kind.Long) h = r.sum
tested_takes Sub (Of kind.Long) (Of kind.Long) h = r.difference
tested_takes Mul (Of kind.Long) (Of kind.Long) h = r.product
tested_takes (Compare op) (Of kind.Long) (Of kind.Long) h = r.longs
tested_takes (Compare op) (Of kind.Text) (Of kind.Text) h = r.texts
tested_takes And Condition Condition h = r.conjunction
tested_takes Or Condition Condition h = r.disjunction
tested_takes op i j h = absurd cc

is_long_sort : (i : Sort) → is_long i ≡ true → i ≡ long
is_long_sort (Of kind.Long) h = refl
is_long_sort (Of kind.Text) h = absurd cc
is_long_sort Condition h = absurd cc

pub is_condition_sort : (i : Sort) → is_condition i ≡ true → i ≡ Condition
is_condition_sort (Of k) h = absurd cc
is_condition_sort Condition h = refl

no_long : (i : Sort) → is_long i ≡ false → i ≢ long
no_long i h is = let e = ap is_long is in absurd cc

pub no_condition : (i : Sort) → is_condition i ≡ false → i ≢ Condition
no_condition i h is = let e = ap is_condition is in absurd cc

other_long : (i : Sort) → i ≢ long → is_long i ≡ false
other_long (Of kind.Long) h = absurd (h refl)
other_long (Of kind.Text) h = refl
other_long Condition h = refl

pub other_condition : (i : Sort) → i ≢ Condition → is_condition i ≡ false
other_condition (Of k) h = refl
other_condition Condition h = absurd (h refl)

alike_kind : (k : Kind) → are_alike (Of k) (Of k) ≡ true
alike_kind kind.Long = refl
alike_kind kind.Text = refl

chosen_kind : (i j : Sort) → are_alike i j ≡ true → (k : Kind) × (i ≡ Of k) × (j ≡ Of k)
chosen_kind (Of kind.Long) (Of kind.Long) h = (kind.Long, refl, refl)
chosen_kind (Of kind.Text) (Of kind.Text) h = (kind.Text, refl, refl)
chosen_kind i j h = absurd cc

sides : (a b : Bool) → (a && b) ≡ true → (a ≡ true) × (b ≡ true)
sides true b h = (refl, h)
sides false b h = absurd cc

expr_tree : (s : Scope) (op : Operator) (a b : Expr) → expr_of s (tree op a b) ≡ both (expr_of s a) (expr_of s b) (operated op)
expr_tree s Add a b = laws.expr-Add s a b
expr_tree s Sub a b = laws.expr-Sub s a b
expr_tree s Mul a b = laws.expr-Mul s a b
expr_tree s (Compare op) a b = laws.expr-Compare s op a b
expr_tree s And a b = laws.expr-And s a b
expr_tree s Or a b = laws.expr-Or s a b

module _ (s : Scope) where
  -- what is answered of an expression
  abbrev pub Answered : Expr → Answer Typed → Type 0
  Answered x (Ok t) = Resolves s x t.expr t.sort
  Answered x (Err cause) = ExprFails s x cause

  abbrev Good : Expr → Type 0
  Good x = Answered x (expr_of s x)

  referred : (f : Field) (a : Answer Typed) → Referred s f a → Answered (e.Ref f) a
  referred f (Ok t) h = subst (λ i. Resolves s (e.Ref f) t.expr i) (sym h.2) (r.reference h.1)
  referred f (Err cause) h = r.reference h

  called : (k : CallKind) (alias : List ℕ) (f : Option Field) (a : Answer Typed) → Called s k alias f a → Answered (e.Call k alias f) a
  called k alias f (Ok t) h = r.called h
  called k alias f (Err cause) h = r.called h

  minus_good : (a : Expr) (x : Answer Typed) → Answered a x → Answered (e.Neg a) (first x minus)
  minus_good a (Err cause) h = r.in_minus h
  minus_good a (Ok t) h = step (is_long t.sort) refl
    where
      step : (b : Bool) → is_long t.sort ≡ b → Answered (e.Neg a) (if_not fault.WrongType b (typed (p.Neg t.expr) long))
      step true is = r.minus (subst (λ i. Resolves s a t.expr i) (is_long_sort t.sort is) h)
      step false is = r.minus h (no_long t.sort is)

  negated_good : (a : Expr) (x : Answer Typed) → Answered a x → Answered (e.Not a) (first x negated)
  negated_good a (Err cause) h = r.in_negation h
  negated_good a (Ok t) h = step (is_condition t.sort) refl
    where
      step : (b : Bool) → is_condition t.sort ≡ b → Answered (e.Not a) (if_not fault.WrongType b (typed (p.Not t.expr) Condition))
      step true is = r.negation (subst (λ i. Resolves s a t.expr i) (is_condition_sort t.sort is) h)
      step false is = r.negation h (no_condition t.sort is)

  operated_good : (op : Operator) (a b : Expr) (x y : Answer Typed) → Answered a x → Answered b y → Answered (tree op a b) (both x y (operated op))
  operated_good op a b (Err cause) y h k = r.on_left op b h
  operated_good op a b (Ok t) (Err cause) h k = r.on_right op h k
  operated_good op a b (Ok t) (Ok u) h k = step (test op t.sort u.sort) refl
    where
      step : (c : Bool) → test op t.sort u.sort ≡ c → Answered (tree op a b) (if_not fault.WrongType c (typed (planned op t.expr u.expr) (gives op)))
      step true is = r.operation op h k (tested_takes op t.sort u.sort is)
      step false is = r.operation op h k (λ i taken. let is_true = (takes_tested taken).0 in absurd cc)

  choice_good : (c a b : Expr) (z x y : Answer Typed) → Answered c z → Answered a x → Answered b y → Answered (e.If c a b) (first z (λ t. both x y (choice t)))
  choice_good c a b (Err cause) x y g h k = r.in_front a b g
  choice_good c a b (Ok v) (Err cause) y g h k = r.in_first b g h
  choice_good c a b (Ok v) (Ok t) (Err cause) g h k = r.in_second g h k
  choice_good c a b (Ok v) (Ok t) (Ok u) g h k = step (is_condition v.sort && are_alike t.sort u.sort) refl
    where
      step : (d : Bool) → (is_condition v.sort && are_alike t.sort u.sort) ≡ d → Answered (e.If c a b) (if_not fault.WrongType d (typed (p.If v.expr t.expr u.expr) t.sort))
      step true is =
          let q = sides (is_condition v.sort) (are_alike t.sort u.sort) is in
          let m = chosen_kind t.sort u.sort q.1 in
          subst (λ i. Resolves s (e.If c a b) (p.If v.expr t.expr u.expr) i) (sym m.1)
          (r.choice (subst (λ i. Resolves s c v.expr i) (is_condition_sort v.sort q.0) g) (subst (λ i. Resolves s a t.expr i) m.1 h) (subst (λ i. Resolves s b u.expr i) m.2 k))
      step false is = r.choice g h k (λ j front one two.
          let f = ap is_condition front in
          let l : are_alike t.sort u.sort ≡ true = ap (λ i. are_alike i u.sort) one ∙ ap (λ i. are_alike (Of j) i) two ∙ alike_kind j in
          let w : (is_condition v.sort && are_alike t.sort u.sort) ≡ true = ap (λ b. b && are_alike t.sort u.sort) f ∙ l in
          absurd cc)

  operation_good : (op : Operator) (a b : Expr) → Good a → Good b → Good (tree op a b)
  operation_good op a b h k = subst (Answered (tree op a b)) (sym (expr_tree s op a b)) (operated_good op a b (expr_of s a) (expr_of s b) h k)

  layer : {E : Type 0} (un : E → Expr) → ((x : E) → Good (un x)) → (y : Expr-F E) → Good (roll-Expr (map-Expr E Expr un y))
  layer un ok (Expr-F.Num n) = subst Good (sym (e.rolls-Num n)) (subst (Answered (e.Num n)) (sym (laws.expr-Num s n)) r.number)
  layer un ok (Expr-F.Lit t) = subst Good (sym (e.rolls-Lit t)) (subst (Answered (e.Lit t)) (sym (laws.expr-Lit s t)) r.literal)
  layer un ok (Expr-F.Ref f) = subst Good (sym (e.rolls-Ref f)) (subst (Answered (e.Ref f)) (sym (laws.expr-Ref s f)) (referred f (ref_of s f) (ref_found s f)))
  layer un ok (Expr-F.Call k alias f) = subst Good (sym (e.rolls-Call k alias f)) (subst (Answered (e.Call k alias f)) (sym (laws.expr-Call s k alias f)) (called k alias f (call_of s k alias f) (call_found s k alias f)))
  layer un ok (Expr-F.Neg a) = subst Good (sym (e.rolls-Neg (un a))) (subst (Answered (e.Neg (un a))) (sym (laws.expr-Neg s (un a))) (minus_good (un a) (expr_of s (un a)) (ok a)))
  layer un ok (Expr-F.Not a) = subst Good (sym (e.rolls-Not (un a))) (subst (Answered (e.Not (un a))) (sym (laws.expr-Not s (un a))) (negated_good (un a) (expr_of s (un a)) (ok a)))
  layer un ok (Expr-F.Add a b) = subst Good (sym (e.rolls-Add (un a) (un b))) (operation_good Add (un a) (un b) (ok a) (ok b))
  layer un ok (Expr-F.Sub a b) = subst Good (sym (e.rolls-Sub (un a) (un b))) (operation_good Sub (un a) (un b) (ok a) (ok b))
  layer un ok (Expr-F.Mul a b) = subst Good (sym (e.rolls-Mul (un a) (un b))) (operation_good Mul (un a) (un b) (ok a) (ok b))
  layer un ok (Expr-F.Compare op a b) = subst Good (sym (e.rolls-Compare op (un a) (un b))) (operation_good (Compare op) (un a) (un b) (ok a) (ok b))
  layer un ok (Expr-F.And a b) = subst Good (sym (e.rolls-And (un a) (un b))) (operation_good And (un a) (un b) (ok a) (ok b))
  layer un ok (Expr-F.Or a b) = subst Good (sym (e.rolls-Or (un a) (un b))) (operation_good Or (un a) (un b) (ok a) (ok b))
  layer un ok (Expr-F.If c a b) =
      subst Good (sym (e.rolls-If (un c) (un a) (un b)))
      (subst (Answered (e.If (un c) (un a) (un b))) (sym (laws.expr-If s (un c) (un a) (un b)))
      (choice_good (un c) (un a) (un b) (expr_of s (un c)) (expr_of s (un a)) (expr_of s (un b)) (ok c) (ok a) (ok b)))

  -- each expression resolves, or has a first fault, as is answered
  pub expr_found : (x : Expr) → Answered x (expr_of s x)
  expr_found x = ind-Expr Good (λ l y is. subst (λ z. Good (roll-Expr z)) is (layer (λ h. h.0) (λ h. h.1) y)) x

pub expr_read : {s : Scope} {a : Expr} {x : PlanExpr} {i : Sort} → Resolves s a x i → expr_of s a ≡ Ok (typed x i)
expr_read {s} (r.number {n = n}) = laws.expr-Num s n
expr_read {s} (r.literal {t = t}) = laws.expr-Lit s t
expr_read {s} (r.reference {f = f} h) = laws.expr-Ref s f ∙ ref_read h
expr_read {s} (r.called {k = k} {alias = alias} {f = f} h) = laws.expr-Call s k alias f ∙ call_read h
expr_read {s} (r.minus {a = a} h) = laws.expr-Neg s a ∙ ap (λ t. first t minus) (expr_read h)
expr_read {s} (r.negation {a = a} h) = laws.expr-Not s a ∙ ap (λ t. first t negated) (expr_read h)
expr_read {s} (r.operation op {a = a} {b = b} {x = x} {y = y} {i = i} {j = j} h k taken) =
    let t = takes_tested taken in
    expr_tree s op a b ∙ ap (λ t. both t (expr_of s b) (operated op)) (expr_read h) ∙ ap (λ u. first u (operated op (typed x i))) (expr_read k)
    ∙ ap (λ c. if_not fault.WrongType c (typed (planned op x y) (gives op))) t.0 ∙ ap (λ l. Ok (typed (planned op x y) l)) (sym t.1)
expr_read {s} (r.choice {c = c} {a = a} {b = b} {z = z} {x = x} {y = y} {k = k} f g h) =
    laws.expr-If s c a b ∙ ap (λ t. first t (λ v. both (expr_of s a) (expr_of s b) (choice v))) (expr_read f)
    ∙ ap (λ t. both t (expr_of s b) (choice (typed z Condition))) (expr_read g) ∙ ap (λ u. first u (choice (typed z Condition) (typed x (Of k)))) (expr_read h)
    ∙ ap (λ d. if_not fault.WrongType d (typed (p.If z x y) (Of k))) (alike_kind k)

pub expr_failed : {s : Scope} {a : Expr} {cause : Cause} → ExprFails s a cause → expr_of s a ≡ Err cause
expr_failed {s} (r.reference {f = f} h) = laws.expr-Ref s f ∙ ref_failed h
expr_failed {s} (r.called {k = k} {alias = alias} {f = f} h) = laws.expr-Call s k alias f ∙ call_failed h
expr_failed {s} (r.in_minus {a = a} h) = laws.expr-Neg s a ∙ ap (λ t. first t minus) (expr_failed h)
expr_failed {s} (r.in_negation {a = a} h) = laws.expr-Not s a ∙ ap (λ t. first t negated) (expr_failed h)
expr_failed {s} (r.on_left op {a = a} b h) = expr_tree s op a b ∙ ap (λ t. both t (expr_of s b) (operated op)) (expr_failed h)
expr_failed {s} (r.on_right op {a = a} {b = b} {x = x} {i = i} h k) =
    expr_tree s op a b ∙ ap (λ t. both t (expr_of s b) (operated op)) (expr_read h) ∙ ap (λ u. first u (operated op (typed x i))) (expr_failed k)
expr_failed {s} (r.in_front {c = c} a b h) = laws.expr-If s c a b ∙ ap (λ t. first t (λ v. both (expr_of s a) (expr_of s b) (choice v))) (expr_failed h)
expr_failed {s} (r.in_first {c = c} {a = a} b {z = z} {h = l} f h) =
    laws.expr-If s c a b ∙ ap (λ t. first t (λ v. both (expr_of s a) (expr_of s b) (choice v))) (expr_read f)
    ∙ ap (λ t. both t (expr_of s b) (choice (typed z l))) (expr_failed h)
expr_failed {s} (r.in_second {c = c} {a = a} {b = b} {z = z} {x = x} {h = l} {i = i} f g h) =
    laws.expr-If s c a b ∙ ap (λ t. first t (λ v. both (expr_of s a) (expr_of s b) (choice v))) (expr_read f)
    ∙ ap (λ t. both t (expr_of s b) (choice (typed z l))) (expr_read g) ∙ ap (λ u. first u (choice (typed z l) (typed x i))) (expr_failed h)
expr_failed {s} (r.minus {a = a} {x = x} {i = i} h other) =
    laws.expr-Neg s a ∙ ap (λ t. first t minus) (expr_read h) ∙ ap (λ b. if_not fault.WrongType b (typed (p.Neg x) long)) (other_long i other)
expr_failed {s} (r.negation {a = a} {x = x} {i = i} h other) =
    laws.expr-Not s a ∙ ap (λ t. first t negated) (expr_read h) ∙ ap (λ b. if_not fault.WrongType b (typed (p.Not x) Condition)) (other_condition i other)
expr_failed {s} (r.operation op {a = a} {b = b} {x = x} {y = y} {i = i} {j = j} h k none) =
    expr_tree s op a b ∙ ap (λ t. both t (expr_of s b) (operated op)) (expr_read h) ∙ ap (λ u. first u (operated op (typed x i))) (expr_read k) ∙ step (test op i j) refl
  where
    step : (c : Bool) → test op i j ≡ c → if_not fault.WrongType c (typed (planned op x y) (gives op)) ≡ Err fault.WrongType
    step true is = absurd (none (gives op) (tested_takes op i j is))
    step false is = refl
expr_failed {s} (r.choice {c = c} {a = a} {b = b} {z = z} {x = x} {y = y} {h = l} {i = i} {j = j} f g h none) =
    laws.expr-If s c a b ∙ ap (λ t. first t (λ v. both (expr_of s a) (expr_of s b) (choice v))) (expr_read f)
    ∙ ap (λ t. both t (expr_of s b) (choice (typed z l))) (expr_read g) ∙ ap (λ u. first u (choice (typed z l) (typed x i))) (expr_read h)
    ∙ step (is_condition l && are_alike i j) refl
  where
    step : (d : Bool) → (is_condition l && are_alike i j) ≡ d → if_not fault.WrongType d (typed (p.If z x y) i) ≡ Err fault.WrongType
    step true is =
        let q = sides (is_condition l) (are_alike i j) is in
        let m = chosen_kind i j q.1 in
        absurd (none m.0 (is_condition_sort l q.0) m.1 m.2)
    step false is = refl
