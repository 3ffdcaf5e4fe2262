-- Plain items: what a FOREACH keeps of columns and of constants.
use Rattle.std.specs.Prelude.{◌≡◌, ℕ, suc, ◌+◌, Bool, true, false, if◌then◌else◌, List, [], ◌∷◌, slice_get, Option, Some, None, refl}
use Rattle.std.proofs.Common.{ap, sym, ◌∙◌, inl, inr, subst, eqb-true, arith}
use Rattle.nova_value.specs.declared.value.Value.{Value}
use Rattle.nova_value.specs.Rows.{value_at, key_at}
use Rattle.nova_pig_algebra.specs.declared.node.PlanExpr.{PlanExpr}
use Rattle.nova_pig_algebra.specs.declared.node.PlanExpr.TheOpen.{PlanExpr-F}
use Rattle.nova_pig_algebra.specs.declared.node.PlanExpr.TheViews.{out-PlanExpr, roll-PlanExpr, roll-out-PlanExpr}
use Rattle.nova_pig_algebra.specs.declared.node.PlanExpr.TheFolds.{fold-roll-PlanExpr}
use Rattle.nova_pig_algebra.specs.Meaning.{Row, Calls, Given, given, given_step, value_of, made}
use Rattle.nova_pig_algebra.specs.Keys.{with_column, Plain, Column, By, Constant, Computed, plain, plain_step, is_column, is_by, is_some, place_from, place_of, places_of, and_place, constant_at, item_constant, item_constants}
use Rattle.nova_pig_algebra.specs.Statements.{In}
use Rattle.nova_pig_algebra.proofs.Sets.{Agree, with_in}
use Rattle.nova_pig_algebra.proofs.Values.{IsConstant, HasConstants, key_value}

-- what a plain item gives
abbrev ValueIs : Plain → PlanExpr → Type 0
ValueIs (Column k) x = (row : Row) (f : Calls) → value_of x row f ≡ value_at row k
ValueIs (By k) x = (row : Row) (f : Calls) → value_of x row f ≡ value_at row k
ValueIs (Constant v) x = (row : Row) (f : Calls) → value_of x row f ≡ v
ValueIs Computed x = Unit {0}

plain_gives : (x : PlanExpr) → ValueIs (plain x) x
unfolding given
plain_gives x = go (out-PlanExpr x) (sym (roll-out-PlanExpr x))
  where
    at_layer : (y : PlanExpr-F PlanExpr) → x ≡ roll-PlanExpr y → (row : Row) (f : Calls) → value_of x row f ≡ value_of (roll-PlanExpr y) row f
    at_layer y is row f = ap (λ e. value_of e row f) is

    go : (y : PlanExpr-F PlanExpr) → x ≡ roll-PlanExpr y → ValueIs (plain_step y) x
    go (PlanExpr-F.Column k) is = λ row f. at_layer (PlanExpr-F.Column k) is row f ∙ ap (λ (g : Given). g.value row f) (fold-roll-PlanExpr Given given_step (PlanExpr-F.Column k))
    go (PlanExpr-F.GroupColumn k) is = λ row f. at_layer (PlanExpr-F.GroupColumn k) is row f ∙ ap (λ (g : Given). g.value row f) (fold-roll-PlanExpr Given given_step (PlanExpr-F.GroupColumn k))
    go (PlanExpr-F.Num n) is = λ row f. at_layer (PlanExpr-F.Num n) is row f ∙ ap (λ (g : Given). g.value row f) (fold-roll-PlanExpr Given given_step (PlanExpr-F.Num n))
    go (PlanExpr-F.Lit t) is = λ row f. at_layer (PlanExpr-F.Lit t) is row f ∙ ap (λ (g : Given). g.value row f) (fold-roll-PlanExpr Given given_step (PlanExpr-F.Lit t))
    go y is = tt

pub refers : (k : ℕ) (x : PlanExpr) → is_column k (plain x) ≡ true → (row : Row) (f : Calls) → value_of x row f ≡ value_at row k
refers k x = go (plain x) (plain_gives x)
  where
    go : (p : Plain) → ValueIs p x → is_column k p ≡ true → (row : Row) (f : Calls) → value_of x row f ≡ value_at row k
    go (Column j) g e row f = g row f ∙ ap (value_at row) (eqb-true j k e)
    go (By j) g e row f = absurd cc
    go (Constant v) g e row f = absurd cc
    go Computed g e row f = absurd cc

some_is : (k : ℕ) (o : Option ℕ) → is_some k o ≡ true → o ≡ Some k
some_is k None e = absurd cc
some_is k (Some j) e = ap (λ (n : ℕ). let o : Option ℕ = Some n in o) (eqb-true j k e)

-- over a group an item that is a BY column gives the value that its members have there
pub refers_by : (columns : List ℕ) (k : ℕ) (x : PlanExpr) → is_by columns k (plain x) ≡ true → (row : Row) (f : Calls) → value_of x (key_at columns row) f ≡ value_at row k
refers_by columns k x = go (plain x) (plain_gives x)
  where
    go : (p : Plain) → ValueIs p x → is_by columns k p ≡ true → (row : Row) (f : Calls) → value_of x (key_at columns row) f ≡ value_at row k
    go (Column j) g e row f = absurd cc
    go (By j) g e row f = g (key_at columns row) f ∙ key_value columns row j k (some_is k (slice_get columns j) e)
    go (Constant v) g e row f = absurd cc
    go Computed g e row f = absurd cc

-- the item at the place of the first that passes gives what each that passes gives
place_gives_from : (test : Plain → Bool) (row : Row) (f : Calls) (v : Value) → ((x : PlanExpr) → test (plain x) ≡ true → value_of x row f ≡ v)
    → (n : ℕ) (items : List PlanExpr) (p : ℕ) → place_from test n items ≡ Some p → (j : ℕ) × (p ≡ n + j) × (value_at (made items row f) j ≡ v)
place_gives_from test row f v ok n [] p e = absurd cc
place_gives_from test row f v ok n (x ∷ items) p e = step (test (plain x)) refl e (place_gives_from test row f v ok (suc n) items p)
  where
    step : (b : Bool) → test (plain x) ≡ b → (if b then Some n else place_from test (suc n) items) ≡ Some p
        → (place_from test (suc n) items ≡ Some p → (j : ℕ) × (p ≡ suc n + j) × (value_at (made items row f) j ≡ v))
        → (j : ℕ) × (p ≡ n + j) × (value_at (made (x ∷ items) row f) j ≡ v)
    step true is h go = let same : n ≡ p = cc in (0, omega (arith, same), ok x is)
    step false is h go = let r = go h in (suc r.0, omega (arith, r.1), r.2)

place_gives : (test : Plain → Bool) (row : Row) (f : Calls) (v : Value) → ((x : PlanExpr) → test (plain x) ≡ true → value_of x row f ≡ v)
    → (items : List PlanExpr) (p : ℕ) → place_of test items ≡ Some p → value_at (made items row f) p ≡ v
place_gives test row f v ok items p e =
    let r = place_gives_from test row f v ok 0 items p e in
    let at : r.0 ≡ p = omega (arith, r.1) in
    subst (λ z. value_at (made items row f) z ≡ v) at r.2

module _ (test : ℕ → Plain → Bool) (items : List PlanExpr) where
  abbrev pub IsBoth : ℕ → List ℕ → List ℕ → Type 0
  IsBoth k key places = (p : ℕ) × (ps : List ℕ) × (place_of (test k) items ≡ Some p) × (places_of test items key ≡ Some ps) × (with_column p ps ≡ places)

  pub both_of : (k : ℕ) (key places : List ℕ) → and_place (place_of (test k) items) (places_of test items key) ≡ Some places → IsBoth k key places
  both_of k key places = go (place_of (test k) items) (places_of test items key) refl refl
    where
      go : (o : Option ℕ) (os : Option (List ℕ)) → place_of (test k) items ≡ o → places_of test items key ≡ os → and_place o os ≡ Some places → IsBoth k key places
      go (Some p) (Some ps) a b e = let is : with_column p ps ≡ places = cc in (p, ps, a, b, is)
      go (Some p) None a b e = absurd cc
      go None os a b e = absurd cc

  -- each key column has a place
  pub places_to : (key places : List ℕ) → places_of test items key ≡ Some places → (k : ℕ) → In k key → (p : ℕ) × In p places × (place_of (test k) items ≡ Some p)
  places_to [] places e k i = absurd i
  places_to (j ∷ key) places e k i =
      let b = both_of j key places e in
      pick b.0 b.1 b.2 b.4 (λ h. places_to key b.1 b.3 k h) i
    where
      pick : (p : ℕ) (ps : List ℕ) → place_of (test j) items ≡ Some p → with_column p ps ≡ places → (In k key → (q : ℕ) × In q ps × (place_of (test k) items ≡ Some q)) → In k (j ∷ key) → (q : ℕ) × In q places × (place_of (test k) items ≡ Some q)
      pick p ps a is go (inl same) = (p, subst (In p) is (with_in p p ps (inl refl)), ap (λ z. place_of (test z) items) same ∙ a)
      pick p ps a is go (inr h) = let r = go h in (r.0, subst (In r.0) is (with_in r.0 p ps (inr r.1)), r.2)

  -- rows that agree at the places of key columns come from rows that agree at these columns
  pub made_agree : (key places : List ℕ) → places_of test items key ≡ Some places → (row other x y : Row) (f g : Calls)
      → ((k : ℕ) (e : PlanExpr) → test k (plain e) ≡ true → value_of e row f ≡ value_at x k)
      → ((k : ℕ) (e : PlanExpr) → test k (plain e) ≡ true → value_of e other g ≡ value_at y k)
      → Agree places (made items row f) (made items other g) → Agree key x y
  made_agree key places e row other x y f g left right h k i =
      let p = places_to key places e k i in
      sym (place_gives (test k) row f (value_at x k) (left k) items p.0 p.2) ∙ h p.0 p.1 ∙ place_gives (test k) other g (value_at y k) (right k) items p.0 p.2

-- rows that items make have the constants of the items, where the row has those to which they refer
pub made_has : (cs : List (Option Value)) (row : Row) (f : Calls) → ((k : ℕ) (w : Value) → constant_at cs k ≡ Some w → value_at row k ≡ w) → (items : List PlanExpr)
    → HasConstants (item_constants cs items) (made items row f)
made_has cs row f has [] = tt
made_has cs row f has (x ∷ items) = (go (plain x) (plain_gives x), made_has cs row f has items)
  where
    step : (k : ℕ) → ((row : Row) (f : Calls) → value_of x row f ≡ value_at row k) → (o : Option Value) → constant_at cs k ≡ o → IsConstant o (value_of x row f)
    step k g None e = tt
    step k g (Some w) e = g row f ∙ has k w e

    go : (p : Plain) → ValueIs p x → IsConstant (item_constant cs p) (value_of x row f)
    go (Column k) g = step k g (constant_at cs k) refl
    go (By k) g = tt
    go (Constant v) g = g row f
    go Computed g = tt
