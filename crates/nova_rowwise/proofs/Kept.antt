-- Each row that a stateless plan makes of a row is at an output key of the row's key.
use Rattle.std.specs.Prelude.{◌≡◌, ◌⊎◌, ℕ, zero, suc, true, List, [], ◌∷◌, Option, Some, None, refl}
use Rattle.std.proofs.Common.{ap, sym, ◌∙◌, inl, inr, subst, arith}
use Rattle.std.proofs.lemmas.Bool.Decides.{nat_tests}
use Rattle.nova_value.specs.declared.value.Value.{Value}
use Rattle.nova_value.specs.Rows.{Shape, value_at}
use Rattle.nova_pig_algebra.specs.declared.node.PlanExpr.{PlanExpr}
use Rattle.nova_pig_algebra.specs.Meaning.{Row, holds, made, no_calls}
use Rattle.nova_pig_algebra.specs.Tree.{Tree, Nothing, Load, Filter, Foreach, Grouped, Join, Union, Distinct, Arms, End, Arm, rows, arm_rows, rows_at}
use Rattle.nova_pig_algebra.specs.Keys.{Plain, Column, By, Constant, Computed, plain, is_column, place_of, places_of, with_column, column_set, constant_at, in_arms, all_other, are_apart, shape_at, facts, arm_facts}
use Rattle.nova_pig_algebra.specs.Statements.{In, AreTables}
use Rattle.nova_pig_algebra.proofs.Lists.{in_either, in_filtered, in_mapped}
use Rattle.nova_pig_algebra.proofs.Sets.{in_with, both_true}
use Rattle.nova_pig_algebra.proofs.Values.{constant_is}
use Rattle.nova_pig_algebra.proofs.Items.{refers, both_of}
use Rattle.nova_pig_algebra.proofs.Keyed.{IsEven, AreEven, has_constants, union_parts, foreach_parts}
use Rattle.nova_pig_pattern.specs.Shapes.{IsStateless, AreStateless}
use Rattle.nova_rowwise.specs.Sources.{item_at, through}
use Rattle.nova_rowwise.proofs.Origins.{set_from}
use Rattle.nova_rowwise.proofs.Paths.{IsPath, IsArmPath, EachKey, each_has, constant_path, placed_at}

-- a column of the key that has the value, or a constant that is it
abbrev pub Shown : List ℕ → Row → Plain → Value → Type 0
Shown key r (Column j) v = In j key × (value_at r j ≡ v)
Shown key r (Constant w) v = w ≡ v
Shown key r (By j) v = ⊥
Shown key r Computed v = ⊥

-- the item of a column gives it
pub made_at : (items : List PlanExpr) (z : Row) (c k : ℕ) → item_at items c ≡ Column k → value_at (made items z no_calls) c ≡ value_at z k
made_at [] z c k e = absurd cc
made_at (x ∷ items) z zero k e = refers k x (is_it (plain x) e) z no_calls
  where
    is_it : (p : Plain) → p ≡ Column k → is_column k p ≡ true
    is_it p h = ap (is_column k) h ∙ itself k
      where
        itself : (n : ℕ) → is_column n (Column n) ≡ true
        itself n = grind (arith, nat_tests)
made_at (x ∷ items) z (suc c) k e = made_at items z c k e

-- a place of the key is that of a column of the operand's key
pub comes_from : (items : List PlanExpr) (own key : List ℕ) → places_of is_column items own ≡ Some key → (c : ℕ) → In c key → (k : ℕ) × In k own × (place_of (is_column k) items ≡ Some c)
comes_from items [] key e c i = let none : [] ≡ key = cc in absurd (subst (In c) (sym none) i)
comes_from items (j ∷ own) key e c i =
    let b = both_of is_column items j own key e in
    pick b.0 b.1 b.2 (λ h. comes_from items own b.1 b.3 c h) (in_with c b.0 b.1 (subst (In c) (sym b.4) i))
  where
    pick : (p : ℕ) (ps : List ℕ) → place_of (is_column j) items ≡ Some p → (In c ps → (k : ℕ) × In k own × (place_of (is_column k) items ≡ Some c)) → (c ≡ p) ⊎ In c ps → (k : ℕ) × In k (j ∷ own) × (place_of (is_column k) items ≡ Some c)
    pick p ps a go (inl same) = (j, inl refl, a ∙ ap (λ n. Some n) (sym same))
    pick p ps a go (inr h) = let r = go h in (r.0, inr r.1, r.2)

module _ (inputs : List Shape) (main : ℕ) (tables : List (List Row)) (are : AreTables inputs tables) (r : Row) (one : rows_at tables main ≡ r ∷ []) where
  -- a path on which each key column of the row is shown
  abbrev Shows : List ℕ → (Plain → Plain) → Row → Type 0
  Shows key f x = (c : ℕ) → In c key → Shown (shape_at inputs main).key r (f (Column c)) (value_at x c)

  abbrev pub Traced : Tree → List ℕ → Row → Type 0
  Traced t key x = (f : Plain → Plain) × IsPath t f × Shows key f x

  abbrev TracedArms : Arms → List ℕ → Row → Type 0
  TracedArms arms key x = (f : Plain → Plain) × IsArmPath arms f × Shows key f x

  only : (n : ℕ) → n ≡ main → (x : Row) → In x (rows_at tables n) → x ≡ r
  only n e x i = pick (subst (In x) (ap (rows_at tables) e ∙ one) i)
    where
      pick : In x (r ∷ []) → x ≡ r
      pick (inl same) = same
      pick (inr past) = absurd past

  pub under_load : (n : ℕ) → n ≡ main → (key : List ℕ) → (facts inputs (Load n)).key ≡ Some key → (x : Row) → In x (rows_at tables n) → Traced (Load n) key x
  under_load n e key is x i =
      let its : column_set (shape_at inputs n).key ≡ key = cc in
      (λ p. p, λ p. refl, λ c at. (subst (λ m. In c (shape_at inputs m).key) e (set_from c (shape_at inputs n).key (subst (In c) (sym its) at)), ap (λ y. value_at y c) (sym (only n e x i))))

  pub under_foreach : (from : Tree) (items : List PlanExpr) (own key : List ℕ) → places_of is_column items own ≡ Some key → (z x : Row) → x ≡ made items z no_calls → Traced from own z → Traced (Foreach from items) key x
  under_foreach from items own key e z x is t = (
    λ p. t.0 (through items p),
    (t.0, t.1, λ p. refl),
    λ c at.
        let k = comes_from items own key e c at in
        let item : item_at items c ≡ Column k.0 = placed_at inputs main [] [] k.0 items c k.2 in
        let value : value_at z k.0 ≡ value_at x c = sym (made_at items z c k.0 item) ∙ ap (λ y. value_at y c) (sym is) in
        subst (λ v. Shown (shape_at inputs main).key r (t.0 (item_at items c)) v) value (subst (λ q. Shown (shape_at inputs main).key r (t.0 q) (value_at z k.0)) (sym item) (t.2 k.0 k.1)),
  )

  -- at the column that tells arms apart the constant is shown
  with_constant : (arm : Tree) → IsStateless main arm → IsEven inputs arm → (own : List ℕ) (c : ℕ) (x : Row) → In x (rows arm tables) → (o : Option Value) → constant_at (facts inputs arm).constants c ≡ o → (v : Value) → o ≡ Some v
      → Traced arm own x → Traced arm (with_column c own) x
  with_constant arm w even own c x i o a v is t = (t.0, t.1, λ k at. go k (in_with k c own at))
    where
      const : Shown (shape_at inputs main).key r (t.0 (Column c)) (value_at x c)
      const = subst (λ q. Shown (shape_at inputs main).key r q (value_at x c)) (sym (constant_path inputs main arm w c v (a ∙ is) t.0 t.1)) (sym (constant_is (facts inputs arm).constants x c v (has_constants inputs tables are arm even x i) (a ∙ is)))

      go : (k : ℕ) → (k ≡ c) ⊎ In k own → Shown (shape_at inputs main).key r (t.0 (Column k)) (value_at x k)
      go k (inl e) = subst (λ n. Shown (shape_at inputs main).key r (t.0 (Column n)) (value_at x n)) (sym e) const
      go k (inr h) = t.2 k h

  has_one : (o : Option Value) (os : List (Option Value)) → are_apart (o ∷ os) ≡ true → (v : Value) × (o ≡ Some v) × (are_apart os ≡ true)
  has_one None os e = absurd cc
  has_one (Some v) os e = (v, refl, (both_true (all_other v os) (are_apart os) e).1)

  arm_or : (arm : Tree) (arms : Arms) (key : List ℕ) (x : Row) → (In x (rows arm tables) → Traced arm key x) → (In x (arm_rows arms tables) → TracedArms arms key x)
      → In x (rows arm tables) ⊎ In x (arm_rows arms tables) → TracedArms (Arm arm arms) key x
  arm_or arm arms key x first rest (inl i) = let t = first i in (t.0, inl t.1, t.2)
  arm_or arm arms key x first rest (inr i) = let t = rest i in (t.0, inr t.1, t.2)

  mutual
    pub traced : (t : Tree) → IsStateless main t → IsEven inputs t → (key : List ℕ) → (facts inputs t).key ≡ Some key → (x : Row) → In x (rows t tables) → Traced t key x
    traced (Load n) w even key e x i = under_load n w key e x i
    traced (Filter from cond) w even key e x i = traced from w even key e x (in_filtered (λ row. holds cond row no_calls) x (rows from tables) i).0
    traced (Foreach from items) w even key e x i =
        let p = foreach_parts items (facts inputs from).key key e in
        let z = in_mapped (λ row. made items row no_calls) x (rows from tables) i in
        under_foreach from items p.0 key p.2 z.0 x z.2 (traced from w even p.0 p.1 z.0 z.1)
    traced (Union End) w even key e x i = absurd i
    traced (Union (Arm arm arms)) w even key e x i =
        let u = union_parts (facts inputs arm) (arm_facts inputs arms) key e in
        subst (λ k. TracedArms (Arm arm arms) k x) u.is (traced_arms (Arm arm arms) w even.0 u.own u.column (u.first_key, each_has inputs main [] [] u.own (arm_facts inputs arms) u.others) u.apart x i)
    traced Nothing w even key e x i = absurd w
    traced (Grouped from columns items) w even key e x i = absurd w
    traced (Join left left_by right right_by) w even key e x i = absurd w
    traced (Distinct from) w even key e x i = absurd w

    traced_arms : (arms : Arms) → AreStateless main arms → AreEven inputs arms → (own : List ℕ) (c : ℕ) → EachKey inputs main [] [] own (arm_facts inputs arms) → are_apart (in_arms c (arm_facts inputs arms)) ≡ true
        → (x : Row) → In x (arm_rows arms tables) → TracedArms arms (with_column c own) x
    traced_arms End w even own c have apart x i = absurd i
    traced_arms (Arm arm arms) w even own c have apart x i =
        let h = has_one (constant_at (facts inputs arm).constants c) (in_arms c (arm_facts inputs arms)) apart in
        arm_or arm arms (with_column c own) x
        (λ j. with_constant arm w.0 even.0 own c x j (constant_at (facts inputs arm).constants c) refl h.0 h.1 (traced arm w.0 even.0 own have.0 x j))
        (λ j. traced_arms arms w.1 even.1 own c have.1 h.2 x j)
        (in_either x (rows arm tables) (arm_rows arms tables) i)
