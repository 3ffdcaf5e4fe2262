-- How fields of an output row come from the main input, and that an output key comes from one key.
use Rattle.std.specs.Prelude.{◌≡◌, ◌⊎◌, ◌+◌, ℕ, zero, suc, Bool, true, false, not, if◌then◌else◌, List, [], ◌∷◌, ◌++◌, map, length, Option, Some, None, refl}
use Rattle.std.proofs.Common.{ap, sym, ◌∙◌, inl, inr, subst, eqb-true, arith}
use Rattle.std.specs.Ordering.{eq_by_cmp}
use Rattle.nova_value.specs.declared.value.Value.{Value}
use Rattle.nova_value.specs.Order.{value_cmp}
use Rattle.nova_value.specs.Rows.{Shape}
use Rattle.nova_pig_algebra.specs.declared.node.PlanExpr.{PlanExpr}
use Rattle.nova_pig_algebra.specs.declared.facts.Facts.{Facts}
use Rattle.nova_pig_algebra.specs.Tree.{Tree, Nothing, Load, Filter, Foreach, Grouped, Join, Union, Distinct, Arms, End, Arm}
use Rattle.nova_pig_algebra.specs.Keys.{Plain, Column, By, Constant, Computed, plain, is_column, place_from, place_of, places_of, column_set, covers, join_key, constant_at, item_constant, unknowns, in_arms, all_other, are_apart, has_key, all_have, union_facts, shape_at, facts, arm_facts}
use Rattle.nova_pig_algebra.specs.Statements.{In}
use Rattle.nova_pig_algebra.proofs.Lists.{in_either}
use Rattle.nova_pig_algebra.proofs.Items.{places_to}
use Rattle.nova_pig_algebra.proofs.Keyed.{union_parts, has_is, differs, foreach_parts}
use Rattle.nova_pig_algebra.proofs.Sets.{with_in, set_in, both_true}
use Rattle.nova_pig_pattern.specs.Shapes.{IsStateless, AreStateless, IsLookup}
use Rattle.nova_rowwise.specs.Sources.{Key, item_at, through, sources, arm_sources, field}

-- ---- paths: what becomes of a field on the way from the stored node down to a LOAD
abbrev mutual
  pub IsPath : Tree → (Plain → Plain) → Type 0
  IsPath (Load i) f = (p : Plain) → f p ≡ p
  IsPath (Filter from cond) f = IsPath from f
  IsPath (Foreach from items) f = (g : Plain → Plain) × IsPath from g × ((p : Plain) → f p ≡ g (through items p))
  IsPath (Join left left_by right right_by) f = IsPath left f
  IsPath (Union arms) f = IsArmPath arms f
  IsPath Nothing f = ⊥
  IsPath (Grouped from columns items) f = ⊥
  IsPath (Distinct from) f = ⊥

  pub IsArmPath : Arms → (Plain → Plain) → Type 0
  IsArmPath End f = ⊥
  IsArmPath (Arm arm arms) f = IsPath arm f ⊎ IsArmPath arms f

same_map : (ps : List Plain) → ps ≡ map (λ p. p) ps
same_map [] = refl
same_map (p ∷ ps) = ap (λ qs. p ∷ qs) (same_map ps)

map_twice : (f g : Plain → Plain) (ps : List Plain) → map f (map g ps) ≡ map (λ p. f (g p)) ps
map_twice f g [] = refl
map_twice f g (p ∷ ps) = ap (λ qs. f (g p) ∷ qs) (map_twice f g ps)

abbrev pub ByPath : (Tree) → List Plain → List Plain → Type 0
ByPath t ps qs = (f : Plain → Plain) × IsPath t f × (qs ≡ map f ps)

abbrev ByArmPath : Arms → List Plain → List Plain → Type 0
ByArmPath arms ps qs = (f : Plain → Plain) × IsArmPath arms f × (qs ≡ map f ps)

foreach_path : (from : Tree) (items : List PlanExpr) (ps qs : List Plain) → ByPath from (map (through items) ps) qs → ByPath (Foreach from items) ps qs
foreach_path from items ps qs r = (λ p. r.0 (through items p), (r.0, r.1, λ p. refl), r.2 ∙ map_twice r.0 (through items) ps)

arm_path : (arm : Tree) (arms : Arms) (ps qs : List Plain) → (In qs (sources arm ps) → ByPath arm ps qs) → (In qs (arm_sources arms ps) → ByArmPath arms ps qs)
    → In qs (sources arm ps) ⊎ In qs (arm_sources arms ps) → ByArmPath (Arm arm arms) ps qs
arm_path arm arms ps qs first rest (inl i) = let r = first i in (r.0, inl r.1, r.2)
arm_path arm arms ps qs first rest (inr i) = let r = rest i in (r.0, inr r.1, r.2)

load_path : (i : ℕ) (ps qs : List Plain) → In qs (ps ∷ []) → ByPath (Load i) ps qs
load_path i ps qs (inl e) = (λ p. p, λ p. refl, e ∙ same_map ps)
load_path i ps qs (inr past) = absurd past

mutual
  pub by_path : (t : Tree) (ps qs : List Plain) → In qs (sources t ps) → ByPath t ps qs
  by_path (Load k) ps qs i = load_path k ps qs i
  by_path (Filter from cond) ps qs i = by_path from ps qs i
  by_path (Foreach from items) ps qs i = foreach_path from items ps qs (by_path from (map (through items) ps) qs i)
  by_path (Join left left_by right right_by) ps qs i = by_path left ps qs i
  by_path (Union arms) ps qs i = by_arm_path arms ps qs i
  by_path Nothing ps qs i = absurd i
  by_path (Grouped from columns items) ps qs i = absurd i
  by_path (Distinct from) ps qs i = absurd i

  by_arm_path : (arms : Arms) (ps qs : List Plain) → In qs (arm_sources arms ps) → ByArmPath arms ps qs
  by_arm_path End ps qs i = absurd i
  by_arm_path (Arm arm arms) ps qs i = arm_path arm arms ps qs (λ j. by_path arm ps qs j) (λ j. by_arm_path arms ps qs j) (in_either qs (sources arm ps) (arm_sources arms ps) i)

-- ---- a constant stays one, and a constant column becomes one
mutual
  stays : (t : Tree) (f : Plain → Plain) → IsPath t f → (v : Value) → f (Constant v) ≡ Constant v
  stays (Load k) f is v = is (Constant v)
  stays (Filter from cond) f is v = stays from f is v
  stays (Foreach from items) f is v = is.2 (Constant v) ∙ stays from is.0 is.1 v
  stays (Join left left_by right right_by) f is v = stays left f is v
  stays (Union arms) f is v = arm_stays arms f is v
  stays Nothing f is v = absurd is
  stays (Grouped from columns items) f is v = absurd is
  stays (Distinct from) f is v = absurd is

  arm_stays : (arms : Arms) (f : Plain → Plain) → IsArmPath arms f → (v : Value) → f (Constant v) ≡ Constant v
  arm_stays End f is v = absurd is
  arm_stays (Arm arm arms) f (inl is) v = stays arm f is v
  arm_stays (Arm arm arms) f (inr is) v = arm_stays arms f is v

pub none_there : (n c : ℕ) (v : Value) → constant_at (unknowns n) c ≡ Some v → ⊥
none_there zero c v e = cc
none_there (suc n) zero v e = cc
none_there (suc n) (suc c) v e = none_there n c v e

-- an item that is constant is a number or a literal, or a constant column
pub item_of_constant : (cs : List (Option Value)) (items : List PlanExpr) (c : ℕ) (v : Value) → constant_at (map (λ e. item_constant cs (plain e)) items) c ≡ Some v → item_constant cs (item_at items c) ≡ Some v
item_of_constant cs [] c v e = absurd cc
item_of_constant cs (x ∷ items) zero v e = e
item_of_constant cs (x ∷ items) (suc c) v e = item_of_constant cs items c v e

foreach_constant : (from : Tree) (cs : List (Option Value)) (g : Plain → Plain) → IsPath from g → ((k : ℕ) (w : Value) → constant_at cs k ≡ Some w → g (Column k) ≡ Constant w)
    → (p : Plain) (v : Value) → item_constant cs p ≡ Some v → g p ≡ Constant v
foreach_constant from cs g is go (Column k) v e = go k v e
foreach_constant from cs g is go (By k) v e = absurd cc
foreach_constant from cs g is go (Constant w) v e = let same : w ≡ v = cc in stays from g is w ∙ ap Constant same
foreach_constant from cs g is go Computed v e = absurd cc

module _ (inputs : List Shape) (main : ℕ) where
  union_constant : (arms : Arms) (c : ℕ) (v : Value) → constant_at (union_facts (arm_facts inputs arms)).constants c ≡ Some v → ⊥
  union_constant End c v e = cc
  union_constant (Arm arm arms) c v e = none_there (length (facts inputs arm).constants) c v e

  pub constant_path : (t : Tree) → IsStateless main t → (c : ℕ) (v : Value) → constant_at (facts inputs t).constants c ≡ Some v → (f : Plain → Plain) → IsPath t f → f (Column c) ≡ Constant v
  constant_path (Load k) w c v e f is = absurd (none_there (length (shape_at inputs k).columns) c v e)
  constant_path (Filter from cond) w c v e f is = constant_path from w c v e f is
  constant_path (Foreach from items) w c v e f is =
      is.2 (Column c) ∙ foreach_constant from (facts inputs from).constants is.0 is.1 (λ k u h. constant_path from w k u h is.0 is.1) (item_at items c) v (item_of_constant (facts inputs from).constants items c v e)
  constant_path (Union arms) w c v e f is = absurd (union_constant arms c v e)
  constant_path Nothing w c v e f is = absurd w
  constant_path (Grouped from columns items) w c v e f is = absurd w
  constant_path (Join left left_by right right_by) w c v e f is = absurd w
  constant_path (Distinct from) w c v e f is = absurd w

  -- ---- output keys that are the same are of the same key
  module _ (k l : Key) where
    -- equal fields at each of these columns
    abbrev pub Same : List ℕ → (Plain → Plain) → (Plain → Plain) → Type 0
    Same key f g = (c : ℕ) → In c key → field (shape_at inputs main).key k (f (Column c)) ≡ field (shape_at inputs main).key l (g (Column c))

    abbrev pub SameKey : Type 0
    SameKey = (j : ℕ) → In j (shape_at inputs main).key → field (shape_at inputs main).key k (Column j) ≡ field (shape_at inputs main).key l (Column j)

    placed_from : (c n : ℕ) (items : List PlanExpr) (p : ℕ) → place_from (is_column c) n items ≡ Some p → (j : ℕ) × (p ≡ n + j) × (item_at items j ≡ Column c)
    placed_from c n [] p e = absurd cc
    placed_from c n (x ∷ items) p e = step (is_column c (plain x)) refl e (placed_from c (suc n) items p)
      where
        is_it : (y : Plain) → is_column c y ≡ true → y ≡ Column c
        is_it (Column j) h = ap Column (eqb-true j c h)
        is_it (By j) h = absurd cc
        is_it (Constant v) h = absurd cc
        is_it Computed h = absurd cc

        step : (b : Bool) → is_column c (plain x) ≡ b → (if b then Some n else place_from (is_column c) (suc n) items) ≡ Some p
            → (place_from (is_column c) (suc n) items ≡ Some p → (j : ℕ) × (p ≡ suc n + j) × (item_at items j ≡ Column c))
            → (j : ℕ) × (p ≡ n + j) × (item_at (x ∷ items) j ≡ Column c)
        step true is h go = let same : n ≡ p = cc in (0, omega (arith, same), is_it (plain x) is)
        step false is h go = let r = go h in (suc r.0, omega (arith, r.1), r.2)

    pub placed_at : (c : ℕ) (items : List PlanExpr) (p : ℕ) → place_of (is_column c) items ≡ Some p → item_at items p ≡ Column c
    placed_at c items p e =
        let r = placed_from c 0 items p e in
        let at : r.0 ≡ p = omega (arith, r.1) in
        subst (λ z. item_at items z ≡ Column c) at r.2

    under_foreach : (items : List PlanExpr) (own key : List ℕ) → places_of is_column items own ≡ Some key → (f g h i : Plain → Plain)
        → ((p : Plain) → f p ≡ h (through items p)) → ((p : Plain) → g p ≡ i (through items p)) → Same key f g → Same own h i
    under_foreach items own key e f g h i fs gs same c at =
        let p = places_to is_column items own key e c at in
        let item : item_at items p.0 ≡ Column c = placed_at c items p.0 p.2 in
        let x = shape_at inputs main in
        ap (λ q. field x.key k (h q)) (sym item) ∙ sym (ap (field x.key k) (fs (Column p.0))) ∙ same p.0 p.1 ∙ ap (field x.key l) (gs (Column p.0)) ∙ ap (λ q. field x.key l (i q)) item

    under_load : (n : ℕ) → n ≡ main → (key : List ℕ) → (facts inputs (Load n)).key ≡ Some key → (f g : Plain → Plain) → ((p : Plain) → f p ≡ p) → ((p : Plain) → g p ≡ p) → Same key f g → SameKey
    under_load n is key e f g fs gs same j i =
        let x = shape_at inputs main in
        let its : column_set (shape_at inputs n).key ≡ key = cc in
        let at : In j key = subst (In j) its (set_in j (shape_at inputs n).key (subst (λ m. In j (shape_at inputs m).key) (sym is) i)) in
        sym (ap (field x.key k) (fs (Column j))) ∙ same j at ∙ ap (field x.key l) (gs (Column j))

    -- constants that differ aren't the same
    apart_by : (f g : Plain → Plain) (c : ℕ) (v w : Value) → f (Column c) ≡ Constant v → g (Column c) ≡ Constant w → (v ≡ w → ⊥)
        → field (shape_at inputs main).key k (f (Column c)) ≡ field (shape_at inputs main).key l (g (Column c)) → ⊥
    apart_by f g c v w fs gs differ same = let x = shape_at inputs main in differ (sym (ap (field x.key k) fs) ∙ same ∙ ap (field x.key l) gs)

    -- an arm behind it has another constant
    abbrev Other : (Plain → Plain) → ℕ → Value → Type 0
    Other g c v = (w : Value) × (g (Column c) ≡ Constant w) × (v ≡ w → ⊥)

    other_arm : (arms : Arms) → AreStateless main arms → (c : ℕ) (v : Value) → all_other v (in_arms c (arm_facts inputs arms)) ≡ true → (g : Plain → Plain) → IsArmPath arms g → Other g c v
    other_arm End w c v e g is = absurd is
    other_arm (Arm arm arms) w c v e g is = step (constant_at (facts inputs arm).constants c) refl e is (λ h i. other_arm arms w.1 c v h g i)
      where
        step : (o : Option Value) → constant_at (facts inputs arm).constants c ≡ o → all_other v (o ∷ in_arms c (arm_facts inputs arms)) ≡ true → IsPath arm g ⊎ IsArmPath arms g
            → (all_other v (in_arms c (arm_facts inputs arms)) ≡ true → IsArmPath arms g → Other g c v) → Other g c v
        step None a h i go = absurd cc
        step (Some u) a h (inl i) go = (u, constant_path arm w.0 c u a g i, differs v u (both_true (not (eq_by_cmp value_cmp v u)) (all_other v (in_arms c (arm_facts inputs arms))) h).0)
        step (Some u) a h (inr i) go = go (both_true (not (eq_by_cmp value_cmp v u)) (all_other v (in_arms c (arm_facts inputs arms))) h).1 i

    other_of : (f g : Plain → Plain) (c : ℕ) (v : Value) → f (Column c) ≡ Constant v → Other g c v
        → field (shape_at inputs main).key k (f (Column c)) ≡ field (shape_at inputs main).key l (g (Column c)) → ⊥
    other_of f g c v fs o same = apart_by f g c v o.0 fs o.1 o.2 same

    other_back : (f g : Plain → Plain) (c : ℕ) (v : Value) → g (Column c) ≡ Constant v → Other f c v
        → field (shape_at inputs main).key k (f (Column c)) ≡ field (shape_at inputs main).key l (g (Column c)) → ⊥
    other_back f g c v gs o same = apart_by f g c o.0 v o.1 gs (λ e. o.2 (sym e)) same

    abbrev pub EachKey : List ℕ → List Facts → Type 0
    EachKey own [] = Unit {0}
    EachKey own (f ∷ fs) = (f.key ≡ Some own) × EachKey own fs

    pub each_has : (own : List ℕ) (fs : List Facts) → all_have own fs ≡ true → EachKey own fs
    each_has own [] e = tt
    each_has own (f ∷ fs) e = let p = both_true (has_key own f.key) (all_have own fs) e in (has_is own f.key p.0, each_has own fs p.1)

    arm_pair : (arm : Tree) (arms : Arms) (c : ℕ) → IsStateless main arm → AreStateless main arms → (f g : Plain → Plain) → IsPath arm f ⊎ IsArmPath arms f → IsPath arm g ⊎ IsArmPath arms g
        → field (shape_at inputs main).key k (f (Column c)) ≡ field (shape_at inputs main).key l (g (Column c))
        → (o : Option Value) → constant_at (facts inputs arm).constants c ≡ o → are_apart (o ∷ in_arms c (arm_facts inputs arms)) ≡ true
        → (IsPath arm f → IsPath arm g → SameKey) → (are_apart (in_arms c (arm_facts inputs arms)) ≡ true → IsArmPath arms f → IsArmPath arms g → SameKey) → SameKey
    arm_pair arm arms c w ws f g i j here None a e first rest = absurd cc
    arm_pair arm arms c w ws f g (inl x) (inl y) here (Some v) a e first rest = first x y
    arm_pair arm arms c w ws f g (inr x) (inr y) here (Some v) a e first rest = rest (both_true (all_other v (in_arms c (arm_facts inputs arms))) (are_apart (in_arms c (arm_facts inputs arms))) e).1 x y
    arm_pair arm arms c w ws f g (inl x) (inr y) here (Some v) a e first rest =
        absurd (other_of f g c v (constant_path arm w c v a f x) (other_arm arms ws c v (both_true (all_other v (in_arms c (arm_facts inputs arms))) (are_apart (in_arms c (arm_facts inputs arms))) e).0 g y) here)
    arm_pair arm arms c w ws f g (inr x) (inl y) here (Some v) a e first rest =
        absurd (other_back f g c v (constant_path arm w c v a g y) (other_arm arms ws c v (both_true (all_other v (in_arms c (arm_facts inputs arms))) (are_apart (in_arms c (arm_facts inputs arms))) e).0 f x) here)

    mutual
      pub same_stateless : (t : Tree) → IsStateless main t → (key : List ℕ) → (facts inputs t).key ≡ Some key → (f g : Plain → Plain) → IsPath t f → IsPath t g → Same key f g → SameKey
      same_stateless (Load n) w key e f g i j same = under_load n w key e f g i j same
      same_stateless (Filter from cond) w key e f g i j same = same_stateless from w key e f g i j same
      same_stateless (Foreach from items) w key e f g i j same =
          let p = foreach_parts items (facts inputs from).key key e in
          same_stateless from w p.0 p.1 i.0 j.0 i.1 j.1 (under_foreach items p.0 key p.2 f g i.0 j.0 i.2 j.2 same)
      same_stateless (Union End) w key e f g i j same = absurd i
      same_stateless (Union (Arm arm arms)) w key e f g i j same =
          let u = union_parts (facts inputs arm) (arm_facts inputs arms) key e in
          let here = same u.column (subst (In u.column) u.is (with_in u.column u.column u.own (inl refl))) in
          let own : Same u.own f g = λ c at. same c (subst (In c) u.is (with_in c u.column u.own (inr at))) in
          same_arms (Arm arm arms) w u.own u.column (u.first_key, each_has u.own (arm_facts inputs arms) u.others) u.apart f g i j here own
      same_stateless Nothing w key e f g i j same = absurd w
      same_stateless (Grouped from columns items) w key e f g i j same = absurd w
      same_stateless (Join left left_by right right_by) w key e f g i j same = absurd w
      same_stateless (Distinct from) w key e f g i j same = absurd w

      same_arms : (arms : Arms) → AreStateless main arms → (own : List ℕ) (c : ℕ) → EachKey own (arm_facts inputs arms) → are_apart (in_arms c (arm_facts inputs arms)) ≡ true → (f g : Plain → Plain) → IsArmPath arms f → IsArmPath arms g
          → field (shape_at inputs main).key k (f (Column c)) ≡ field (shape_at inputs main).key l (g (Column c)) → Same own f g → SameKey
      same_arms End w own c have apart f g i j here same = absurd i
      same_arms (Arm arm arms) w own c have apart f g i j here same =
          arm_pair arm arms c w.0 w.1 f g i j here (constant_at (facts inputs arm).constants c) refl apart
          (λ x y. same_stateless arm w.0 own have.0 f g x y same)
          (λ rest x y. same_arms arms w.1 own c have.1 rest f g x y here same)

    pub left_key : (left_key right_key : Option (List ℕ)) (right_by : List ℕ) (width : ℕ) (key : List ℕ) → (r : List ℕ) × (right_key ≡ Some r) × (covers right_by r ≡ true) → join_key right_by width left_key right_key ≡ Some key → left_key ≡ Some key
    left_key None right right_by width key cover e = absurd cc
    left_key (Some own) None right_by width key cover e = absurd cc
    left_key (Some own) (Some r) right_by width key cover e =
        let same : cover.0 ≡ r = cc in
        let covered : covers right_by r ≡ true = subst (λ z. covers right_by z ≡ true) same cover.2 in
        sym (ap (λ (b : Bool). if b then Some own else Some (own ++ map (λ n. width + n) r)) covered) ∙ e

    pub same_lookup : (t : Tree) → IsLookup inputs main t → (key : List ℕ) → (facts inputs t).key ≡ Some key → (f g : Plain → Plain) → IsPath t f → IsPath t g → Same key f g → SameKey
    same_lookup (Load n) w key e f g i j same = under_load n w key e f g i j same
    same_lookup (Filter from cond) w key e f g i j same = same_lookup from w key e f g i j same
    same_lookup (Foreach from items) w key e f g i j same =
        let p = foreach_parts items (facts inputs from).key key e in
        same_lookup from w p.0 p.1 i.0 j.0 i.1 j.1 (under_foreach items p.0 key p.2 f g i.0 j.0 i.2 j.2 same)
    same_lookup (Join left left_by right right_by) w key e f g i j same =
        same_lookup left w.0 key (left_key (facts inputs left).key (facts inputs right).key right_by (length (facts inputs left).constants) key w.1.1 e) f g i j same
    same_lookup (Union arms) w key e f g i j same = absurd w
    same_lookup Nothing w key e f g i j same = absurd w
    same_lookup (Grouped from columns items) w key e f g i j same = absurd w
    same_lookup (Distinct from) w key e f g i j same = absurd w
