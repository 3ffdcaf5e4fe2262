-- The output key of a plan over groups: each place of it is a BY value, and each BY value has a place.
use Rattle.std.specs.Prelude.{◌≡◌, ◌⊎◌, ℕ, zero, suc, ◌+◌, Bool, true, false, if◌then◌else◌, List, [], ◌∷◌, map, slice_get, Option, Some, None, refl}
use Rattle.std.proofs.Common.{ap, sym, ◌∙◌, inl, inr, subst, eqb-true, arith}
use Rattle.std.specs.Cmp.{nat_eq_equiv}
use Rattle.nova_value.specs.Rows.{Shape, value_at, key_at}
use Rattle.nova_pig_algebra.specs.declared.node.PlanExpr.{PlanExpr}
use Rattle.nova_pig_algebra.specs.declared.node.PlanExpr.TheOpen.{PlanExpr-F}
use Rattle.nova_pig_algebra.specs.declared.node.PlanExpr.TheViews.{out-PlanExpr, roll-PlanExpr, roll-out-PlanExpr}
use Rattle.nova_pig_algebra.specs.declared.node.PlanExpr.TheFolds.{fold-roll-PlanExpr}
use Rattle.nova_pig_algebra.specs.Meaning.{Row, Calls, Given, given, given_step, value_of, holds, made, no_calls}
use Rattle.nova_pig_algebra.specs.Tree.{Tree, Nothing, Load, Filter, Foreach, Grouped, Join, Union, Distinct}
use Rattle.nova_pig_algebra.specs.Keys.{Plain, Column, By, Constant, Computed, plain, plain_step, is_column, is_by, is_some, place_from, place_of, places_of, column_set, facts}
use Rattle.nova_pig_algebra.specs.Plan.{Plan, tree_of_plan}
use Rattle.nova_pig_algebra.specs.Statements.{In}
use Rattle.nova_pig_algebra.proofs.Items.{refers, both_of, places_to}
use Rattle.nova_pig_algebra.proofs.Sets.{in_with, set_in}
use Rattle.nova_pig_algebra.proofs.Values.{key_value}
use Rattle.nova_pig_algebra.proofs.Keyed.{foreach_parts}
use Rattle.nova_pig_pattern.specs.Shapes.{IsGrouped}
use Rattle.nova_pig_rows.specs.ChainRows.{kept, remade}
use Rattle.nova_pig_rows.specs.GroupRows.{group_row}
use Rattle.nova_admit.specs.Shaped.{IsGroupPlan}
use Rattle.nova_state.specs.Plan.{parts, or_nothing, place_in, item_place, by_place, rule_of, out_key}

-- ---- items
abbrev pub item_at : List PlanExpr → ℕ → Plain
item_at [] k = Computed
item_at (x ∷ items) zero = plain x
item_at (x ∷ items) (suc k) = item_at items k

item_place-is : (items : List PlanExpr) (k : ℕ) → item_place items k ≡ place_in (item_at items k)
item_place-is [] k = refl
item_place-is (x ∷ items) zero = refl
item_place-is (x ∷ items) (suc k) = item_place-is items k

by_gives : (j : ℕ) (x : PlanExpr) → plain x ≡ By j → (by : Row) (f : Calls) → value_of x by f ≡ value_at by j
unfolding given
by_gives j x e by f = go (out-PlanExpr x) (sym (roll-out-PlanExpr x)) e
  where
    go : (y : PlanExpr-F PlanExpr) → x ≡ roll-PlanExpr y → plain_step y ≡ By j → value_of x by f ≡ value_at by j
    go (PlanExpr-F.GroupColumn k) is e =
        let same : k ≡ j = cc in
        ap (λ z. value_of z by f) is ∙ ap (λ (g : Given). g.value by f) (fold-roll-PlanExpr Given given_step (PlanExpr-F.GroupColumn k)) ∙ ap (value_at by) same
    go (PlanExpr-F.Column k) is e = absurd cc
    go (PlanExpr-F.Num n) is e = absurd cc
    go (PlanExpr-F.Lit t) is e = absurd cc
    go y is e = absurd cc

column_gives : (c : ℕ) (x : PlanExpr) → plain x ≡ Column c → (row : Row) (f : Calls) → value_of x row f ≡ value_at row c
column_gives c x e row f = refers c x (ap (is_column c) e ∙ nat_eq_equiv.refl c) row f

made_by : (items : List PlanExpr) (k j : ℕ) → item_at items k ≡ By j → (by : Row) (f : Calls) → value_at (made items by f) k ≡ value_at by j
made_by [] k j e by f = absurd cc
made_by (x ∷ items) zero j e by f = by_gives j x e by f
made_by (x ∷ items) (suc k) j e by f = made_by items k j e by f

made_column : (items : List PlanExpr) (k c : ℕ) → item_at items k ≡ Column c → (row : Row) (f : Calls) → value_at (made items row f) k ≡ value_at row c
made_column [] k c e row f = absurd cc
made_column (x ∷ items) zero c e row f = column_gives c x e row f
made_column (x ∷ items) (suc k) c e row f = made_column items k c e row f

is_the_column : (c : ℕ) (p : Plain) → is_column c p ≡ true → p ≡ Column c
is_the_column c (Column j) e = ap Column (eqb-true j c e)
is_the_column c (By j) e = absurd cc
is_the_column c (Constant v) e = absurd cc
is_the_column c Computed e = absurd cc

some_is : (k : ℕ) (o : Option ℕ) → is_some k o ≡ true → o ≡ Some k
some_is k None e = absurd cc
some_is k (Some j) e = ap (λ (n : ℕ). let o : Option ℕ = Some n in o) (eqb-true j k e)

is_the_by : (columns : List ℕ) (c : ℕ) (p : Plain) → is_by columns c p ≡ true → (j : ℕ) × (p ≡ By j) × (slice_get columns j ≡ Some c)
is_the_by columns c (By j) e = (j, refl, some_is c (slice_get columns j) e)
is_the_by columns c (Column j) e = absurd cc
is_the_by columns c (Constant v) e = absurd cc
is_the_by columns c Computed e = absurd cc

passes_from : (test : Plain → Bool) (n : ℕ) (items : List PlanExpr) (p : ℕ) → place_from test n items ≡ Some p → (j : ℕ) × (p ≡ n + j) × (test (item_at items j) ≡ true)
passes_from test n [] p e = absurd cc
passes_from test n (x ∷ items) p e = step (test (plain x)) refl e (passes_from test (suc n) items p)
  where
    step : (b : Bool) → test (plain x) ≡ b → (if b then Some n else place_from test (suc n) items) ≡ Some p
        → (place_from test (suc n) items ≡ Some p → (j : ℕ) × (p ≡ suc n + j) × (test (item_at items j) ≡ true))
        → (j : ℕ) × (p ≡ n + j) × (test (item_at (x ∷ items) j) ≡ true)
    step true is h go = let same : n ≡ p = cc in (0, omega (arith, same), is)
    step false is h go = let r = go h in (suc r.0, omega (arith, r.1), r.2)

-- the item at the place of the first that passes does
passes : (test : Plain → Bool) (items : List PlanExpr) (p : ℕ) → place_of test items ≡ Some p → test (item_at items p) ≡ true
passes test items p e =
    let r = passes_from test 0 items p e in
    let at : r.0 ≡ p = omega (arith, r.1) in
    subst (λ z. test (item_at items z) ≡ true) at r.2

-- each place is of a key column
places_back : (test : ℕ → Plain → Bool) (items : List PlanExpr) (key places : List ℕ) → places_of test items key ≡ Some places → (k : ℕ) → In k places → (c : ℕ) × In c key × (test c (item_at items k) ≡ true)
places_back test items [] places e k i = let is : [] ≡ places = cc in absurd (subst (In k) (sym is) i)
places_back test items (j ∷ key) places e k i =
    let b = both_of test items j key places e in
    go b.0 b.1 b.2 (places_back test items key b.1 b.3 k) (in_with k b.0 b.1 (subst (In k) (sym b.4) i))
  where
    go : (p : ℕ) (ps : List ℕ) → place_of (test j) items ≡ Some p → (In k ps → (c : ℕ) × In c key × (test c (item_at items k) ≡ true)) → (k ≡ p) ⊎ In k ps → (c : ℕ) × In c (j ∷ key) × (test c (item_at items k) ≡ true)
    go p ps a rest (inl same) = (j, inl refl, ap (λ z. test j (item_at items z)) same ∙ passes (test j) items p a)
    go p ps a rest (inr h) = let r = rest h in (r.0, inr r.1, r.2)

-- ---- trees
-- the place of the rows is a BY value: the items on the way are plain references
abbrev pub IsBy : Tree → ℕ → Type 0
IsBy (Grouped from columns items) k = (j : ℕ) × (item_at items k ≡ By j)
IsBy (Filter from c) k = IsBy from k
IsBy (Foreach from items) k = (c : ℕ) × (item_at items k ≡ Column c) × IsBy from c
IsBy Nothing k = ⊥
IsBy (Load input) k = ⊥
IsBy (Join left left_by right right_by) k = ⊥
IsBy (Union arms) k = ⊥
IsBy (Distinct from) k = ⊥

key_is_by : (inputs : List Shape) (t : Tree) → IsGrouped 0 t → (key : List ℕ) → (facts inputs t).key ≡ Some key → (k : ℕ) → In k key → IsBy t k
key_is_by inputs (Grouped from columns items) is key e k i =
    let b = places_back (is_by columns) items columns key e k i in
    let j = is_the_by columns b.0 (item_at items k) b.2 in
    (j.0, j.1)
key_is_by inputs (Filter from c) is key e k i = key_is_by inputs from is key e k i
key_is_by inputs (Foreach from items) is key e k i =
    let p = foreach_parts items (facts inputs from).key key e in
    let b = places_back is_column items p.0 key p.2 k i in
    (b.0, is_the_column b.0 (item_at items k) b.2, key_is_by inputs from is p.0 p.1 b.0 b.1)
key_is_by inputs Nothing is key e k i = absurd is
key_is_by inputs (Load input) is key e k i = absurd is
key_is_by inputs (Join left left_by right right_by) is key e k i = absurd is
key_is_by inputs (Union arms) is key e k i = absurd is
key_is_by inputs (Distinct from) is key e k i = absurd is

-- a BY column has a place in the key
has_place : (inputs : List Shape) (t : Tree) → IsGrouped 0 t → (key : List ℕ) → (facts inputs t).key ≡ Some key → (c : ℕ) → In c (or_nothing (parts t)).columns → (k : ℕ) × In k key × (slice_get (or_nothing (parts t)).columns (by_place t k) ≡ Some c)
has_place inputs (Grouped from columns items) is key e c i =
    let p = places_to (is_by columns) items columns key e c i in
    let j = is_the_by columns c (item_at items p.0) (passes (is_by columns c) items p.0 p.2) in
    (p.0, p.1, ap (slice_get columns) (item_place-is items p.0 ∙ ap place_in j.1) ∙ j.2)
has_place inputs (Filter from d) is key e c i = has_place inputs from is key e c i
has_place inputs (Foreach from items) is key e c i =
    let p = foreach_parts items (facts inputs from).key key e in
    let r = has_place inputs from is p.0 p.1 c i in
    let q = places_to is_column items p.0 key p.2 r.0 r.1 in
    let at = is_the_column r.0 (item_at items q.0) (passes (is_column r.0) items q.0 q.2) in
    (q.0, q.1, ap (λ z. slice_get (or_nothing (parts from)).columns (by_place from z)) (item_place-is items q.0 ∙ ap place_in at) ∙ r.2)
has_place inputs Nothing is key e c i = absurd is
has_place inputs (Load input) is key e c i = absurd is
has_place inputs (Join left left_by right right_by) is key e c i = absurd is
has_place inputs (Union arms) is key e c i = absurd is
has_place inputs (Distinct from) is key e c i = absurd is

-- the row of a group, whether or not it passes the FILTERs
abbrev pub whole_row : Tree → Row → Calls → Row
whole_row (Grouped from columns items) by f = made items by f
whole_row (Filter from c) by f = whole_row from by f
whole_row (Foreach from items) by f = made items (whole_row from by f) no_calls
whole_row Nothing by f = []
whole_row (Load input) by f = []
whole_row (Join left left_by right right_by) by f = []
whole_row (Union arms) by f = []
whole_row (Distinct from) by f = []

pub kept_is : (c : PlanExpr) (o : Option Row) (row : Row) → kept c o ≡ Some row → o ≡ Some row
kept_is c None row e = absurd cc
kept_is c (Some r) row e = go (holds c r no_calls) e
  where
    go : (b : Bool) → (if b then Some r else None) ≡ Some row → Some r ≡ Some row
    go true e = e
    go false e = absurd cc

pub remade_is : (items : List PlanExpr) (o : Option Row) (row : Row) → remade items o ≡ Some row → (r : Row) × (o ≡ Some r) × (row ≡ made items r no_calls)
remade_is items None row e = absurd cc
remade_is items (Some r) row e = let same : made items r no_calls ≡ row = cc in (r, refl, sym same)

given_whole : (t : Tree) (by : Row) (f : Calls) (row : Row) → group_row t by f ≡ Some row → row ≡ whole_row t by f
given_whole (Grouped from columns items) by f row e = let same : made items by f ≡ row = cc in sym same
given_whole (Filter from c) by f row e = given_whole from by f row (kept_is c (group_row from by f) row e)
given_whole (Foreach from items) by f row e =
    let r = remade_is items (group_row from by f) row e in
    r.2 ∙ ap (λ (z : Row). made items z no_calls) (given_whole from by f r.0 r.1)
given_whole Nothing by f row e = absurd cc
given_whole (Load input) by f row e = absurd cc
given_whole (Join left left_by right right_by) by f row e = absurd cc
given_whole (Union arms) by f row e = absurd cc
given_whole (Distinct from) by f row e = absurd cc

by_stands : (t : Tree) (k : ℕ) → IsBy t k → (by : Row) (f : Calls) → value_at (whole_row t by f) k ≡ value_at by (by_place t k)
by_stands (Grouped from columns items) k is by f = made_by items k is.0 is.1 by f ∙ ap (value_at by) (sym (item_place-is items k ∙ ap place_in is.1))
by_stands (Filter from c) k is by f = by_stands from k is by f
by_stands (Foreach from items) k is by f =
    made_column items k is.0 is.1 (whole_row from by f) no_calls ∙ by_stands from is.0 is.2 by f
    ∙ ap (λ z. value_at by (by_place from z)) (sym (item_place-is items k ∙ ap place_in is.1))
by_stands Nothing k is by f = absurd is
by_stands (Load input) k is by f = absurd is
by_stands (Join left left_by right right_by) k is by f = absurd is
by_stands (Union arms) k is by f = absurd is
by_stands (Distinct from) k is by f = absurd is

all_stand : (t : Tree) (key : List ℕ) → ((k : ℕ) → In k key → IsBy t k) → (by : Row) (f : Calls) → key_at key (whole_row t by f) ≡ key_at (map (by_place t) key) by
all_stand t [] h by f = refl
all_stand t (k ∷ key) h by f =
    let first = by_stands t k (h k (inl refl)) by f in
    let others = all_stand t key (λ j i. h j (inr i)) by f in
    λ i. first i ∷ others i

in_set : (c : ℕ) (ks : List ℕ) → In c (column_set ks) → In c ks
in_set c [] i = absurd i
in_set c (k ∷ ks) i = go (in_set c ks) (in_with c k (column_set ks) i)
  where
    go : (In c (column_set ks) → In c ks) → (c ≡ k) ⊎ In c (column_set ks) → In c (k ∷ ks)
    go rest (inl same) = inl same
    go rest (inr h) = inr (rest h)

-- ---- plans
pub whole_key : (p : Plan) → IsGroupPlan p → (by : Row) (f : Calls) → key_at p.output.key (whole_row (tree_of_plan p) by f) ≡ out_key p by
unfolding out_key
whole_key p is by f =
    all_stand (tree_of_plan p) p.output.key (λ k i. key_is_by p.inputs (tree_of_plan p) is.shape (column_set p.output.key) is.key k (set_in k p.output.key i)) by f

-- a row stands at the output key of its group
pub given_key : (p : Plan) → IsGroupPlan p → (by : Row) (f : Calls) (row : Row) → (rule_of p).finish by f ≡ Some row → key_at p.output.key row ≡ out_key p by
unfolding rule_of
given_key p is by f row e = ap (key_at p.output.key) (given_whole (tree_of_plan p) by f row e) ∙ whole_key p is by f

-- where the value of a BY column stands among these places of BY values
abbrev spot : List ℕ → List ℕ → ℕ → ℕ
spot columns [] c = 0
spot columns (p ∷ places) c = if is_some c (slice_get columns p) then 0 else suc (spot columns places c)

spot_gives : (columns places : List ℕ) (c : ℕ) (row : Row) (p : ℕ) → In p places → slice_get columns p ≡ Some c → value_at (key_at places (key_at columns row)) (spot columns places c) ≡ value_at row c
spot_gives columns [] c row p i e = absurd i
spot_gives columns (q ∷ places) c row p i e = go (is_some c (slice_get columns q)) refl (λ h. spot_gives columns places c row p h e) i
  where
    by : Row
    by = key_at columns row

    go : (b : Bool) → is_some c (slice_get columns q) ≡ b → (In p places → value_at (key_at places by) (spot columns places c) ≡ value_at row c) → (p ≡ q) ⊎ In p places
        → value_at (value_at by q ∷ key_at places by) (if b then 0 else suc (spot columns places c)) ≡ value_at row c
    go true is rest i = key_value columns row q c (some_is c (slice_get columns q) is)
    go false is rest (inl same) =
        let here : true ≡ false = sym (ap (is_some c) (ap (slice_get columns) (sym same) ∙ e) ∙ nat_eq_equiv.refl c) ∙ is in
        absurd cc
    go false is rest (inr h) = rest h

in_mapped_to : (f : ℕ → ℕ) (k : ℕ) (ks : List ℕ) → In k ks → In (f k) (map f ks)
in_mapped_to f k [] i = absurd i
in_mapped_to f k (j ∷ ks) (inl same) = inl (ap f same)
in_mapped_to f k (j ∷ ks) (inr h) = inr (in_mapped_to f k ks h)

-- the BY values of an output key
abbrev pub by_of : Plan → Row → Row
by_of p q = map (λ c. value_at q (spot (rule_of p).columns (map (by_place (tree_of_plan p)) p.output.key) c)) (rule_of p).columns

each_back : (columns places : List ℕ) (row : Row) (cs : List ℕ) → ((c : ℕ) → In c cs → (p : ℕ) × In p places × (slice_get columns p ≡ Some c))
    → map (λ c. value_at (key_at places (key_at columns row)) (spot columns places c)) cs ≡ key_at cs row
each_back columns places row [] h = refl
each_back columns places row (c ∷ cs) h =
    let p = h c (inl refl) in
    let first = spot_gives columns places c row p.0 p.1 p.2 in
    let others = each_back columns places row cs (λ d i. h d (inr i)) in
    λ i. first i ∷ others i

-- an output key tells its group
pub by_back : (p : Plan) → IsGroupPlan p → (row : Row) → by_of p (out_key p (key_at (rule_of p).columns row)) ≡ key_at (rule_of p).columns row
unfolding out_key rule_of
by_back p is row =
    let t = tree_of_plan p in
    let columns = (or_nothing (parts t)).columns in
    each_back columns (map (by_place t) p.output.key) row columns (λ c i.
    let r = has_place p.inputs t is.shape (column_set p.output.key) is.key c i in
    (by_place t r.0, in_mapped_to (by_place t) r.0 p.output.key (in_set r.0 p.output.key r.1), r.2))
