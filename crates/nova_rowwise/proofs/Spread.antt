-- A row-wise tree makes its rows of each row by itself.
use Rattle.std.specs.Prelude.{◌≡◌, ◌⊎◌, ℕ, zero, suc, List, [], ◌∷◌, ◌++◌, map, filter, refl}
use Rattle.std.proofs.Common.{ap, sym, ◌∙◌, inl, inr, subst}
use Rattle.nova_value.specs.Rows.{Shape, key_at}
use Rattle.nova_pig_algebra.specs.Meaning.{Row, same_row, made, holds, no_calls}
use Rattle.nova_pig_algebra.specs.Tree.{Tree, Nothing, Load, Filter, Foreach, Grouped, Join, Union, Distinct, Arms, End, Arm, rows, arm_rows, rows_at}
use Rattle.nova_pig_algebra.specs.Statements.{In}
use Rattle.nova_pig_algebra.proofs.Lists.{in_left, in_either, in_filtered, in_mapped, in_flattened}
use Rattle.nova_pig_pattern.specs.Shapes.{IsChain, IsStateless, AreStateless, IsLookup}
use Rattle.nova_rowwise.specs.Derived.{with_main}
use Rattle.nova_rowwise.proofs.Members.{in_right, in_filter, in_map, in_flat}

-- a row chain over an input other than the main one
abbrev pub Avoids : ℕ → Tree → Type 0
Avoids main (Load i) = i ≡ main → ⊥
Avoids main (Filter from cond) = Avoids main from
Avoids main (Foreach from items) = Avoids main from
Avoids main Nothing = ⊥
Avoids main (Grouped from columns items) = ⊥
Avoids main (Join left left_by right right_by) = ⊥
Avoids main (Union arms) = ⊥
Avoids main (Distinct from) = ⊥

abbrev mutual
  -- made from LOAD of the main input by FILTER, FOREACH not grouped, UNION, and JOIN with lookup tables
  pub IsRowwise : ℕ → Tree → Type 0
  IsRowwise main Nothing = ⊥
  IsRowwise main (Load i) = i ≡ main
  IsRowwise main (Filter from cond) = IsRowwise main from
  IsRowwise main (Foreach from items) = IsRowwise main from
  IsRowwise main (Grouped from columns items) = ⊥
  IsRowwise main (Join left left_by right right_by) = IsRowwise main left × Avoids main right
  IsRowwise main (Union arms) = AreRowwise main arms
  IsRowwise main (Distinct from) = ⊥

  pub AreRowwise : ℕ → Arms → Type 0
  AreRowwise main End = Unit {0}
  AreRowwise main (Arm arm arms) = IsRowwise main arm × AreRowwise main arms

pub main_is : (k : ℕ) (ts : List (List Row)) (m : List Row) → rows_at (with_main k ts m) k ≡ m
main_is zero ts m = refl
main_is (suc k) [] m = main_is k [] m
main_is (suc k) (t ∷ ts) m = main_is k ts m

pub others_are : (k : ℕ) (ts : List (List Row)) (m n : List Row) (i : ℕ) → (i ≡ k → ⊥) → rows_at (with_main k ts m) i ≡ rows_at (with_main k ts n) i
others_are zero ts m n zero other = absurd (other refl)
others_are zero ts m n (suc i) other = refl
others_are (suc k) [] m n zero other = refl
others_are (suc k) (t ∷ ts) m n zero other = refl
others_are (suc k) [] m n (suc i) other = others_are k [] m n i (λ e. other (ap suc e))
others_are (suc k) (t ∷ ts) m n (suc i) other = others_are k ts m n i (λ e. other (ap suc e))

module _ (main : ℕ) (ts : List (List Row)) where
  abbrev pub given : Tree → List Row → List Row
  given t m = rows t (with_main main ts m)

  abbrev pub given_arms : Arms → List Row → List Row
  given_arms arms m = arm_rows arms (with_main main ts m)

  pub avoided : (t : Tree) → Avoids main t → (m n : List Row) → given t m ≡ given t n
  avoided Nothing a m n = refl
  avoided (Load i) a m n = others_are main ts m n i a
  avoided (Filter from cond) a m n = ap (filter (λ row. holds cond row no_calls)) (avoided from a m n)
  avoided (Foreach from items) a m n = ap (map (λ row. made items row no_calls)) (avoided from a m n)
  avoided (Grouped from columns items) a m n = absurd a
  avoided (Join left left_by right right_by) a m n = absurd a
  avoided (Union arms) a m n = absurd a
  avoided (Distinct from) a m n = absurd a

  -- from one row of the main table
  abbrev FromOne : (List Row → List Row) → List Row → Row → Type 0
  FromOne f m x = (r : Row) × In r m × In x (f (r ∷ []))

  by_arm : (arm : Tree) (arms : Arms) (m : List Row) (x : Row) → (In x (given arm m) → FromOne (given arm) m x) → (In x (given_arms arms m) → FromOne (given_arms arms) m x)
      → In x (given arm m) ⊎ In x (given_arms arms m) → FromOne (given_arms (Arm arm arms)) m x
  by_arm arm arms m x first rest (inl j) = let r = first j in (r.0, r.1, in_left x (given arm (r.0 ∷ [])) (given_arms arms (r.0 ∷ [])) r.2)
  by_arm arm arms m x first rest (inr j) = let r = rest j in (r.0, r.1, in_right x (given arm (r.0 ∷ [])) (given_arms arms (r.0 ∷ [])) r.2)

  mutual
    pub goes : (t : Tree) → IsRowwise main t → (m : List Row) (x : Row) → In x (given t m) → FromOne (given t) m x
    goes Nothing w m x i = absurd w
    goes (Load k) w m x i =
        let here : rows_at (with_main main ts m) k ≡ m = ap (rows_at (with_main main ts m)) w ∙ main_is main ts m in
        let there : rows_at (with_main main ts (x ∷ [])) k ≡ x ∷ [] = ap (rows_at (with_main main ts (x ∷ []))) w ∙ main_is main ts (x ∷ []) in
        (x, subst (In x) here i, subst (In x) (sym there) (inl refl))
    goes (Filter from cond) w m x i =
        let p = in_filtered (λ row. holds cond row no_calls) x (given from m) i in
        let r = goes from w m x p.0 in
        (r.0, r.1, in_filter (λ row. holds cond row no_calls) x (given from (r.0 ∷ [])) r.2 p.1)
    goes (Foreach from items) w m x i =
        let p = in_mapped (λ row. made items row no_calls) x (given from m) i in
        let r = goes from w m p.0 p.1 in
        (r.0, r.1, subst (λ y. In y (given (Foreach from items) (r.0 ∷ []))) (sym p.2) (in_map (λ row. made items row no_calls) p.0 (given from (r.0 ∷ [])) r.2))
    goes (Grouped from columns items) w m x i = absurd w
    goes (Join left left_by right right_by) w m x i =
        let of : List Row → Row → List Row = λ b_rows a. map (λ b. a ++ b) (filter (λ b. same_row (key_at left_by a) (key_at right_by b)) b_rows) in
        let p = in_flattened (of (given right m)) x (given left m) i in
        let r = goes left w.0 m p.0 p.1 in
        (r.0, r.1, in_flat (of (given right (r.0 ∷ []))) p.0 x (given left (r.0 ∷ [])) r.2 (subst (λ b_rows. In x (of b_rows p.0)) (avoided right w.1 m (r.0 ∷ [])) p.2))
    goes (Union arms) w m x i = goes_arms arms w m x i
    goes (Distinct from) w m x i = absurd w

    pub goes_arms : (arms : Arms) → AreRowwise main arms → (m : List Row) (x : Row) → In x (given_arms arms m) → FromOne (given_arms arms) m x
    goes_arms End w m x i = absurd i
    goes_arms (Arm arm arms) w m x i = by_arm arm arms m x (λ j. goes arm w.0 m x j) (λ j. goes_arms arms w.1 m x j) (in_either x (given arm m) (given_arms arms m) i)

  arm_comes : (arm : Tree) (arms : Arms) (m one : List Row) (x : Row) → (In x (given arm one) → In x (given arm m)) → (In x (given_arms arms one) → In x (given_arms arms m))
      → In x (given arm one) ⊎ In x (given_arms arms one) → In x (given_arms (Arm arm arms) m)
  arm_comes arm arms m one x first rest (inl j) = in_left x (given arm m) (given_arms arms m) (first j)
  arm_comes arm arms m one x first rest (inr j) = in_right x (given arm m) (given_arms arms m) (rest j)

  mutual
    pub comes : (t : Tree) → IsRowwise main t → (m : List Row) (r x : Row) → In r m → In x (given t (r ∷ [])) → In x (given t m)
    comes Nothing w m r x j i = absurd w
    comes (Load k) w m r x j i = go (subst (In x) there i)
      where
        here : rows_at (with_main main ts m) k ≡ m
        here = ap (rows_at (with_main main ts m)) w ∙ main_is main ts m

        there : rows_at (with_main main ts (r ∷ [])) k ≡ r ∷ []
        there = ap (rows_at (with_main main ts (r ∷ []))) w ∙ main_is main ts (r ∷ [])

        go : In x (r ∷ []) → In x (rows_at (with_main main ts m) k)
        go (inl e) = subst (In x) (sym here) (subst (λ y. In y m) (sym e) j)
        go (inr no_more) = absurd no_more
    comes (Filter from cond) w m r x j i =
        let p = in_filtered (λ row. holds cond row no_calls) x (given from (r ∷ [])) i in
        in_filter (λ row. holds cond row no_calls) x (given from m) (comes from w m r x j p.0) p.1
    comes (Foreach from items) w m r x j i =
        let p = in_mapped (λ row. made items row no_calls) x (given from (r ∷ [])) i in
        subst (λ y. In y (given (Foreach from items) m)) (sym p.2) (in_map (λ row. made items row no_calls) p.0 (given from m) (comes from w m r p.0 j p.1))
    comes (Grouped from columns items) w m r x j i = absurd w
    comes (Join left left_by right right_by) w m r x j i =
        let of : List Row → Row → List Row = λ b_rows a. map (λ b. a ++ b) (filter (λ b. same_row (key_at left_by a) (key_at right_by b)) b_rows) in
        let p = in_flattened (of (given right (r ∷ []))) x (given left (r ∷ [])) i in
        in_flat (of (given right m)) p.0 x (given left m) (comes left w.0 m r p.0 j p.1) (subst (λ b_rows. In x (of b_rows p.0)) (avoided right w.1 (r ∷ []) m) p.2)
    comes (Union arms) w m r x j i = comes_arms arms w m r x j i
    comes (Distinct from) w m r x j i = absurd w

    pub comes_arms : (arms : Arms) → AreRowwise main arms → (m : List Row) (r x : Row) → In r m → In x (given_arms arms (r ∷ [])) → In x (given_arms arms m)
    comes_arms End w m r x j i = absurd i
    comes_arms (Arm arm arms) w m r x j i = arm_comes arm arms m (r ∷ []) x (λ k. comes arm w.0 m r x j k) (λ k. comes_arms arms w.1 m r x j k) (in_either x (given arm (r ∷ [])) (given_arms arms (r ∷ [])) i)

mutual
  pub stateless_rowwise : (main : ℕ) (t : Tree) → IsStateless main t → IsRowwise main t
  stateless_rowwise main Nothing w = absurd w
  stateless_rowwise main (Load i) w = w
  stateless_rowwise main (Filter from cond) w = stateless_rowwise main from w
  stateless_rowwise main (Foreach from items) w = stateless_rowwise main from w
  stateless_rowwise main (Grouped from columns items) w = absurd w
  stateless_rowwise main (Join left left_by right right_by) w = absurd w
  stateless_rowwise main (Union arms) w = stateless_arms main arms w
  stateless_rowwise main (Distinct from) w = absurd w

  stateless_arms : (main : ℕ) (arms : Arms) → AreStateless main arms → AreRowwise main arms
  stateless_arms main End w = tt
  stateless_arms main (Arm arm arms) w = (stateless_rowwise main arm w.0, stateless_arms main arms w.1)

avoids : (input main : ℕ) (t : Tree) → IsChain input t → (input ≡ main → ⊥) → Avoids main t
avoids input main (Load i) w other = λ e. other (sym w ∙ e)
avoids input main (Filter from cond) w other = avoids input main from w other
avoids input main (Foreach from items) w other = avoids input main from w other
avoids input main Nothing w other = absurd w
avoids input main (Grouped from columns items) w other = absurd w
avoids input main (Join left left_by right right_by) w other = absurd w
avoids input main (Union arms) w other = absurd w
avoids input main (Distinct from) w other = absurd w

pub lookup_rowwise : (inputs : List Shape) (main : ℕ) (t : Tree) → IsLookup inputs main t → IsRowwise main t
lookup_rowwise inputs main (Load i) w = w
lookup_rowwise inputs main (Filter from cond) w = lookup_rowwise inputs main from w
lookup_rowwise inputs main (Foreach from items) w = lookup_rowwise inputs main from w
lookup_rowwise inputs main (Join left left_by right right_by) w = (lookup_rowwise inputs main left w.0, avoids w.1.0.0 main right w.1.0.1 w.1.0.2)
lookup_rowwise inputs main (Union arms) w = absurd w
lookup_rowwise inputs main Nothing w = absurd w
lookup_rowwise inputs main (Grouped from columns items) w = absurd w
lookup_rowwise inputs main (Distinct from) w = absurd w
