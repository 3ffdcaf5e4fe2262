-- Values of rows by their places, and rows that have the constants of their columns.
use Rattle.std.specs.Prelude.{◌≡◌, ◌<◌, ◌+◌, ℕ, zero, suc, List, [], ◌∷◌, ◌++◌, length, slice_get, Option, Some, None, refl}
use Rattle.std.proofs.Common.{ap, ◌∙◌, subst, arith}
use Rattle.nova_value.specs.declared.value.Value.{Value}
use Rattle.nova_value.specs.declared.schema.Column.{Column}
use Rattle.nova_value.specs.Rows.{value_at, key_at, FitKinds, kinds}
use Rattle.nova_pig_algebra.specs.Meaning.{Row}
use Rattle.nova_pig_algebra.specs.Keys.{constant_at, none_constant}

-- rows of one width that agree at a place of their joins agree there
pub at_either : (a b c d : Row) (k : ℕ) → length a ≡ length c → value_at (a ++ b) k ≡ value_at (c ++ d) k → value_at a k ≡ value_at c k
at_either [] b [] d k e h = refl
at_either [] b (w ∷ c) d k e h = absurd (omega arith)
at_either (v ∷ a) b [] d k e h = absurd (omega arith)
at_either (v ∷ a) b (w ∷ c) d zero e h = h
at_either (v ∷ a) b (w ∷ c) d (suc k) e h = at_either a b c d k (omega arith) h

pub at_right : (a b : Row) (n k : ℕ) → length a ≡ n → value_at (a ++ b) (n + k) ≡ value_at b k
at_right [] b n k e = let is : n + k ≡ k = omega arith in ap (value_at b) is
at_right (v ∷ a) b zero k e = absurd (omega arith)
at_right (v ∷ a) b (suc n) k e = let is : suc n + k ≡ suc (n + k) = omega arith in ap (value_at (v ∷ a ++ b)) is ∙ at_right a b n k (omega arith)

pub same_values_at : (a b : Row) → length a ≡ length b → ((k : ℕ) → k < length a → value_at a k ≡ value_at b k) → a ≡ b
same_values_at [] [] e h = refl
same_values_at [] (w ∷ b) e h = absurd (omega arith)
same_values_at (v ∷ a) [] e h = absurd (omega arith)
same_values_at (v ∷ a) (w ∷ b) e h =
    let first = h 0 (omega arith) in
    let rest = same_values_at a b (omega arith) (λ k lt. h (suc k) (omega arith)) in
    λ i. first i ∷ rest i

-- a BY value is the value of its column
pub key_value : (columns : List ℕ) (row : Row) (j k : ℕ) → slice_get columns j ≡ Some k → value_at (key_at columns row) j ≡ value_at row k
key_value [] row j k e = absurd cc
key_value (c ∷ columns) row zero k e = let is : c ≡ k = cc in ap (value_at row) is
key_value (c ∷ columns) row (suc j) k e = key_value columns row j k e

abbrev pub IsConstant : Option Value → Value → Type 0
IsConstant None v = Unit {0}
IsConstant (Some w) v = v ≡ w

-- one value per column, each as constant as it is said
abbrev pub HasConstants : List (Option Value) → Row → Type 0
HasConstants [] [] = Unit {0}
HasConstants [] (v ∷ vs) = ⊥
HasConstants (o ∷ os) [] = ⊥
HasConstants (o ∷ os) (v ∷ vs) = IsConstant o v × HasConstants os vs

pub width_of : (os : List (Option Value)) (row : Row) → HasConstants os row → length row ≡ length os
width_of [] [] h = refl
width_of [] (v ∷ vs) h = absurd h
width_of (o ∷ os) [] h = absurd h
width_of (o ∷ os) (v ∷ vs) h = let rest = width_of os vs h.1 in omega arith

pub constant_is : (os : List (Option Value)) (row : Row) (k : ℕ) (w : Value) → HasConstants os row → constant_at os k ≡ Some w → value_at row k ≡ w
constant_is [] row k w h e = absurd cc
constant_is (o ∷ os) [] k w h e = absurd h
constant_is (o ∷ os) (v ∷ vs) zero w h e = subst (λ z. IsConstant z v) e h.0
constant_is (o ∷ os) (v ∷ vs) (suc k) w h e = constant_is os vs k w h.1 e

pub none_has : {A : Type 0} (xs : List A) (row : Row) → length row ≡ length xs → HasConstants (none_constant xs) row
none_has [] [] e = tt
none_has [] (v ∷ vs) e = absurd (omega arith)
none_has (x ∷ xs) [] e = absurd (omega arith)
none_has (x ∷ xs) (v ∷ vs) e = (tt, none_has xs vs (omega arith))

pub append_has : (os ps : List (Option Value)) (a b : Row) → HasConstants os a → HasConstants ps b → HasConstants (os ++ ps) (a ++ b)
append_has [] ps [] b f g = g
append_has [] ps (v ∷ vs) b f g = absurd f
append_has (o ∷ os) ps [] b f g = absurd f
append_has (o ∷ os) ps (v ∷ vs) b f g = (f.0, append_has os ps vs b f.1 g)

pub fit_width : (cs : List Column) (row : Row) → FitKinds (kinds cs) row → length row ≡ length cs
fit_width [] [] h = refl
fit_width [] (v ∷ vs) h = absurd h
fit_width (c ∷ cs) [] h = absurd h
fit_width (c ∷ cs) (v ∷ vs) h = let rest = fit_width cs vs h.1 in omega arith
