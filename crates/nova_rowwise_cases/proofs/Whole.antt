-- A list without what stands at a place, and that put back.
use Rattle.std.specs.Prelude.{◌≡◌, ℕ, zero, suc, List, [], ◌∷◌, ◌++◌, slice_get, Some}
use Rattle.std.proofs.Common.{ap, take, drop}
use Rattle.nova_value.specs.Rows.{Shape}
use Rattle.nova_rowwise.specs.Derived.{with_main_schema}

pub whole : (k : ℕ) (ss : List Shape) (own : Shape) → slice_get ss k ≡ Some own → with_main_schema k (take k ss ++ drop (suc k) ss) own ≡ ss
whole k [] own e = absurd cc
whole zero (s ∷ ss) own e = let same : own ≡ s = cc in ap (λ x. x ∷ ss) same
whole (suc k) (s ∷ ss) own e = ap (λ xs. s ∷ xs) (whole k ss own e)
