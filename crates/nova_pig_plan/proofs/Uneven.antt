-- Lists of kinds.
use Rattle.std.proofs.Common.{◌≡◌, suc, Bool, true, false, ◌&&◌, List, [], ◌∷◌, length, refl, ap}
use Rattle.nova_pig_plan.specs.declared.scope.ScopeColumn.{ScopeColumn}
use Rattle.nova_pig_plan.specs.Items.{same_kind}
use Rattle.nova_pig_plan.specs.Plans.{same_kinds}

-- lists of other lengths have other kinds
pub uneven : (a b : List ScopeColumn) → (length a ≡ length b → ⊥) → false ≡ same_kinds a b
uneven [] [] h = absurd (h refl)
uneven [] (d ∷ ds) h = refl
uneven (c ∷ cs) [] h = refl
uneven (c ∷ cs) (d ∷ ds) h = step (same_kind c.kind d.kind) (uneven cs ds (λ e. h (ap suc e)))
  where
    step : (b : Bool) → false ≡ same_kinds cs ds → false ≡ (b && same_kinds cs ds)
    step true e = e
    step false e = refl
