-- Places of columns, one column after another.
use Rattle.std.proofs.Common.{◌≡◌, ℕ, Bool, List, [], ◌∷◌, ◌++◌, drop, Option, Some, None}
use Rattle.nova_pig_plan.specs.declared.scope.ScopeColumn.{ScopeColumn}
use Rattle.nova_pig_plan.specs.Columns.{places}

abbrev pub held : Option ℕ → List ℕ
held None = []
held (Some k) = k ∷ []

-- what is found, and the places from i on, are all places
abbrev pub Sought : (ScopeColumn → Bool) → List ScopeColumn → Option ℕ → ℕ → Type 0
Sought fits cs found i = places fits 0 cs ≡ held found ++ places fits i (drop i cs)
