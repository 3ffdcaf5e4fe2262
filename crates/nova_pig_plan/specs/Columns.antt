-- Which column a reference means.
use Rattle.std.specs.Prelude.{ℕ, suc, Bool, false, ◌&&◌, if◌then◌else◌, nat_eq, nat_lt, List, [], ◌∷◌, map, length, slice_index_or, Option, Some, None, Ok, Err}
use Rattle.std.specs.Cmp.Lexicographic.{pointwise}
use Rattle.nova_value.specs.declared.value.Kind.{Kind}
use Rattle.nova_value.specs.declared.value.Kind.TheVariants as kind
use Rattle.nova_pig_tree.specs.declared.expression.Field.{Field}
use Rattle.nova_pig_tree.specs.declared.expression.Field.TheVariants as field
use Rattle.nova_pig_plan.specs.declared.fault.Cause.TheVariants as fault
use Rattle.nova_pig_plan.specs.declared.scope.ScopeColumn.{ScopeColumn}
use Rattle.nova_pig_plan.specs.Answers.{Answer, if_not}

abbrev pub same_text : List ℕ → List ℕ → Bool
same_text a b = pointwise nat_eq a b

abbrev pub is_text : Option (List ℕ) → List ℕ → Bool
is_text (Some t) name = same_text t name
is_text None name = false

-- the column has this name
abbrev pub is_named : List ℕ → ScopeColumn → Bool
is_named name c = is_text c.name name

-- the column has this name, and this alias as its origin
abbrev pub comes_from : List ℕ → List ℕ → ScopeColumn → Bool
comes_from alias name c = is_text c.origin alias && is_text c.name name

-- the places of the columns that pass, counted from n
abbrev pub places : (ScopeColumn → Bool) → ℕ → List ScopeColumn → List ℕ
places fits n [] = []
places fits n (c ∷ cs) = if fits c then n ∷ places fits (suc n) cs else places fits (suc n) cs

-- UnknownField: a reference names no column. Ambiguous: a name fits more than one column.
abbrev pub the_one : List ℕ → Answer ℕ
the_one [] = Err fault.UnknownField
the_one (k ∷ []) = Ok k
the_one (k ∷ j ∷ ks) = Err fault.Ambiguous

-- the place of the column that a reference means
abbrev pub field_of : List ScopeColumn → Field → Answer ℕ
field_of cs (field.Plain name) = the_one (places (is_named name) 0 cs)
field_of cs (field.Of alias name) = the_one (places (comes_from alias name) 0 cs)
field_of cs (field.GroupOf name) = Err fault.UnknownField
field_of cs (field.At n) = if_not fault.UnknownField (nat_lt n (length cs)) n

abbrev pub kind_at : List ScopeColumn → ℕ → Kind
kind_at cs k = slice_index_or (map (λ c. c.kind) cs) k kind.Long
