-- The worked tasks, by the definitions alone.
use Rattle.std.specs.Prelude.{[], ◌∷◌, refl}
use Rattle.std.proofs.Common.{inl, inr, arith}
use Rattle.nova_value.specs.declared.value.Kind.TheVariants as kind
use Rattle.nova_value.proofs.Shapes.{shape_from_test}
use Rattle.nova_pig_algebra.specs.Sorts.{Row}
use Rattle.nova_pig_algebra.specs.Plan.{IsPlan}
use Rattle.nova_pig_algebra.specs.Tree.{trees_after}
use Rattle.nova_rowwise.specs.Worked.{copy, join, CopyIsARowTask, JoinIsARowTask}

copy_is_plan : IsPlan copy
copy_is_plan = record { kinded = record { all = Row (kind.Long ∷ kind.Text ∷ kind.Long ∷ []) ∷ []; nodes = refl; stored = refl }; literals = refl }

join_is_plan : IsPlan join
join_is_plan = record {
  kinded = record {
    all = Row (kind.Long ∷ kind.Text ∷ kind.Long ∷ []) ∷ Row (kind.Text ∷ kind.Text ∷ []) ∷ Row (kind.Long ∷ kind.Text ∷ kind.Long ∷ kind.Text ∷ kind.Text ∷ []) ∷ [];
    nodes = refl;
    stored = refl;
  };
  literals = refl;
}

pub copy_is_row_task : CopyIsARowTask
unfolding trees_after
copy_is_row_task = (
  record { plan = copy_is_plan; row = record { key = refl; shape = inl refl }; main = refl; place = omega arith; inputs = refl; output = refl; shape = shape_from_test _ refl },
  refl,
)

pub join_is_row_task : JoinIsARowTask
unfolding trees_after
join_is_row_task = record {
  plan = join_is_plan;
  row = record { key = refl; shape = inr (0, (refl, ((1, refl, λ e. absurd cc), (0 ∷ [], refl, refl))), refl) };
  main = refl;
  place = omega arith;
  inputs = refl;
  output = refl;
  shape = shape_from_test _ refl;
}
