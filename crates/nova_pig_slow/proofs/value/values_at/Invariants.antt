use Rattle.std.proofs.Common.{◌≡◌, map, take}
use Rattle.nova_value.specs.Rows.{value_at}
use Rattle.nova_pig_slow.proofs.value.values_at.Given as goal

abbrev pub invariant-loop-row : goal.invariant-loop-row
invariant-loop-row l = l.values.items ≡ map (λ row. value_at row l.place) (take l.row-index l.rows)
