use Rattle.std.proofs.Common.{◌∷◌, [], pos, negsuc, refl, arith}
use Rattle.nova_value.specs.declared.value.Value.TheVariants.{Long}
use Rattle.nova_delta.specs.Seen.{AreRows}
use Rattle.nova_channel_cases.specs.Examples.{two_longs}
use Rattle.nova_channel_cases.proofs.table.three_rows.Goals as goal
use Rattle.std.specs.List.{IsDistinct}

three : AreRows two_longs ((Long (pos 3) ∷ Long (pos 30) ∷ []) ∷ (Long (negsuc 0) ∷ Long (pos 10) ∷ []) ∷ (Long (pos 2) ∷ Long (pos 20) ∷ []) ∷ [])
unfolding IsDistinct
three = record {
  fit = ((omega arith, (omega arith, tt)), ((omega arith, (omega arith, tt)), ((omega arith, (omega arith, tt)), tt)));
  distinct = ((refl, (refl, tt)), ((refl, tt), (tt, tt)));
}

pub from_rows-requires : goal.from_rows-requires
from_rows-requires c = rw (c.in_ok-schema.ensures, c.in_ok-rows.ensures.items, c.in_ok-first.ensures, c.in_ok-second.ensures, c.in_ok-third.ensures) three
