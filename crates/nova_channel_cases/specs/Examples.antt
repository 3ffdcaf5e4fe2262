-- The schema of the cases, the workflow of their channel, and a test of its intervals.
use Rattle.std.specs.Prelude.{[], ◌∷◌, None, Bool, ◌^◌, nat_lt}
use Rattle.nova_value.specs.declared.value.Kind.TheVariants.{Long}
use Rattle.nova_value.specs.Rows.{Shape}
use Rattle.nova_meta.specs.declared.wiring.Wiring.{Wiring}
use Rattle.nova_path.specs.declared.interval.Interval.{Interval}

-- two numbers, the first of them the key
abbrev pub two_longs : Shape
two_longs = record { columns = record { name = 107 ∷ []; kind = Long } ∷ record { name = 118 ∷ []; kind = Long } ∷ []; key = 0 ∷ [] }

-- a channel that loads write
abbrev pub one_input : Wiring
one_input = record { writers = None ∷ []; tasks = [] }

-- the block's number has a file
abbrev pub is_low : Interval → Bool
is_low x = nat_lt x.block (2 ^ 62)
