-- The worked catalogs come out by their definitions.
use Rattle.std.proofs.Common.{refl}
use Rattle.nova_path.specs.Shelf as shelf
use Rattle.nova_meta.specs.Worked.{CountersEnd, ClockAndCursors}

pub counters_end : CountersEnd
unfolding shelf.chosen_path
counters_end = record {
  nothing = record { loads = refl; runs = refl; joins = refl };
  two_blocks_below = record { loads = refl; runs = refl; joins = refl };
  a_block_below = record { loads = refl; runs = refl; joins = refl };
  next_block = record { loads = refl; runs = refl; joins = refl };
  a_version_below = record { loads = refl; runs = refl; joins = refl };
  versions = record { loads = refl; runs = refl; joins = refl };
  a_run_below = record { loads = refl; runs = refl; joins = refl };
  run_count = record { loads = refl; runs = refl; joins = refl };
}

pub clock_and_cursors : ClockAndCursors
clock_and_cursors = record { clock = refl; before = refl; cursor = refl }
