-- What a commit changes, made anew.
use Rattle.std.specs.Prelude.{◌≡◌, ◌<◌, true, length, slice_set}
use Rattle.nova_meta.specs.Catalog.{Entered, allows, applied}
use Rattle.nova_commit.specs.declared.commit.Commit.{Commit}
use Rattle.nova_meta.specs.declared.prepared.Change.{Change}
use Rattle.nova_meta.specs.declared.prepared.Change.TheVariants.{Begin, Clock, Shelved, Ran, Kept}

-- the catalog with these parts in the place of its own
abbrev pub changed : Entered → Change → Entered
changed cat Begin = record cat { begun = true }
changed cat (Clock moment) = record cat { moment = moment }
changed cat (Shelved c shelf next) = record cat { channels = slice_set cat.channels c shelf; next = next }
changed cat (Ran t progress c shelf next) = record cat { channels = slice_set cat.channels c shelf; tasks = slice_set cat.tasks t progress; next = next }
changed cat (Kept channels) = record cat { channels = channels }

-- its numbers are in range
abbrev pub IsWithin : Entered → Change → Type 0
IsWithin cat Begin = Unit {0}
IsWithin cat (Clock moment) = Unit {0}
IsWithin cat (Shelved c shelf next) = c < length cat.channels
IsWithin cat (Ran t progress c shelf next) = (t < length cat.tasks) × (c < length cat.channels)
IsWithin cat (Kept channels) = length channels ≡ length cat.channels

-- made by this catalog for this commit
pub record IsPrepared (cat : Entered) (commit : Commit) (change : Change) : Type 0 where
  pub allowed : allows cat commit ≡ true
  pub leads : changed cat change ≡ applied cat commit
  pub within : IsWithin cat change
