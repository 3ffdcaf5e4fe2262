-- What one call on a disk in memory does.
use Rattle.std.specs.Prelude.{◌≡◌, ℕ, List, ◌∷◌, Option, reverse}
use Rattle.nova_outside.specs.Disk.{Files}
use Rattle.nova_outside.specs.History.{Event, Change, current}
use Rattle.nova_outside.specs.History.Event.{OnFile}
use Rattle.nova_mem.specs.declared.parts.Deed.{Deed}
use Rattle.nova_mem.specs.Deeds.{with_file, files_before, replies_before, event_of}

-- One deed more: this change of a file, which now is this.
pub record Does (change : Change) (file : ℕ) (now : Option (List ℕ)) (old_deeds new_deeds : List Deed) (old_files new_files : Files) : Type 0 where
  pub deed : Deed
  pub newest : reverse new_deeds ≡ deed ∷ reverse old_deeds
  pub files : (n : ℕ) → new_files n ≡ with_file file now old_files n
  pub undone : (n : ℕ) → files_before deed new_files n ≡ old_files n
  pub said : (said : List ℕ) → replies_before deed said ≡ said
  pub event : (said : List ℕ) (earlier : List Event) → current earlier file ≡ old_files file → event_of deed new_files said earlier ≡ OnFile change file now
