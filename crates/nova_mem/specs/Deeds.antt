-- What a disk in memory keeps of its calls, and the history that it tells. All is told from the newest deed back.
use Rattle.std.specs.Prelude.{ℕ, zero, suc, ◌-◌, List, [], ◌∷◌, length, take, drop, nat_eq, Bool, true, not, if◌then◌else◌, Option, Some, None, option_map, Vec, vec_items}
use Rattle.std.specs.BTreeMap.{BTreeMap, get}
use Rattle.std.specs.declared.alloc.Global.{Global}
use Rattle.std.specs.Ordering.{nat_cmp}
use Rattle.nova_outside.specs.Disk.{Files, overlaid}
use Rattle.nova_outside.specs.History.{Event, current}
use Rattle.nova_outside.specs.History.Event.{OnFile, Replied as AddsReply}
use Rattle.nova_outside.specs.History.Change.{Created as IsCreated, Written as IsWritten, Synced as IsSynced, Removed as IsRemoved}
use Rattle.nova_mem.specs.declared.parts.Deed.{Deed}
use Rattle.nova_mem.specs.declared.parts.Deed.TheVariants.{Created, Written, Synced, Removed, Replied}

-- the files that a map keeps
abbrev pub view : BTreeMap ℕ (Vec ℕ Global) → Files
view files n = option_map vec_items (get nat_cmp files n)

-- the files with this one in the place of that of its number
abbrev pub with_file : ℕ → Option (List ℕ) → Files → Files
with_file number file files n = if nat_eq number n then file else files n

-- the deed is on no file, or on another than this one
abbrev pub is_apart : ℕ → Deed → Bool
is_apart file (Created other before) = not (nat_eq other file)
is_apart file (Written other at count over length) = not (nat_eq other file)
is_apart file (Synced other) = not (nat_eq other file)
is_apart file (Removed other before) = not (nat_eq other file)
is_apart file (Replied count) = true

-- the files before a deed, by those after it
abbrev pub files_before : Deed → Files → Files
files_before (Created file before) files = with_file file (option_map vec_items before) files
files_before (Written file at count over length) files = with_file file (option_map (λ after. take length (overlaid at over.items after)) (files file)) files
files_before (Synced file) files = files
files_before (Removed file before) files = with_file file (option_map vec_items before) files
files_before (Replied count) files = files

-- the replies before a deed, by those after it
abbrev pub replies_before : Deed → List ℕ → List ℕ
replies_before (Created file before) said = said
replies_before (Written file at count over length) said = said
replies_before (Synced file) said = said
replies_before (Removed file before) said = said
replies_before (Replied count) said = take (length said - count) said

-- the bytes of a file, none of one that is absent
abbrev pub bytes_in : Option (List ℕ) → List ℕ
bytes_in None = []
bytes_in (Some bytes) = bytes

-- bytes written at an offset of a file, after these events
abbrev pub wrote : ℕ → List ℕ → ℕ → List Event → Event
wrote at bytes file earlier = OnFile (IsWritten at (length bytes)) file (option_map (overlaid at bytes) (current earlier file))

-- a deed as the host tells it, by the files and replies after it and the events before it
abbrev pub event_of : Deed → Files → List ℕ → List Event → Event
event_of (Created file before) files said earlier = OnFile IsCreated file (Some (bytes_in (files file)))
event_of (Written file at count over length) files said earlier = wrote at (take count (drop at (bytes_in (files file)))) file earlier
event_of (Synced file) files said earlier = OnFile IsSynced file (current earlier file)
event_of (Removed file before) files said earlier = OnFile IsRemoved file None
event_of (Replied count) files said earlier = AddsReply (drop (length said - count) said)

-- a file that is there was made and synced as it is
abbrev pub settled_file : ℕ → Option (List ℕ) → List Event → List Event
settled_file n None earlier = earlier
settled_file n (Some bytes) earlier = OnFile IsSynced n (Some bytes) ∷ OnFile IsCreated n (Some bytes) ∷ earlier

-- the same for all files up to this number
unfoldable pub settled : ℕ → Files → List Event
settled zero files = settled_file 0 (files 0) []
settled (suc n) files = settled_file (suc n) (files (suc n)) (settled n files)

-- the history: these deeds, the newest first, on files of which those up to a number were settled
abbrev pub told : List Deed → ℕ → Files → List ℕ → List Event
told [] base files said = AddsReply said ∷ settled base files
told (deed ∷ deeds) base files said = let earlier = told deeds base (files_before deed files) (replies_before deed said) in event_of deed files said earlier ∷ earlier
