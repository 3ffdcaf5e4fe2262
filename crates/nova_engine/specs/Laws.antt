-- What follows of a call from what it tells.
use Rattle.std.specs.Prelude.{◌≡◌, ◌≢◌, ◌⊎◌, ℕ, ◌+◌, ◌<◌, ◌≤◌, ◌^◌, List, [], ◌∷◌, ◌++◌, length, map, Option, Some}
use Rattle.nova_outside.specs.Disk.{Files}
use Rattle.nova_outside.specs.History.{current, replies}
use Rattle.nova_commit.specs.declared.commit.Commit.{Commit}
use Rattle.nova_commit.specs.Commits.{commit_bytes}
use Rattle.nova_value.specs.declared.schema.Entry.{Entry}
use Rattle.nova_journal.specs.Log.{records}
use Rattle.nova_meta.specs.Catalog.{Entered, shelf_at, total}
use Rattle.nova_meta.specs.Named.{Channel}
use Rattle.nova_machine.specs.State.{State, ended, newest}
use Rattle.nova_machine.specs.Steps.{Load, Step, after, after_all}
use Rattle.nova_machine.specs.Replies.{text}
use Rattle.nova_machine.specs.Reachable.{IsReachable}
use Rattle.nova_runner.specs.Acts.{IsFull, behind, catalog_behind, own_commit}
use Rattle.nova_runner.specs.Files.{bytes_of}
use Rattle.nova_runner.specs.Stands.{FilesStand, StandsBy}
use Rattle.nova_engine.specs.Seen.{Seen}
use Rattle.nova_engine.specs.Sessions.{FullNext, SessionTold, session_steps}
use Rattle.nova_engine.specs.Told.{RunTold}
use Rattle.nova_engine.specs.Turns.{own_commits}
use Rattle.nova_engine.specs.declared.status.Status.{Status}
use Rattle.nova_engine.specs.declared.status.Status.TheVariants.{Done, ReadFault, DiskFault, ReplyFault, NoMemory, Damaged}

-- no step of a session meets a bound, whatever the files are
abbrev pub HasRoom : ℕ → List Commit → Entered → State → List Step → Type 0
HasRoom x commits cat opened xs = (done later : List Step) (files : Files) → xs ≡ done ++ later → FullNext x commits cat opened done later files → ⊥

-- the same by lists and numbers alone: behind the steps before it no step's own commit is full, in a journal that has their commits
abbrev pub HasRoomInTurn : List Commit → Entered → State → List Step → Type 0
HasRoomInTurn commits cat s [] = Unit {0}
HasRoomInTurn commits cat s (x ∷ xs) =
    ((own : Commit) → own_commit cat s x ≡ Some own → IsFull (length (records (map commit_bytes commits)) + 1) cat own → ⊥)
    × HasRoomInTurn (behind commits (own_commit cat s x)) (catalog_behind cat (own_commit cat s x)) (after s x) xs

-- So it is a matter of these and not of files, and steps that add no commit have room.
abbrev pub RoomIsByTurns : Type 0
RoomIsByTurns = (x : ℕ) (commits : List Commit) (cat : Entered) (opened : State) (xs : List Step) → HasRoomInTurn commits cat opened xs → HasRoom x commits cat opened xs

abbrev pub NoCommitsHaveRoom : Type 0
NoCommitsHaveRoom = (x : ℕ) (commits : List Commit) (cat : Entered) (opened : State) (xs : List Step) → own_commits cat opened xs ≡ [] → HasRoom x commits cat opened xs

-- A load has room in a journal that leaves 30 bytes of 2^62, where its channel's version and the next block are below 2^62 and the channel's blocks have at most as many bytes with its own.
abbrev pub LoadsHaveRoom : Type 0
LoadsHaveRoom = (commits : List Commit) (cat : Entered) (s : State) (c : ℕ) (entries : List Entry) (xs : List Step) →
    length (records (map commit_bytes commits)) + 31 ≤ 2 ^ 62 → (shelf_at cat c).version < 2 ^ 62 → cat.next < 2 ^ 62
    → total (shelf_at cat c) + length (bytes_of (after s (Load c entries)) (Channel c (newest s c) (newest s c + 1))) ≤ 2 ^ 62
    → HasRoomInTurn (behind commits (own_commit cat s (Load c entries))) (catalog_behind cat (own_commit cat s (Load c entries))) (after s (Load c entries)) xs
    → HasRoomInTurn commits cat s (Load c entries ∷ xs)

-- Where the files stood for a state, no call failed, and no bound was met, all of the text was replied, or memory ran out.
abbrev pub Completeness : Type 0
Completeness = (status : Status) (x : ℕ) (commits : List Commit) (cat : Entered) (opened : State) (input : List ℕ) (left : Option (List ℕ)) (a b : Seen)
    → RunTold status input left a b → IsReachable opened → StandsBy x commits cat (current a.history) (ended opened)
    → status ≢ ReadFault → status ≢ DiskFault → status ≢ ReplyFault
    → length input ≤ 2 ^ 40
    → HasRoom x commits cat (ended opened) (session_steps (ended opened) input)
    → (status ≡ NoMemory)
    ⊎ ((status ≡ Done) × (replies b.history ≡ replies a.history ++ text (ended opened) (session_steps (ended opened) input))
    × FilesStand (current b.history) (after_all (ended opened) (session_steps (ended opened) input)))

-- 9 isn't told where the files stood for a state
abbrev pub NoDamageWhereFilesStand : Type 0
NoDamageWhereFilesStand = (status : Status) (x : ℕ) (commits : List Commit) (cat : Entered) (opened : State) (input taken : List ℕ) (a b : Seen)
    → IsReachable opened → StandsBy x commits cat (current a.history) (ended opened) → SessionTold status x commits cat (ended opened) input taken a b → status ≢ Damaged
