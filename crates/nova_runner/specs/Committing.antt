-- Blocks, and the commit that brings them.
use Rattle.std.specs.Prelude.{◌≡◌, ◌≢◌, ◌⊎◌, ℕ, ◌<◌, ◌≤◌, ◌+◌, ◌^◌, Bool, true, List, [], ◌∷◌, ◌++◌, length, map, Some, IsTrue}
use Rattle.std.specs.List.{AllByRecursion}
use Rattle.nova_outside.specs.Disk.{Files, Only, SameOutcomes}
use Rattle.nova_outside.specs.History.{Event, Outcome, current, replies}
use Rattle.nova_delta.specs.Merge.{DeltaValue}
use Rattle.nova_row_codec.specs.Spelling.{spelling_of}
use Rattle.nova_channel.specs.Reading.{block_file}
use Rattle.nova_journal.specs.Log.{frame}
use Rattle.nova_path.specs.Lists.{IsOneOf}
use Rattle.nova_path.specs.Shelf.{Span, HasPath}
use Rattle.nova_commit.specs.Commits.{Fits, commit_bytes}
use Rattle.nova_meta.specs.Catalog.{Entered, allows, applied}
use Rattle.nova_meta.specs.Prepared.{IsPrepared}
use Rattle.nova_commit.specs.declared.commit.Commit.{Commit}
use Rattle.nova_machine.specs.State.{State, ended, kept_at}
use Rattle.nova_machine.specs.Needed.{hops}
use Rattle.nova_machine.specs.Reachable.{IsReachable}
use Rattle.nova_runner.specs.Acts.{LeavesOthers, brought, load_block, load_commit}
use Rattle.nova_runner.specs.Files.{AreEmpty, Piece, IsNamed, IsSettled, bytes_of}
use Rattle.nova_runner.specs.Flights.{flights_of}
use Rattle.nova_runner.specs.Held.{Held}
use Rattle.nova_runner.specs.Opening.{IsRead}
use Rattle.nova_runner.specs.Readable.{IsReadable}
use Rattle.nova_runner.specs.Stands.{drawn, sketch}
use Rattle.nova_runner.specs.Steps.{IsLeft, LosesNone, StoreStands}
use Rattle.nova_runner.specs.declared.ready.Fresh.{Fresh}
use Rattle.nova_runner.specs.declared.ready.Ready.{Ready}

abbrev pub number_of : Fresh → ℕ
number_of f = f.block

-- a piece is one of these blocks, with the bytes that the state has for it
abbrev pub IsFresh : State → List Fresh → Piece → Type 0
IsFresh t fresh p = (f : Fresh) × IsOneOf fresh f × (f.block ≡ p.block) × (f.bytes.items ≡ bytes_of t p.content) × (p.size ≡ length f.bytes.items)

-- From a state s that has this catalog a commit leads to t. It is in order, and its catalog draws t; what was named and is so still has the same bytes in t; what it names anew are these blocks with the bytes of t; a state part that its catalog doesn't name is empty in t; and each hop of t has a path. What is in flight stays so.
pub record Leads (cat : Entered) (s t : State) (own : Commit) (fresh : List Fresh) : Type 0 where
  pub fits : Fits own
  pub allowed : allows cat own ≡ true
  pub flow : t.flow ≡ s.flow
  pub reached : IsReachable t
  pub flights : flights_of t ≡ flights_of s
  pub like : drawn (applied cat own) ≡ sketch (ended t)
  pub stay : (p : Piece) → IsNamed cat p → IsNamed (applied cat own) p → bytes_of (ended t) p.content ≡ bytes_of (ended s) p.content
  pub named : (p : Piece) → IsNamed (applied cat own) p → IsNamed cat p ⊎ IsFresh (ended t) fresh p
  pub empty : AreEmpty (applied cat own) (ended t)
  pub paths : (c : ℕ) (h : Span) → IsOneOf (hops (ended t) c) h → HasPath (kept_at (ended t) c).shelf h.from h.to

-- Blocks are those that the commit brings, each once, and none is named by the catalog.
pub record AreSpare (cat : Entered) (own : Commit) (fresh : List Fresh) : Type 0 where
  pub brings : map number_of fresh ≡ brought (Some own)
  pub spare : (p : Piece) (f : Fresh) → IsNamed cat p → IsOneOf fresh f → f.block ≢ p.block
  pub apart : (f g : Fresh) → IsOneOf fresh f → IsOneOf fresh g → f.block ≡ g.block → f ≡ g
  pub low : AllByRecursion (λ (f : Fresh). f.block < 2 ^ 62) fresh

-- each block is in its file, and nothing is pending there
abbrev pub IsPut : List Event → Fresh → Type 0
IsPut h f = (current h (block_file f.block) ≡ Some f.bytes.items) × Only (Some f.bytes.items) (Outcome h (block_file f.block))

abbrev pub ArePut : List Fresh → List Event → Type 0
ArePut fresh h = (f : Fresh) → IsOneOf fresh f → IsPut h f

-- each block's file has its bytes
abbrev pub HaveBytes : List Fresh → Files → Type 0
HaveBytes fresh files = (f : Fresh) → IsOneOf fresh f → files (block_file f.block) ≡ Some f.bytes.items

-- a file of none of these blocks reads as before, and a crash leaves of it what it might have left
pub record LeavesAllBut (fresh : List Fresh) (a b : List Event) : Type 0 where
  pub reads : (n : ℕ) → ((f : Fresh) → IsOneOf fresh f → n ≢ block_file f.block) → current b n ≡ current a n
  pub leaves : (n : ℕ) → ((f : Fresh) → IsOneOf fresh f → n ≢ block_file f.block) → SameOutcomes (Outcome a n) (Outcome b n)

-- What was made ready is of this commit: its frame has room in the journal, and the catalog is prepared for it.
pub record IsReady (store : Held) (own : Commit) (ready : Ready) : Type 0 where
  pub framed : ready.framed.items ≡ frame (commit_bytes own)
  pub prepared : IsPrepared store.catalog own ready.prepared
  pub room : store.journal.length + length ready.framed.items ≤ 2 ^ 62
  pub readable : IsReadable (applied store.catalog own)

-- What was made ready of a load: its block, whose number is the next one, and its commit.
pub record IsLoadReady (store : Held) (c : ℕ) (delta : DeltaValue) (fresh : Fresh) (made : Ready) : Type 0 where
  pub ready : IsReady store (load_commit store.catalog c delta) made
  pub fits : Fits (load_commit store.catalog c delta)
  pub spare : AreSpare store.catalog (load_commit store.catalog c delta) (fresh ∷ [])
  pub number : fresh.block ≡ store.catalog.next
  pub bytes : fresh.bytes.items ≡ spelling_of (load_block store.catalog c delta)

-- the commit was added, from each state that the store stood for and that it leads on from
pub record Added (store new : Held) (commits : List Commit) (own : Commit) (t : State) (a b : List Event) : Type 0 where
  pub stands : StoreStands new (commits ++ own ∷ []) b t
  pub no_loss : LosesNone t.flow store.catalog new.catalog (current a) (current b)
  pub settled : IsSettled store.journal.generation store.catalog a → IsSettled new.journal.generation new.catalog b

-- what holds whatever was done: only files that the commit names changed, and nothing was replied
pub record Touched (store : Held) (own : Commit) (a b : List Event) : Type 0 where
  pub others : LeavesOthers store.journal.generation (Some own) (current a) (current b)
  pub silent : replies b ≡ replies a

abbrev pub Adds : Bool → Held → Held → Commit → List Fresh → List Event → List Event → Type 0
Adds is_honest store new own fresh a b =
    IsTrue is_honest → (commits : List Commit) (s t : State) → StoreStands store commits a s → Leads store.catalog s t own fresh → Added store new commits own t a b

abbrev pub Breaks : Bool → Held → Commit → List Fresh → List Event → List Event → Type 0
Breaks is_honest store own fresh a b =
    IsTrue is_honest → (commits : List Commit) (s t : State) → StoreStands store commits a s → Leads store.catalog s t own fresh → IsLeft store.journal.generation commits store.catalog (Some own) (current a) (current b) s t

-- A store that was what its journal said is so still, with the commit behind the others, whatever else the files have.
abbrev pub ReadsOn : Bool → Held → Held → Commit → List Event → List Event → Type 0
ReadsOn is_honest store new own a b = IsTrue is_honest → (commits : List Commit) → IsRead store commits (current a) → IsRead new (commits ++ own ∷ []) (current b)
