-- What each step of the machine does to a store: one line a step in each of these tables.
use Rattle.std.specs.Prelude.{◌≡◌, ◌⊎◌, ℕ, ◌+◌, ◌==◌, ◌^◌, ◌<◌, nat_le, nat_lt, Bool, true, false, ◌&&◌, List, [], ◌∷◌, ◌++◌, length, map, Option, Some, None, if◌then◌else◌}
use Rattle.nova_outside.specs.Disk.{Files}
use Rattle.nova_delta.specs.Merge.{DeltaValue, puts}
use Rattle.nova_journal.specs.Log.{frame}
use Rattle.nova_path.specs.Lists.{IsOneOf}
use Rattle.nova_channel.specs.Reading.{block_file}
use Rattle.nova_row_codec.specs.Spelling.{spelling_of}
use Rattle.nova_channel.specs.Reading.{IsDamage, route_size}
use Rattle.nova_commit.specs.Commits.{commit_bytes}
use Rattle.nova_meta.specs.Catalog.{Entered, applied, bound, progress_at, shelf_at, total}
use Rattle.nova_meta.specs.Named.{Channel}
use Rattle.nova_meta.specs.declared.wiring.Edge.{Edge}
use Rattle.nova_meta.specs.Sound.{cursor_at, edge_at}
use Rattle.nova_meta.specs.Wired.{wire_at}
use Rattle.nova_commit.specs.declared.commit.PartFile.{PartFile}
use Rattle.nova_commit.specs.declared.commit.Commit.{Commit}
use Rattle.nova_commit.specs.declared.commit.Commit.TheVariants as commit
use Rattle.nova_group_codec.specs.Spelling.{state_bytes}
use Rattle.nova_groups.specs.State.{StateValue}
use Rattle.nova_machine.specs.Workflow.{Workflow, plan_in, schema_in}
use Rattle.nova_machine.specs.State.{State, Capture, newest}
use Rattle.nova_machine.specs.Due.{capture_of}
use Rattle.nova_machine.specs.Steps.{Step, Load, Tick, Run, Begin, Finish, Drop, Worked, Compact, Chain, Collect, Show, Blocks, Refused, after}
use Rattle.nova_execution.specs.Made.{run_block}
use Rattle.nova_execution.specs.Damage.{IsRunDamage}
use Rattle.nova_execution.specs.Groups.{file_size, keeps_state, part_file, run_state}
use Rattle.nova_execution.specs.Reads.{Read, reads_size, run_reads}
use Rattle.nova_runner.specs.Files.{bytes_of, journal_file}

-- a run of a task that keeps a state writes it as the first part, in the file behind that of its block
abbrev pub parts_of : Bool → ℕ → ℕ → List PartFile
parts_of true next size = record { part = 0; block = next + 1; size = size } ∷ []
parts_of false next size = []

-- the commit of a run that captured this, whose block and state have these sizes
abbrev pub own_run : Entered → ℕ → Capture → Bool → ℕ → ℕ → Commit
own_run cat t run keeps size state = commit.Run t run.versions run.moment run.seen cat.next size (parts_of keeps cat.next state)

-- the bytes of a state that is kept; what isn't kept has none
abbrev pub kept_spelling : Option StateValue → List ℕ
kept_spelling None = []
kept_spelling (Some st) = state_bytes st

abbrev pub keeps_in : Workflow → ℕ → Bool
keeps_in flow t = keeps_state (plan_in flow t).pattern

-- what a run of a task reads that captures what is newest
abbrev pub newest_reads : Entered → ℕ → List Read
newest_reads cat t = run_reads (wire_at cat.wiring t).inputs cat t (map (λ (e : Edge). (shelf_at cat e.channel).version) (wire_at cat.wiring t).inputs)

-- where a read of a channel begins: at version 0, or where a task's NEW input of it stands
abbrev pub IsHop : Entered → ℕ → ℕ → Type 0
IsHop cat c from = (from ≡ 0) ⊎ ((t : ℕ) × (k : ℕ) × ((edge_at cat t k).new ≡ true) × ((edge_at cat t k).channel ≡ c) × (from ≡ cursor_at cat t k))

-- the commit that a step adds from a state with this catalog, or none where it adds none
abbrev pub own_commit : Entered → State → Step → Option Commit
own_commit cat s (Load c entries) =
    Some (commit.Load c cat.next (length (bytes_of (after s (Load c entries)) (Channel c (newest s c) (newest s c + 1)))))
own_commit cat s (Tick m) = Some (commit.Tick m)
own_commit cat s (Run t) = Some (own_run cat t (capture_of s t) (keeps_in s.flow t) (length (spelling_of (run_block s t (capture_of s t)))) (length (kept_spelling (run_state s t (capture_of s t)))))
own_commit cat s (Begin t) = None
own_commit cat s (Drop t) = None
own_commit cat s (Worked k) = None
own_commit cat s (Show c) = None
own_commit cat s (Blocks c) = None
own_commit cat s (Refused refusal) = None
-- their lines come with their commands
own_commit cat s (Finish t) = None
own_commit cat s (Compact c) = None
own_commit cat s (Chain c i j) = None
own_commit cat s Collect = None

-- what a load of this delta brings to a channel of this catalog: the delta's block, for the first version without its removals
abbrev pub load_block : Entered → ℕ → DeltaValue → DeltaValue
load_block cat c d = record { schema = d.schema; entries = if (shelf_at cat c).version == 0 then puts d.entries else d.entries }

abbrev pub load_commit : Entered → ℕ → DeltaValue → Commit
load_commit cat c d = commit.Load c cat.next (length (spelling_of (load_block cat c d)))

-- how many bytes of blocks and of states it reads at most; what the commands read that aren't built yet comes with them
abbrev pub read_size : Entered → Step → ℕ
read_size cat (Show c) = route_size (shelf_at cat c).intervals 0 (shelf_at cat c).version
read_size cat (Run t) = reads_size cat (newest_reads cat t) + file_size (part_file cat t)
read_size cat (Load c entries) = 0
read_size cat (Tick m) = 0
read_size cat (Begin t) = 0
read_size cat (Finish t) = 0
read_size cat (Drop t) = 0
read_size cat (Worked k) = 0
read_size cat (Compact c) = 0
read_size cat (Chain c i j) = 0
read_size cat Collect = 0
read_size cat (Blocks c) = 0
read_size cat (Refused refusal) = 0

-- the file and the place that it finds damaged: those of the first block that it reads which is none, or of the state; so it is with the commands that aren't built yet
abbrev pub IsStepDamage : Workflow → Entered → Files → Step → ℕ → ℕ → Type 0
IsStepDamage flow cat files (Show c) file at = IsDamage (schema_in flow c) files (shelf_at cat c).intervals 0 (shelf_at cat c).version file at
IsStepDamage flow cat files (Run t) file at = IsRunDamage flow.channels (plan_in flow t) cat files t (newest_reads cat t) file at
IsStepDamage flow cat files (Load c entries) file at = ⊥
IsStepDamage flow cat files (Tick m) file at = ⊥
IsStepDamage flow cat files (Begin t) file at = ⊥
IsStepDamage flow cat files (Finish t) file at = ⊥
IsStepDamage flow cat files (Drop t) file at = ⊥
IsStepDamage flow cat files (Worked k) file at = ⊥
IsStepDamage flow cat files (Compact c) file at = ⊥
IsStepDamage flow cat files (Chain c i j) file at = ⊥
IsStepDamage flow cat files Collect file at = ⊥
IsStepDamage flow cat files (Blocks c) file at = ⊥
IsStepDamage flow cat files (Refused refusal) file at = ⊥

-- ---- of a commit

-- the blocks that it brings
abbrev pub brought : Option Commit → List ℕ
brought None = []
brought (Some (commit.Flow text)) = []
brought (Some (commit.Load c block size)) = block ∷ []
brought (Some (commit.Tick moment)) = []
brought (Some (commit.Run t versions moment seen block size parts)) = block ∷ map (λ (p : PartFile). p.block) parts
brought (Some (commit.Joined c from to block size)) = block ∷ []
brought (Some (commit.Collected kept)) = []

-- the files that a step with this commit may change: the journal, and those of the blocks that it brings
abbrev pub MayChange : ℕ → Option Commit → ℕ → Type 0
MayChange x None n = ⊥
MayChange x (Some c) n = (n ≡ journal_file x) ⊎ ((block : ℕ) × IsOneOf (brought (Some c)) block × (n ≡ block_file block))

-- every other file reads as before
abbrev pub LeavesOthers : ℕ → Option Commit → Files → Files → Type 0
LeavesOthers x own old new = (n : ℕ) → (MayChange x own n → ⊥) → new n ≡ old n

-- each counter that it raises has room: the sum of a channel's sizes, versions, runs, block numbers
abbrev pub has_room : Entered → Commit → Bool
has_room cat (commit.Flow text) = true
has_room cat (commit.Load c block size) = nat_le (total (shelf_at cat c) + size) bound && (nat_lt (shelf_at cat c).version bound && nat_lt cat.next bound)
has_room cat (commit.Tick moment) = nat_le moment bound
has_room cat (commit.Run t versions moment seen block size parts) =
    let c = (wire_at cat.wiring t).output in
    nat_le (total (shelf_at cat c) + size) bound && (nat_lt (shelf_at cat c).version bound && (nat_lt (progress_at cat t).runs bound && nat_lt (cat.next + length parts) bound))
has_room cat (commit.Joined c from to block size) = nat_le (total (shelf_at cat c) + size) bound && nat_lt cat.next bound
has_room cat (commit.Collected kept) = true

-- Its frame would take a journal of this length past 2^62 bytes, or a counter would pass its bound.
abbrev pub IsFull : ℕ → Entered → Commit → Type 0
IsFull end cat c = (2 ^ 62 < end + length (frame (commit_bytes c))) ⊎ (has_room cat c ≡ false)

-- the commits with the step's own behind them, and their catalog
abbrev pub behind : List Commit → Option Commit → List Commit
behind commits None = commits
behind commits (Some c) = commits ++ c ∷ []

abbrev pub catalog_behind : Entered → Option Commit → Entered
catalog_behind cat None = cat
catalog_behind cat (Some c) = applied cat c
