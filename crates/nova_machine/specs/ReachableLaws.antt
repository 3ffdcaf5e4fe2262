-- What holds of each state that commands can reach, and of the blocks that runs make.
use Rattle.std.specs.Prelude.{◌≡◌, ◌⊎◌, ◌↔◌, ℕ, ◌+◌, ◌==◌, ◌<◌, ◌≤◌, true, List, [], ◌∷◌, length, Some, is_some, if◌then◌else◌}
use Rattle.std.specs.List.{AllByRecursion}
use Rattle.std.specs.FinMap as fin
use Rattle.nova_value.specs.declared.value.Value.{Value}
use Rattle.nova_value.specs.declared.schema.Entry.TheVariants.{Removal}
use Rattle.nova_value.specs.Rows.{key_at}
use Rattle.nova_delta.specs.Merge.{RowMap, EntryMap, merged, puts}
use Rattle.nova_path.specs.Lists.{IsOneOf}
use Rattle.nova_path.specs.Shelf.{Span, IsPath}
use Rattle.nova_machine.specs.Workflow.{output_in, schema_in}
use Rattle.nova_machine.specs.Versions.{block, has, rows_in}
use Rattle.nova_machine.specs.State.{State, Capture, kept_at, newest, ended}
use Rattle.nova_machine.specs.Due.{IsDue, is_due}
use Rattle.nova_machine.specs.Writing.{made_version}
use Rattle.nova_machine.specs.Needed.{hops, needed, path_of}
use Rattle.nova_machine.specs.Steps.{Step, Collect, add_run, after, after_all}
use Rattle.nova_machine.specs.Commands.{commands_of, steps}
use Rattle.nova_machine.specs.Reachable.{AllMade, IsMade, IsReachable}
use Rattle.nova_machine.specs.Sound.{IsWired, IsSound}

-- a step more that a command can make
abbrev pub ReachableGrows : Type 0
ReachableGrows = (s : State) (x : Step) → IsReachable s → IsMade s x → IsReachable (after s x)

-- what a new call opens is reachable
abbrev pub EndedIsReachable : Type 0
EndedIsReachable = (s : State) → IsReachable s → IsReachable (ended s)

abbrev pub ReachableIsSound : Type 0
ReachableIsSound = (s : State) → IsWired s.flow → IsReachable s → IsSound s

-- commands make no step but those of `IsMade`, whatever their bytes are
abbrev pub CommandsMakeSteps : Type 0
CommandsMakeSteps = (s : State) (bytes : List ℕ) → AllMade s (steps s (commands_of bytes))

-- so sessions lead from reachable states to reachable ones
abbrev pub SessionsReach : Type 0
SessionsReach = (s : State) (bytes : List ℕ) → IsReachable s → IsReachable (after_all s (steps s (commands_of bytes)))

-- something is kept of each channel
abbrev pub ChannelsAreKept : Type 0
ChannelsAreKept = (s : State) → IsReachable s → length s.channels ≡ length s.flow.channels

-- a span stands before another by where it begins, and else by where it ends
abbrev pub IsBefore : Span → Span → Type 0
IsBefore x y = (x.from < y.from) ⊎ ((x.from ≡ y.from) × (x.to < y.to))

-- each before all behind it, so none stands twice
abbrev pub InOrder : List Span → Type 0
InOrder [] = Unit {0}
InOrder (x ∷ xs) = AllByRecursion (IsBefore x) xs × InOrder xs

-- the spans of each channel are in order
abbrev pub ShelvesAreInOrder : Type 0
ShelvesAreInOrder = (s : State) → IsReachable s → (c : ℕ) → InOrder (kept_at s c).shelf

-- each hop has a chosen path, to a version that is there
abbrev pub HopsHavePaths : Type 0
HopsHavePaths = (s : State) → IsWired s.flow → IsReachable s → (c : ℕ) (h : Span) → IsOneOf (hops s c) h →
    (p : List Span) × (path_of (kept_at s c) h ≡ Some p) × IsPath (kept_at s c).shelf h.from h.to p × (h.to ≤ newest s c)

-- a collection keeps what is needed and no more, the hops, and the chosen path of each
abbrev pub CollectKeeps : Type 0
CollectKeeps = (s : State) → IsWired s.flow → IsReachable s → (c : ℕ) →
    ((x : Span) → IsOneOf (kept_at (after s Collect) c).shelf x → IsOneOf (needed s c) x)
    × ((x : Span) → IsOneOf (needed s c) x → IsOneOf (kept_at (after s Collect) c).shelf x)
    × (hops (after s Collect) c ≡ hops s c)
    × ((h : Span) → IsOneOf (hops s c) h → path_of (kept_at (after s Collect) c) h ≡ path_of (kept_at s c) h)

-- the test of a task is the rule
abbrev pub DueIsTested : Type 0
DueIsTested = (s : State) (t : ℕ) → (is_due s t ≡ true) ↔ IsDue s t

-- A delta with the keys that a run writes, which leads from the newest table to the run's result, is the block that the run makes; for the first version without its removals.
abbrev pub RunsMakeBlocks : Type 0
RunsMakeBlocks = (s : State) (t : ℕ) (run : Capture) (d : EntryMap) →
    let c = output_in s.flow t in
    let n = newest s c in
    let made = made_version s t run in
    c < length s.channels → made.rows ≡ merged (rows_in (kept_at s c).versions n) d
    → ((q : List Value) → has made.wrote q ≡ is_some (fin.get d q)) → ((q k : List Value) → fin.get d q ≡ Some (Removal k) → k ≡ q)
    → block (kept_at (add_run s t run) c).versions n (n + 1) ≡ (if n == 0 then puts d else d)

-- and one that leads from no rows to the result of a run that writes anew is its base block
abbrev pub RunsMakeBases : Type 0
RunsMakeBases = (s : State) (t : ℕ) (run : Capture) (d : EntryMap) →
    let c = output_in s.flow t in
    c < length s.channels → (made_version s t run).rows ≡ merged fin.empty d
    → block (kept_at (add_run s t run) c).versions 0 (newest s c + 1) ≡ puts d

-- each row stands at its key
abbrev pub IsKeyed : List ℕ → RowMap → Type 0
IsKeyed key rows = (q row : List Value) → fin.get rows q ≡ Some row → key_at key row ≡ q

-- and so it is with each version of each channel
abbrev pub RowsStandAtTheirKeys : Type 0
RowsStandAtTheirKeys = (s : State) → IsReachable s → (c n : ℕ) → IsKeyed (schema_in s.flow c).key (rows_in (kept_at s c).versions n)
