-- Steps that are taken, and a call that stops within them.
use Rattle.std.specs.Prelude.{◌≡◌, ◌⊎◌, ℕ, ◌+◌, ◌≤◌, Bool, List, [], ◌∷◌, ◌++◌, Some, IsTrue, Result, MatchResult}
use Rattle.nova_outside.specs.History.{Event, current, replies}
use Rattle.nova_commit.specs.declared.commit.Commit.{Commit}
use Rattle.nova_machine.specs.State.{State}
use Rattle.nova_script.specs.Session.{WithRows}
use Rattle.nova_script.specs.declared.context.Request.{Request}
use Rattle.nova_script.specs.declared.refusal.Refusal.{Refusal}
use Rattle.nova_machine.specs.Steps.{Step, Begin, Drop, Refused, after_all}
use Rattle.nova_machine.specs.Reachable.{IsMade}
use Rattle.nova_machine.specs.Commands.{met_steps}
use Rattle.nova_building.specs.Building.{built_steps}
use Rattle.nova_machine.specs.Replies.{text}
use Rattle.nova_runner.specs.Acts.{read_size}
use Rattle.nova_runner.specs.Files.{IsSettled}
use Rattle.nova_runner.specs.Held.{Held}
use Rattle.nova_runner.specs.Steps.{LosesNone, Stopped, StoreStands, Why, NoMemory}
use Rattle.nova_engine.specs.Damage.{IsReadIn}
use Rattle.nova_engine.specs.Loading.{HoldsLoad, Loading}
use Rattle.nova_engine.specs.Seen.{Seen}
use Rattle.nova_engine.specs.Stopping.{why}
use Rattle.nova_engine.specs.Turns.{IsTheirs, NoneDamaged, StaysShort, catalog_after, own_commits, read_sizes}
use Rattle.nova_engine.specs.declared.load.Pending.{Pending}
use Rattle.nova_engine.specs.declared.stop.Stop.{Stop}

-- Steps were taken, by a store that stood for a state: it stands for the state behind them, by the commits from before and the steps' own, no other file changed, no block was lost, and their replies were given.
pub record Takes (store new : Held) (commits : List Commit) (s : State) (xs : List Step) (a b : Seen) : Type 0 where
  pub from : StoreStands store commits a.history s
  pub stands : StoreStands new (commits ++ own_commits store.catalog s xs) b.history (after_all s xs)
  pub catalog : new.catalog ≡ catalog_after store.catalog s xs
  pub generation : new.journal.generation ≡ store.journal.generation
  pub others : (n : ℕ) → (IsTheirs store.journal.generation (own_commits store.catalog s xs) n → ⊥) → current b.history n ≡ current a.history n
  pub no_loss : LosesNone s.flow store.catalog new.catalog (current a.history) (current b.history)
  pub replied : replies b.history ≡ replies a.history ++ text s xs
  pub reads : b.read ≤ a.read + read_sizes store.catalog s xs
  -- of the files that decide what the store is, nothing that was settled is pending
  pub settled : IsSettled store.journal.generation store.catalog a.history → IsSettled new.journal.generation new.catalog b.history
  -- none of them read a lost block, and what they read none of them changed
  pub undamaged : NoneDamaged (current b.history) store.catalog s xs
  -- and where they added commits, the journal has at most 2^62 bytes
  pub room : StaysShort commits (own_commits store.catalog s xs)

-- the first of these steps stopped
pub record StepStops (why : Why) (store : Held) (commits : List Commit) (s : State) (xs : List Step) (a b : Seen) : Type 0 where
  pub step : Step
  pub more : List Step
  pub is : xs ≡ step ∷ more
  pub stopped : Stopped why store commits s step a.history b.history
  pub reads : b.read ≤ a.read + read_size store.catalog step

-- A call stopped within these steps: some were taken, and the next one stopped, or there was no memory between two.
pub record StopsIn (why : Why) (store : Held) (commits : List Commit) (s : State) (xs : List Step) (a b : Seen) : Type 0 where
  pub done : List Step
  pub later : List Step
  pub parts : xs ≡ done ++ later
  pub at : Held
  pub mid : Seen
  pub takes : Takes store at commits s done a mid
  pub ends : StepStops why at (commits ++ own_commits store.catalog s done) (after_all s done) later mid b ⊎ ((why ≡ NoMemory) × (b ≡ mid))

-- what holds of a store behind a command, over every host: it is what the journal says, and it has the workflow that it had
pub record IsOneStore (is_honest : Bool) (old : Held) (h : List Event) (new : Held) : Type 0 where
  pub in_host : IsReadIn is_honest new h
  pub flow : new.flow ≡ old.flow

-- ---- as clauses: from each state that the store stood for, and the steps of it that were asked for

abbrev pub TakesAsked : Bool → (State → List Step → Type 0) → Held → Held → Seen → Seen → Type 0
TakesAsked is_honest asks store new a b =
    IsTrue is_honest → (commits : List Commit) (s : State) (xs : List Step) → StoreStands store commits a.history s → asks s xs → Takes store new commits s xs a b

abbrev pub StopsAsked : Why → Bool → (State → List Step → Type 0) → Held → Seen → Seen → Type 0
StopsAsked why is_honest asks store a b =
    IsTrue is_honest → (commits : List Commit) (s : State) (xs : List Step) → StoreStands store commits a.history s → asks s xs → StopsIn why store commits s xs a b

-- both, over the result of a call
abbrev pub Answers : Bool → (State → List Step → Type 0) → Held → Seen → Seen → Result Held Stop → Type 0
Answers is_honest asks store a b result =
    MatchResult result (λ new. TakesAsked is_honest asks store new a b) (λ stop. StopsAsked (why stop) is_honest asks store a b)

-- one step that is asked for
abbrev pub AsksOne : (State → Step → Type 0) → State → List Step → Type 0
AsksOne asks s xs = (x : Step) × (xs ≡ x ∷ []) × asks s x

abbrev pub AsksRefused : Refusal → State → Step → Type 0
AsksRefused refusal s x = x ≡ Refused refusal

-- an execution that begins, and one that is dropped
abbrev pub AsksBegin : ℕ → State → Step → Type 0
AsksBegin t s x = (x ≡ Begin t) × IsMade s x

abbrev pub AsksDrop : ℕ → State → Step → Type 0
AsksDrop t s x = (x ≡ Drop t) × IsMade s x

-- what a command that has no rows met
abbrev pub AsksMet : Result Request Refusal → State → List Step → Type 0
AsksMet met s xs = xs ≡ met_steps s (Some met)

-- the command of a load that ends
abbrev pub AsksClose : Pending → Bool → State → List Step → Type 0
AsksClose pending is_ended s xs = (load : Loading) × HoldsLoad s pending load × (xs ≡ built_steps s (WithRows load.line load.rows is_ended ∷ []))
