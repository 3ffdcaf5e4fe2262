-- A session moves on through its lines and bytes.
use Rattle.std.specs.Prelude.{◌≡◌, ℕ, Bool, false, List, [], ◌++◌, Option, IsTrue, Result, Ok, Err, MatchResult}
use Rattle.nova_value.specs.Text.{has_newline}
use Rattle.nova_outside.specs.History.{Event}
use Rattle.nova_commit.specs.declared.commit.Commit.{Commit}
use Rattle.nova_script.specs.Forms.{kept}
use Rattle.nova_script.specs.Session.{Item}
use Rattle.nova_machine.specs.State.{State}
use Rattle.nova_machine.specs.Steps.{after_all}
use Rattle.nova_building.specs.Building.{built_steps}
use Rattle.nova_runner.specs.Held.{Held}
use Rattle.nova_runner.specs.Steps.{StoreStands, Why}
use Rattle.nova_engine.specs.Loading.{HoldsPending, Loading}
use Rattle.nova_engine.specs.Ending.{EndsStopped}
use Rattle.nova_engine.specs.Positions.{IsFront, Position, cut_off, ended_by, items_at, load_after, whole_items_at}
use Rattle.nova_engine.specs.Seen.{Seen}
use Rattle.nova_engine.specs.Stopping.{why}
use Rattle.nova_engine.specs.Taking.{StopsIn, Takes}
use Rattle.nova_engine.specs.declared.load.Pending.{Pending}
use Rattle.nova_engine.specs.declared.reader.LineReader.{LineReader}
use Rattle.nova_engine.specs.declared.reader.Session.{Session}
use Rattle.nova_engine.specs.declared.status.Status.{Status}
use Rattle.nova_engine.specs.declared.status.Status.TheVariants.{Done}
use Rattle.nova_engine.specs.declared.stop.Stop.{Stop}

-- ---- lines

-- a session stands for a state and the load that is being read
pub record SessionStands (store : Held) (waiting : Option Pending) (commits : List Commit) (h : List Event) (s : State) (load : Option Loading) : Type 0 where
  pub stands : StoreStands store commits h s
  pub pending : HoldsPending s waiting load

-- a line ended its commands, and the session is behind it
pub record TakesLine (store : Held) (new : Session) (commits : List Commit) (s : State) (load : Option Loading) (line : List ℕ) (a b : Seen) : Type 0 where
  pub takes : Takes store new.store commits s (built_steps s (ended_by load line)) a b
  pub pending : HoldsPending (after_all s (built_steps s (ended_by load line))) new.load (load_after load line)

abbrev pub TakesLines : Bool → Held → Option Pending → Session → List ℕ → Seen → Seen → Type 0
TakesLines is_honest store pending new held a b =
    IsTrue is_honest → (commits : List Commit) (s : State) (load : Option Loading) (line : List ℕ) → SessionStands store pending commits a.history s load → IsFront held line
    → TakesLine store new commits s load line a b

abbrev pub StopsLines : Why → Bool → Held → Option Pending → List ℕ → Seen → Seen → Type 0
StopsLines why is_honest store pending held a b =
    IsTrue is_honest → (commits : List Commit) (s : State) (load : Option Loading) (line : List ℕ) → SessionStands store pending commits a.history s load → IsFront held line
    → StopsIn why store commits s (built_steps s (ended_by load line)) a b

-- the next line of a session, of which no more need be held than decides what it is
abbrev pub LineTold : Bool → Held → Option Pending → List ℕ → Seen → Seen → Result Session Stop → Type 0
LineTold is_honest store pending held a b result =
    MatchResult result (λ new. TakesLines is_honest store pending new held a b) (λ stop. StopsLines (why stop) is_honest store pending held a b)

-- ---- bytes

-- what is in memory stands for the position
pub record IsAt (reader : LineReader) (commits : List Commit) (h : List Event) (p : Position) : Type 0 where
  pub stands : StoreStands reader.session.store commits h p.state
  pub pending : HoldsPending p.state reader.session.load p.load
  pub held : reader.held ≡ kept p.carry
  pub clean : has_newline p.carry ≡ false

-- these bytes led from one position to another, by these commands, whatever follows
pub record Advances (store : Held) (new : LineReader) (commits : List Commit) (p q : Position) (a b : Seen) (bytes : List ℕ) : Type 0 where
  pub items : List Item
  pub takes : Takes store new.session.store commits p.state (built_steps p.state items) a b
  pub state : q.state ≡ after_all p.state (built_steps p.state items)
  pub pending : HoldsPending q.state new.session.load q.load
  pub held : new.held ≡ kept q.carry
  pub clean : has_newline q.carry ≡ false
  pub cut : (more : List ℕ) → items_at p (bytes ++ more) ≡ items ++ items_at q more
  pub whole : (more : List ℕ) → whole_items_at p (bytes ++ more) ≡ items ++ whole_items_at q more

-- the call stopped within the commands that these bytes begin with
pub record Breaks (why : Why) (store : Held) (commits : List Commit) (p : Position) (a b : Seen) (bytes : List ℕ) : Type 0 where
  pub items : List Item
  pub stops : StopsIn why store commits p.state (built_steps p.state items) a b
  pub cut : (more : List ℕ) → (rest : List Item) × (items_at p (bytes ++ more) ≡ items ++ rest)

-- from each position that the session stood for
abbrev pub MovesOn : Bool → LineReader → LineReader → Seen → Seen → List ℕ → Type 0
MovesOn is_honest old new a b bytes =
    IsTrue is_honest → (commits : List Commit) (p : Position) → IsAt old commits a.history p → (q : Position) × Advances old.session.store new commits p q a b bytes

abbrev pub BreaksOn : Why → Bool → LineReader → Seen → Seen → List ℕ → Type 0
BreaksOn why is_honest old a b bytes =
    IsTrue is_honest → (commits : List Commit) (p : Position) → IsAt old commits a.history p → Breaks why old.session.store commits p a b bytes

abbrev pub BytesTold : Bool → LineReader → List ℕ → Seen → Seen → Result LineReader Stop → Type 0
BytesTold is_honest old bytes a b result =
    MatchResult result (λ new. MovesOn is_honest old new a b bytes) (λ stop. BreaksOn (why stop) is_honest old a b bytes)

-- ---- the end of the input

abbrev pub EndedBy : Bool → Result (Unit {0}) Stop → Status → Seen → Seen → Type 0
EndedBy is_honest (Ok done) status a b = (status ≡ Done) × (b ≡ a)
EndedBy is_honest (Err stop) status a b = EndsStopped is_honest stop status a b

-- all commands that are left were taken but for a load that the end cuts off
pub record TakesLast (old : LineReader) (new : Session) (commits : List Commit) (p : Position) (a b : Seen) : Type 0 where
  pub items : List Item
  pub takes : Takes old.session.store new.store commits p.state (built_steps p.state items) a b
  pub load : Option Loading
  pub pending : HoldsPending (after_all p.state (built_steps p.state items)) new.load load
  pub rest : items_at p [] ≡ items ++ cut_off load

abbrev pub LastTold : Bool → LineReader → Seen → Seen → Result Session Stop → Type 0
LastTold is_honest old a b result =
    MatchResult result
    (λ new. IsTrue is_honest → (commits : List Commit) (p : Position) → IsAt old commits a.history p → TakesLast old new commits p a b)
    (λ stop. IsTrue is_honest → (commits : List Commit) (p : Position) → IsAt old commits a.history p → StopsIn (why stop) old.session.store commits p.state (built_steps p.state (items_at p [])) a b)

-- all commands that are left were taken, by a store that is closed now
abbrev pub EndTold : {T : Type 0} → Bool → Session → Seen → Seen → Result T Stop → Type 0
EndTold is_honest old a b result =
    MatchResult result
    (λ _. IsTrue is_honest → (commits : List Commit) (s : State) (load : Option Loading) → SessionStands old.store old.load commits a.history s load → (new : Held) × Takes old.store new commits s (built_steps s (cut_off load)) a b)
    (λ stop. IsTrue is_honest → (commits : List Commit) (s : State) (load : Option Loading) → SessionStands old.store old.load commits a.history s load → StopsIn (why stop) old.store commits s (built_steps s (cut_off load)) a b)

abbrev pub FinishTold : {T : Type 0} → Bool → LineReader → Seen → Seen → Result T Stop → Type 0
FinishTold is_honest old a b result =
    MatchResult result
    (λ _. IsTrue is_honest → (commits : List Commit) (p : Position) → IsAt old commits a.history p → (new : Held) × Takes old.session.store new commits p.state (built_steps p.state (items_at p [])) a b)
    (λ stop. IsTrue is_honest → (commits : List Commit) (p : Position) → IsAt old commits a.history p → StopsIn (why stop) old.session.store commits p.state (built_steps p.state (items_at p [])) a b)

-- The last commands were taken, and how it ended is told: by what `finish` answered, and what its status says of that.
abbrev pub EndsWhole : Bool → LineReader → Status → Seen → Seen → Type 0
EndsWhole is_honest old status a b =
    (result : Result (Unit {0}) Stop) × (mid : Seen) × FinishTold is_honest old a mid result × EndedBy is_honest result status mid b
