-- What was done to a host, the newest first, and what follows from it.
use Rattle.std.specs.Prelude.{◌≡◌, ◌⊎◌, ℕ, ◌≤◌, List, [], ◌∷◌, ◌++◌, length, Bool, true, false, nat_eq, if◌then◌else◌, Option, None, IsSome}
use Rattle.nova_outside.specs.Disk.{Files, Tears, TornFrom, IsImage}

-- these bytes begin those
abbrev pub Begins : List ℕ → List ℕ → Type 0
Begins front all = (more : List ℕ) × (all ≡ front ++ more)

-- what a call does to a file: it is made empty, n bytes are written at an offset, it is synced, a sync of it fails, it is removed
pub data Change : Type 0 where
  Created : Change
  Written : (at n : ℕ) → Change
  Synced : Change
  SyncFailed : Change
  Removed : Change

-- what a call did: a file was changed and reads like this now, or bytes were added to the replies
pub data Event : Type 0 where
  OnFile : (change : Change) (file : ℕ) (now : Option (List ℕ)) → Event
  Replied : (bytes : List ℕ) → Event

-- the reply bytes so far
abbrev pub replies : List Event → List ℕ
replies [] = []
replies (OnFile change file now ∷ earlier) = replies earlier
replies (Replied bytes ∷ earlier) = replies earlier ++ bytes

-- what a read returns; at first no file is present
abbrev pub current : List Event → Files
current [] n = None
current (OnFile change file now ∷ earlier) n = if nat_eq file n then now else current earlier n
current (Replied bytes ∷ earlier) n = current earlier n

-- what a file may read as after a change, done whole or in part
abbrev pub Fits : Change → Option (List ℕ) → Option (List ℕ) → Type 0
Fits Created before now = (now ≡ before) ⊎ IsSome now
Fits (Written at n) before now = Tears at n before now
Fits Synced before now = now ≡ before
Fits SyncFailed before now = now ≡ before
Fits Removed before now = (now ≡ before) ⊎ (now ≡ None)

-- each event may follow those before it
abbrev pub Valid : List Event → Type 0
Valid [] = Unit {0}
Valid (OnFile change file now ∷ earlier) = Fits change (current earlier file) now × Valid earlier
Valid (Replied bytes ∷ earlier) = Valid earlier

-- A file was changed, whole or in part.
pub record Changed (change : Change) (file : ℕ) (old new : List Event) : Type 0 where
  pub now : Option (List ℕ)
  pub fits : Fits change (current old file) now
  pub is : new ≡ OnFile change file now ∷ old

-- a change that failed: nothing was done, or a part of it
abbrev pub ChangesInPart : Change → ℕ → List Event → List Event → Type 0
ChangesInPart change file old new = (new ≡ old) ⊎ Changed change file old new

-- a reply that failed: nothing was done, or some front of the bytes was added
abbrev pub RepliesInPart : List ℕ → List Event → List Event → Type 0
RepliesInPart bytes old new = (new ≡ old) ⊎ ((front : List ℕ) × Begins front bytes × (new ≡ Replied front ∷ old))

-- what a crash may leave of a file after a change, by what it might have left before: after a sync what is read, after a write what a torn one makes, and while its making or removal is pending anything
abbrev pub OutcomeOf : Change → Option (List ℕ) → (Option (List ℕ) → Type 0) → Option (List ℕ) → Type 0
OutcomeOf Created now before c = Unit {0}
OutcomeOf (Written at n) now before c = TornFrom at n before c
OutcomeOf Synced now before c = c ≡ now
OutcomeOf SyncFailed now before c = before c
OutcomeOf Removed now before c = Unit {0}

-- the first where the test holds, else the second
abbrev pub IfTrue : Bool → Type 0 → Type 0 → Type 0
IfTrue true P Q = P
IfTrue false P Q = Q

-- what a crash now may leave of a file
abbrev pub Outcome : List Event → ℕ → Option (List ℕ) → Type 0
Outcome [] n c = c ≡ None
Outcome (OnFile change file now ∷ earlier) n c = IfTrue (nat_eq file n) (OutcomeOf change now (Outcome earlier n) c) (Outcome earlier n c)
Outcome (Replied bytes ∷ earlier) n c = Outcome earlier n c

-- what a crash now leaves: an image, and the replies so far
abbrev pub LeftNow : List Event → Files → List ℕ → Type 0
LeftNow history image said = IsImage (Outcome history) image × (said ≡ replies history)

-- what a crash within the call behind an event leaves beside what one before or after it leaves: of a reply a front
abbrev pub LeftWithin : Event → List Event → Files → List ℕ → Type 0
LeftWithin (OnFile change file now) earlier image said = ⊥
LeftWithin (Replied bytes) earlier image said = IsImage (Outcome earlier) image × ((front : List ℕ) × Begins front bytes × (said ≡ replies earlier ++ front))

-- what a crash may have left at a moment since that of so many events
abbrev pub Since : List Event → ℕ → Files → List ℕ → Type 0
Since [] moment image said = LeftNow [] image said
Since (event ∷ earlier) moment image said =
    LeftNow (event ∷ earlier) image said ⊎ ((moment ≤ length earlier) × (LeftWithin event earlier image said ⊎ Since earlier moment image said))

-- A crash at any moment of a run of calls leaves what has P.
pub record Meanwhile (P : Files → List ℕ → Type 0) (old new : List Event) : Type 0 where
  pub later : length old ≤ length new
  pub each : (image : Files) (said : List ℕ) → Since new (length old) image said → P image said
  -- for a run that began earlier
  pub earlier : (moment : ℕ) (image : Files) (said : List ℕ) → moment ≤ length old → Since new moment image said → Since old moment image said ⊎ P image said
