-- Laws of what a crash and a call that failed leave: what there is besides nothing else, and that each of it may be left.
use Rattle.std.specs.Prelude.{ℕ, ◌+◌, ◌≤◌, max, List, ◌∷◌, ◌++◌, length, take, drop, Option, Some, None}
use Rattle.nova_outside.specs.Disk.{Files, IsImage, LeavesSameBut, SameOutcomes, Tears}
use Rattle.nova_outside.specs.History.{Event, Change, ChangesInPart, Fits, RepliesInPart, Valid, Outcome, LeftNow, Since, current, replies}
use Rattle.nova_outside.specs.History.Event.{OnFile, Replied}
use Rattle.nova_outside.specs.History.Change.{Created, Written, SyncFailed, Removed}

-- what is read now is one of the images
abbrev pub ReadingIsImage : Type 0
ReadingIsImage = (history : List Event) → Valid history → IsImage (Outcome history) (current history)

-- now is a moment since any earlier one
abbrev pub NowIsSince : Type 0
NowIsSince = (history : List Event) (moment : ℕ) (image : Files) (said : List ℕ) → moment ≤ length history → LeftNow history image said → Since history moment image said

-- since now there is no other moment
abbrev pub NothingElseNow : Type 0
NothingElseNow = (history : List Event) (image : Files) (said : List ℕ) → Since history (length history) image said → LeftNow history image said

-- what may have been left before a call may have been left after it
abbrev pub SinceOnlyGrows : Type 0
SinceOnlyGrows = (event : Event) (earlier : List Event) (moment : ℕ) (image : Files) (said : List ℕ) → moment ≤ length earlier → Since earlier moment image said → Since (event ∷ earlier) moment image said

-- after a file was made a crash may leave it absent or with any bytes
abbrev pub AnythingAfterMaking : Type 0
AnythingAfterMaking = (file : ℕ) (now c : Option (List ℕ)) (earlier : List Event) → Outcome (OnFile Created file now ∷ earlier) file c

-- and so after it was removed
abbrev pub AnythingAfterRemoval : Type 0
AnythingAfterRemoval = (file : ℕ) (now c : Option (List ℕ)) (earlier : List Event) → Outcome (OnFile Removed file now ∷ earlier) file c

-- after a write a crash may leave whatever it tears of what might have been left before it
abbrev pub EachTearIsLeft : Type 0
EachTearIsLeft = (at n file : ℕ) (now before c : Option (List ℕ)) (earlier : List Event) → Outcome earlier file before → Tears at n before c → Outcome (OnFile (Written at n) file now ∷ earlier) file c

-- a file with these bytes in the place of n from an offset on
abbrev pub spliced : ℕ → ℕ → List ℕ → List ℕ → List ℕ
spliced at n bytes file = take at file ++ bytes ++ drop (at + n) file

-- a write tears a file to any bytes in its range and past the old end, of any length from the old to the new, and an absent one not at all
abbrev pub AnyBytesAreTorn : Type 0
AnyBytesAreTorn = (at n : ℕ) (bytes file : List ℕ) → length file ≤ length (spliced at n bytes file) → length (spliced at n bytes file) ≤ max (length file) (at + n) → Tears at n (Some file) (Some (spliced at n bytes file))

abbrev pub AbsentStaysAbsent : Type 0
AbsentStaysAbsent = (at n : ℕ) → Tears at n None None

-- a sync that failed leaves what might have been left, all of it and nothing else
abbrev pub FailedSyncSettlesNothing : Type 0
FailedSyncSettlesNothing = (file : ℕ) (now : Option (List ℕ)) (earlier : List Event) → SameOutcomes (Outcome earlier file) (Outcome (OnFile SyncFailed file now ∷ earlier) file)

-- a change of a file leaves of every other what might have been left of it
abbrev pub OthersKeepTheirOutcomes : Type 0
OthersKeepTheirOutcomes = (change : Change) (file : ℕ) (now : Option (List ℕ)) (earlier : List Event) → LeavesSameBut file (Outcome earlier) (Outcome (OnFile change file now ∷ earlier))

-- whatever is chosen of each file's outcomes may be left together, with the replies so far
abbrev pub EachChoiceIsLeft : Type 0
EachChoiceIsLeft = (history : List Event) (image : Files) → ((file : ℕ) → Outcome history file (image file)) → LeftNow history image (replies history)

-- a crash within a reply may leave any front of it
abbrev pub EachFrontIsLeft : Type 0
EachFrontIsLeft = (front more : List ℕ) (earlier : List Event) (moment : ℕ) (image : Files) → moment ≤ length earlier → IsImage (Outcome earlier) image → Since (Replied (front ++ more) ∷ earlier) moment image (replies earlier ++ front)

-- a reply leaves of every file what might have been left of it
abbrev pub RepliesKeepOutcomes : Type 0
RepliesKeepOutcomes = (bytes : List ℕ) (earlier : List Event) (file : ℕ) → SameOutcomes (Outcome earlier file) (Outcome (Replied bytes ∷ earlier) file)

-- whatever a call that failed did to a file may follow
abbrev pub PartsAreValid : Type 0
PartsAreValid = (change : Change) (file : ℕ) (now : Option (List ℕ)) (history : List Event) → Valid history → Fits change (current history file) now → Valid (OnFile change file now ∷ history)

-- and so may any reply
abbrev pub RepliesAreValid : Type 0
RepliesAreValid = (bytes : List ℕ) (history : List Event) → Valid history → Valid (Replied bytes ∷ history)

-- a call that failed may have done nothing
abbrev pub NothingMayBeDone : Type 0
NothingMayBeDone = (change : Change) (file : ℕ) (bytes : List ℕ) (history : List Event) → ChangesInPart change file history history × RepliesInPart bytes history history

-- where it was to make a file, that reads as before or as any bytes, and its making is pending
abbrev pub AnyBytesMayBeMade : Type 0
AnyBytesMayBeMade = (file : ℕ) (bytes : List ℕ) (history : List Event) →
    ChangesInPart Created file history (OnFile Created file (current history file) ∷ history) × ChangesInPart Created file history (OnFile Created file (Some bytes) ∷ history)

-- where it was to write, the file reads as the write may tear it
abbrev pub EachTearMayBeRead : Type 0
EachTearMayBeRead = (at n file : ℕ) (now : Option (List ℕ)) (history : List Event) → Tears at n (current history file) now → ChangesInPart (Written at n) file history (OnFile (Written at n) file now ∷ history)

-- where it was to remove a file, that reads as before or is absent, and its removal is pending
abbrev pub RemovalMayBePending : Type 0
RemovalMayBePending = (file : ℕ) (history : List Event) →
    ChangesInPart Removed file history (OnFile Removed file (current history file) ∷ history) × ChangesInPart Removed file history (OnFile Removed file None ∷ history)

-- where it was to reply, any front may have been given
abbrev pub AnyFrontMayBeGiven : Type 0
AnyFrontMayBeGiven = (front more : List ℕ) (history : List Event) → RepliesInPart (front ++ more) history (Replied front ∷ history)
