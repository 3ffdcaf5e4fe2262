-- What calls did that did nothing but reply.
use Rattle.std.specs.Prelude.{◌≡◌, ℕ, Bool, List, [], ◌∷◌, ◌++◌, IsTrue}
use Rattle.nova_outside.specs.History.{Event, Replied, Begins}

-- a history after these replies, the first of them first
abbrev pub after_replies : List Event → List (List ℕ) → List Event
after_replies h [] = h
after_replies h (bytes ∷ more) = after_replies (Replied bytes ∷ h) more

-- texts one after the other
abbrev pub in_one : List (List ℕ) → List ℕ
in_one [] = []
in_one (bytes ∷ more) = bytes ++ in_one more

-- only replies were made, and they gave these bytes
pub record HasReplied (old new : List Event) (bytes : List ℕ) : Type 0 where
  pub pieces : List (List ℕ)
  pub only : new ≡ after_replies old pieces
  pub whole : in_one pieces ≡ bytes

-- only replies were made, and they gave some front of these bytes
pub record HasRepliedInPart (old new : List Event) (bytes : List ℕ) : Type 0 where
  pub given : List ℕ
  pub front : Begins given bytes
  pub replied : HasReplied old new given

-- the same of a host that is honest
abbrev pub Gives : Bool → List Event → List Event → List ℕ → Type 0
Gives is_honest old new bytes = IsTrue is_honest → HasReplied old new bytes

abbrev pub GivesInPart : Bool → List Event → List Event → List ℕ → Type 0
GivesInPart is_honest old new bytes = IsTrue is_honest → HasRepliedInPart old new bytes
