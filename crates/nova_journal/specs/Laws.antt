-- A file is read in one way: laws of the format.
use Rattle.std.specs.Prelude.{◌≡◌, ℕ, List}
use Rattle.nova_journal.specs.Log.{Log, DamagedAt, ReadTo, IsShort, frame}

-- no file is the journal of two lists of payloads
abbrev pub OneLog : Type 0
OneLog = (file : List ℕ) (payloads others : List (List ℕ)) → Log payloads file → Log others file → payloads ≡ others

-- a file that is damaged is so at one place
abbrev pub OnePlace : Type 0
OnePlace = (file : List ℕ) (at other : ℕ) → DamagedAt at file → DamagedAt other file → at ≡ other

-- no file is both whole and damaged
abbrev pub WholeOrDamaged : Type 0
WholeOrDamaged = (file : List ℕ) (end at : ℕ) (payloads : List (List ℕ)) → ReadTo end payloads file → DamagedAt at file → ⊥

-- no two payloads have one frame
abbrev pub OneFrame : Type 0
OneFrame = (payload other : List ℕ) → IsShort payload → IsShort other → frame payload ≡ frame other → payload ≡ other
