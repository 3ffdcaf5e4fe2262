-- A state from the start of bytes, as the code reads it: what was read and the bytes after it, or the first flaw. That
-- this reads exactly the spellings is a law.
use Rattle.std.specs.Prelude.{◌≡◌, ℕ, zero, suc, ◌-◌, Bool, true, ◌==◌, nat_lt, if◌then◌else◌, List, [], ◌∷◌, ◌++◌, length, take, drop, Result, Ok, Err}
use Rattle.std.specs.declared.cmp.Ordering.{Ordering}
use Rattle.std.specs.Ordering.{is_lt}
use Rattle.std.specs.Int.{w64, from_be_bytes, cast_signed}
use Rattle.nova_value.specs.declared.value.Kind.{Kind}
use Rattle.nova_value.specs.declared.value.Value.{Value}
use Rattle.nova_value.specs.Order.{value_cmp, key_cmp}
use Rattle.nova_row_codec.specs.declared.fault.CodecFault.{CodecFault}
use Rattle.nova_row_codec.specs.declared.fault.CodecFault.TheVariants as codec
use Rattle.nova_row_codec.specs.Reading.{value_at, values_at}
use Rattle.nova_groups.specs.declared.item.Item.{Item}
use Rattle.nova_groups.specs.declared.item.Item.TheVariants as item
use Rattle.nova_groups.specs.declared.group.Share.{Share}
use Rattle.nova_groups.specs.Kinds.{Group}
use Rattle.nova_groups.specs.Numbers.{count_seen}
use Rattle.nova_group_codec.specs.declared.fault.Flaw.{Flaw}
use Rattle.nova_group_codec.specs.declared.fault.Flaw.TheVariants.{Short, Broken, NoMemory}
use Rattle.nova_group_codec.specs.declared.sorts.Kept.{Kept}
use Rattle.nova_group_codec.specs.declared.sorts.Kept.TheVariants.{Total, Counts}
use Rattle.nova_group_codec.specs.Sorts.{SortsValue, argument_kinds}

-- what was read and the bytes after it, or a flaw
abbrev pub Read : Type 0 → Type 0
Read X = Result (X × List ℕ) Flaw

-- a reading and then a further one; the first flaw stays
infixl 10 ◌>>=◌
abbrev pub ◌>>=◌ : {A B : Type 0} → Result A Flaw → (A → Result B Flaw) → Result B Flaw
(Ok x) >>= f = f x
(Err e) >>= f = Err e

-- an answer, seen by view, is what the reading gives, unless memory ran out
abbrev pub Fails : {Y : Type 0} → Flaw → Result Y Flaw → Type 0
Fails NoMemory read = Unit {0}
Fails Short read = read ≡ Err Short
Fails Broken read = read ≡ Err Broken

abbrev pub Gives : {X Y : Type 0} → (X → Y) → Result X Flaw → Result Y Flaw → Type 0
Gives view (Ok x) read = read ≡ Ok (view x)
Gives view (Err e) read = Fails e read

-- a fault of values, as a flaw
abbrev pub flaw_of : CodecFault → Flaw
flaw_of codec.Short = Short
flaw_of codec.BadTag = Broken
flaw_of codec.BadText = Broken
flaw_of codec.OutOfOrder = Broken
flaw_of codec.NoMemory = NoMemory

abbrev pub flawed : {X : Type 0} → Result X CodecFault → Result X Flaw
flawed (Ok x) = Ok x
flawed (Err e) = Err (flaw_of e)

-- ---- numbers and values

unfoldable pub number_at : List ℕ → Read ℕ
number_at bytes =
    if nat_lt (length bytes) 8 then Err Short
    else Ok (from_be_bytes w64 (take 8 bytes), drop 8 bytes)

-- a number from 1
unfoldable pub positive_at : List ℕ → Read ℕ
positive_at bytes = number_at bytes >>= λ a. if a.0 == 0 then Err Broken else Ok a

-- a value and how often it stands
unfoldable pub count_at : Kind → List ℕ → Read (Value × ℕ)
count_at k bytes = flawed (value_at k bytes) >>= λ a. positive_at a.1 >>= λ b. Ok ((a.0, b.0), b.1)

-- ---- lists in order

-- with a flaw, how many bytes there were from the start of the thing that has it
abbrev pub Listed : Type 0 → Type 0
Listed X = Result (List X × List ℕ) (Flaw × ℕ)

-- an answer, seen by view, is what the reading gives, unless memory ran out
abbrev pub FailsAt : {Y : Type 0} → Flaw → ℕ → Result Y (Flaw × ℕ) → Type 0
FailsAt NoMemory left read = Unit {0}
FailsAt Short left read = read ≡ Err (Short, left)
FailsAt Broken left read = read ≡ Err (Broken, left)

abbrev pub GivesAt : {X Y : Type 0} → (X → Y) → Result X (Flaw × ℕ) → Result Y (Flaw × ℕ) → Type 0
GivesAt view (Ok x) read = read ≡ Ok (view x)
GivesAt view (Err e) read = FailsAt e.0 e.1 read

-- a key is above that of the last one
abbrev pub is_above : {K X : Type 0} → (K → K → Ordering) → List (K × X) → K → Bool
is_above R [] k = true
is_above R (e ∷ []) k = is_lt (R e.0 k)
is_above R (e ∷ f ∷ es) k = is_above R (f ∷ es) k

module _ {K X : Type 0} (R : K → K → Ordering) (read : List ℕ → Read (K × X)) where
  -- the next one, whose key is above that of the last one
  abbrev pub in_order : List (K × X) → (K × X) × List ℕ → Read (K × X)
  in_order es a = if is_above R es a.0.0 then Ok a else Err Broken

  abbrev pub next_at : List (K × X) → List ℕ → Read (K × X)
  next_at es bytes = read bytes >>= in_order es

  abbrev pub kept : (List (K × X) → List ℕ → Listed (K × X)) → List (K × X) → List ℕ → Read (K × X) → Listed (K × X)
  kept more es bytes (Err f) = Err (f, length bytes)
  kept more es bytes (Ok a) = more (es ++ a.0 ∷ []) a.1

  -- so many more, after these
  unfoldable pub more_at : ℕ → List (K × X) → List ℕ → Listed (K × X)
  more_at zero es bytes = Ok (es, bytes)
  more_at (suc n) es bytes = kept (more_at n) es bytes (next_at es bytes)

  abbrev pub counted : List ℕ → Read ℕ → Listed (K × X)
  counted bytes (Err f) = Err (f, length bytes)
  counted bytes (Ok a) = more_at a.0 [] a.1

  -- so many as the number before them says
  unfoldable pub list_at : List ℕ → Listed (K × X)
  list_at bytes = counted bytes (number_at bytes)

-- ---- aggregates, contributions and groups

-- a list within an aggregate: where its flaw is isn't told
abbrev pub without_place : {X : Type 0} → Listed X → Read (List X)
without_place (Ok a) = Ok a
without_place (Err e) = Err e.0

abbrev pub counts_at : Kind → List ℕ → Read (List (Value × ℕ))
counts_at k bytes = without_place (list_at value_cmp (count_at k) bytes)

abbrev pub total_at : List ℕ → Read Item
total_at bytes = number_at bytes >>= λ a. Ok (item.Total (cast_signed w64 a.0), a.1)

unfoldable pub item_at : Kept → List ℕ → Read Item
item_at Total bytes = total_at bytes
item_at (Counts k) bytes = counts_at k bytes >>= λ a. Ok (item.Counts (count_seen a.0), a.1)

unfoldable pub items_at : List Kept → List ℕ → Read (List Item)
items_at [] bytes = Ok ([], bytes)
items_at (c ∷ cs) bytes = item_at c bytes >>= λ a. items_at cs a.1 >>= λ b. Ok (a.0 ∷ b.0, b.1)

-- the input key, the BY values, the arguments
unfoldable pub share_at : SortsValue → List ℕ → Read (List Value × Share)
share_at s bytes = flawed (values_at s.key bytes) >>= λ a. flawed (values_at s.by a.1) >>= λ b. flawed (values_at (argument_kinds s.kept) b.1) >>= λ c. Ok ((a.0, record { by = b.0; args = c.0 }), c.1)

-- the BY values, the number of members, the aggregates
unfoldable pub group_at : SortsValue → List ℕ → Read (List Value × Group)
group_at s bytes = flawed (values_at s.by bytes) >>= λ a. positive_at a.1 >>= λ b. items_at s.kept b.1 >>= λ c. Ok ((a.0, record { members = b.0; items = c.0 }), c.1)

-- ---- a state

abbrev pub Parts : Type 0
Parts = List (List Value × Share) × List (List Value × Group)

-- the contributions, the groups, and nothing after
abbrev pub ends : List (List Value × Share) → Listed (List Value × Group) → Result Parts (Flaw × ℕ)
ends shares (Err e) = Err e
ends shares (Ok (groups, [])) = Ok (shares, groups)
ends shares (Ok (groups, b ∷ bs)) = Err (Broken, length (b ∷ bs))

abbrev pub then_groups : SortsValue → Listed (List Value × Share) → Result Parts (Flaw × ℕ)
then_groups s (Err e) = Err e
then_groups s (Ok a) = ends a.0 (list_at key_cmp (group_at s) a.1)

unfoldable pub parts_at : SortsValue → List ℕ → Result Parts (Flaw × ℕ)
parts_at s bytes = then_groups s (list_at key_cmp (share_at s) bytes)

-- the place of a flaw in bytes of this length: their end where they are too short, and otherwise the start of the thing
-- that has the flaw
abbrev pub place : ℕ → Flaw × ℕ → ℕ
place whole (Short, left) = whole
place whole (Broken, left) = whole - left
place whole (NoMemory, left) = 0
