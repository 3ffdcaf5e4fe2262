-- The entries of the loads.
use Rattle.std.specs.Prelude.{ℕ, pos, ◌+◌, ◌%◌, ◌/◌, ◌==◌, List, [], ◌∷◌, codes, fold, map, if◌then◌else◌}
use Rattle.nova_value.specs.declared.value.Value.{Value}
use Rattle.nova_value.specs.declared.value.Value.TheVariants.{Long, Text}
use Rattle.nova_value.specs.declared.value.Kind.TheVariants as kind
use Rattle.nova_value.specs.declared.schema.Column.{Column}
use Rattle.nova_value.specs.declared.schema.Entry.{Entry}
use Rattle.nova_value.specs.declared.schema.Entry.TheVariants.{Put, Removal}
use Rattle.nova_value.specs.Rows.{Shape}
use Rattle.nova_delta.specs.Merge.{DeltaValue, no_change}
use Rattle.nova_delta.specs.Seen.{with_entry}
use Rattle.nova_drill.specs.Numbers.{numbers_after}

abbrev long : List ℕ → Column
long name = record { name = name; kind = kind.Long }

abbrev chararray : List ℕ → Column
chararray name = record { name = name; kind = kind.Text }

-- requests: a number, the page, and how long it took
abbrev pub raw_schema : Shape
raw_schema = record { columns = long (codes "id") ∷ chararray (codes "url") ∷ long (codes "ms") ∷ []; key = 0 ∷ [] }

-- pages: each with its tag
abbrev pub pages_schema : Shape
pages_schema = record { columns = chararray (codes "url") ∷ chararray (codes "tag") ∷ []; key = 0 ∷ [] }

-- "/0" to "/3", and "t0" to "t3"
abbrev pub url : ℕ → List ℕ
url page = 47 ∷ (48 + page) ∷ []

abbrev pub tag : ℕ → List ℕ
tag page = 116 ∷ (48 + page) ∷ []

abbrev pub page_entry : ℕ → Entry
page_entry page = Put (Text (url page) ∷ Text (tag page) ∷ [])

-- one of 101 requests, of 4 pages, in 0 to 159 milliseconds
abbrev pub raw_row : ℕ → List Value
raw_row x = Long (pos (x % 101)) ∷ Text (url (x / 101 % 4)) ∷ Long (pos (x / 404 % 160)) ∷ []

-- the entry behind a number: a removal where it is a multiple of eight
abbrev pub raw_entry : ℕ → Entry
raw_entry x = if x % 8 == 0 then Removal (Long (pos (x % 101)) ∷ []) else Put (raw_row x)

-- these entries in turn: the last one of a key wins
abbrev pub with_entries : DeltaValue → List Entry → DeltaValue
with_entries d es = fold with_entry d es

-- the load of pages
abbrev pub pages_load : DeltaValue
pages_load = with_entries (no_change pages_schema) (map page_entry (0 ∷ 1 ∷ 2 ∷ 3 ∷ []))

-- a load of requests: the entries of the eight numbers behind x
abbrev pub raw_load : ℕ → DeltaValue
raw_load x = with_entries (no_change raw_schema) (map raw_entry (numbers_after 8 x))
