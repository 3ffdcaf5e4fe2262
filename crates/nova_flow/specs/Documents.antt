-- What the values of a document hold.
use Rattle.std.specs.Prelude.{ℕ, Bool, if◌then◌else◌, List, [], ◌∷◌, map, Option, Some, None, option_map, option_and_then, is_some}
use Rattle.std.specs.List.{list_all, list_any}
use Rattle.std.specs.Ordering.{nat_cmp, match_ordering}
use Rattle.std.specs.Cmp.Lexicographic.{slice_cmp}
use Rattle.toml.specs.Data.{Data, string, Items, no_items, item, Members, no_members, member, get, as_str, as_array, as_table}
use Rattle.toml.specs.declared.value.Value.{Value}
use Rattle.toml.specs.View.{view}
use Rattle.nova_name.specs.Keywords.{same_text}

abbrev pub list_of : Items → List Data
list_of no_items = []
list_of (item d ds) = d ∷ list_of ds

-- whether one of the keys is this one
abbrev pub is_among : List ℕ → List (List ℕ) → Bool
is_among k keys = list_any (λ known. same_text known k) keys

-- of two keys the one that comes first in byte order
abbrev pub first_of : List ℕ → Option (List ℕ) → List ℕ
first_of k None = k
first_of k (Some l) = match_ordering (slice_cmp nat_cmp k l) k k l

-- the first key in byte order that isn't one of these
abbrev pub unknown_in : List (List ℕ) → Members → Option (List ℕ)
unknown_in keys no_members = None
unknown_in keys (member k d ms) =
    if is_among k keys then unknown_in keys ms else Some (first_of k (unknown_in keys ms))

abbrev pub unknown_key : List (List ℕ) → Data → Option (List ℕ)
unknown_key keys d = option_and_then (unknown_in keys) (as_table d)

abbrev pub is_text : Data → Bool
is_text d = is_some (as_str d)

abbrev pub is_table : Data → Bool
is_table d = is_some (as_table d)

-- the text that a value is; of another value, none
abbrev pub text_of : Data → List ℕ
text_of (string s) = s
text_of _ = []

-- whether a key is there
abbrev pub has : List ℕ → Data → Bool
has key d = is_some (get key d)

-- the text at a key
abbrev pub text_at : List ℕ → Data → Option (List ℕ)
text_at key d = option_and_then as_str (get key d)

-- the values of the array at a key
abbrev pub values_at : List ℕ → Data → Option (List Data)
values_at key d = option_map list_of (option_and_then as_array (get key d))

-- the list, if all of it passes
abbrev pub all_pass : (Data → Bool) → List Data → Option (List Data)
all_pass test ds = if list_all test ds then Some ds else None

-- the tables of the array of tables at a key
abbrev pub tables_at : List ℕ → Data → Option (List Data)
tables_at key d = option_and_then (all_pass is_table) (values_at key d)

-- the texts of the array of texts at a key
abbrev pub texts_at : List ℕ → Data → Option (List (List ℕ))
texts_at key d = option_map (map text_of) (option_and_then (all_pass is_text) (values_at key d))

-- the text that a value of a list is
abbrev pub text_in : Value → List ℕ
text_in v = text_of (view v)
