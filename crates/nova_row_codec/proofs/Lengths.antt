-- How long spellings are at least.
use Rattle.std.proofs.Common.{ℕ, ◌*◌, ◌≤◌, List, [], ◌∷◌, length, slice_index_or, ap, ◌∙◌, arith}
use Rattle.std.specs.List.{AllByRecursion}
use Rattle.std.proofs.lemmas.List.{length-append}
use Rattle.std.proofs.lemmas.List.Concat.{flat_map-cons}
use Rattle.nova_value.specs.declared.value.Value.{Value}
use Rattle.nova_value.specs.declared.value.Value.TheVariants.{Long, Text}
use Rattle.nova_value.specs.declared.value.Kind.{Kind}
use Rattle.nova_value.specs.declared.value.Kind.TheVariants as kind
use Rattle.nova_value.specs.declared.schema.Entry.{Entry}
use Rattle.nova_value.specs.declared.schema.Entry.TheVariants.{Put, Removal}
use Rattle.nova_value.specs.Rows.{Shape, IsShape, FitKinds, kinds, key_kinds}
use Rattle.nova_value.specs.declared.schema.Column.{Column}
use Rattle.nova_value.specs.Entries.{FitsEntry}
use Rattle.nova_delta.specs.Listed.{entries_of}
use Rattle.nova_delta.proofs.Listed.{entries_fit}
use Rattle.nova_row_codec.specs.Spelling.{two, eight, value_bytes, values_bytes, entry_bytes, entries_bytes}
use Rattle.nova_row_codec.specs.Statements.{ThreeBytesEach}
use Rattle.std.proofs.lemmas.List.{length-map}

two_bytes : (v : Value) → 2 ≤ length (value_bytes v)
unfolding value_bytes
two_bytes (Long n) = omega arith
two_bytes (Text text) = omega (arith, length-append (two (length text)) text)

some_bytes : (ks : List Kind) (vs : List Value) → 1 ≤ length ks → FitKinds ks vs → 2 ≤ length (values_bytes vs)
some_bytes [] vs some fit = absurd (omega (arith, some))
some_bytes (k ∷ ks) [] some fit = absurd fit
some_bytes (k ∷ ks) (v ∷ vs) some fit =
    let n = ap (λ (b : List ℕ). length b) (flat_map-cons value_bytes v vs) ∙ length-append (value_bytes v) (values_bytes vs) in
    omega (arith, n, two_bytes v)

three_bytes : (s : Shape) (e : Entry) → IsShape s → FitsEntry s e → 3 ≤ length (entry_bytes e)
unfolding entry_bytes
three_bytes s (Put row) is fit = let n = some_bytes (kinds s.columns) row (omega (arith, is.some_column, length-map s.columns (λ (c : Column). c.kind))) fit in omega (arith, n)
three_bytes s (Removal key) is fit = let n = some_bytes (key_kinds s) key (let m = length-map s.key (λ p. slice_index_or (kinds s.columns) p kind.Long) in omega (arith, is.some_key, m)) fit in omega (arith, n)

all_long : (s : Shape) (es : List Entry) → IsShape s → AllByRecursion (FitsEntry s) es → 3 * length es ≤ length (entries_bytes es)
all_long s [] is fit = omega arith
all_long s (e ∷ es) is fit =
    let n = ap (λ (b : List ℕ). length b) (flat_map-cons entry_bytes e es) ∙ length-append (entry_bytes e) (entries_bytes es) in
    omega (arith, n, three_bytes s e is fit.0, all_long s es is fit.1)

pub three_bytes_each : ThreeBytesEach
three_bytes_each d is delta =
    let n = all_long d.schema (entries_of d) is (entries_fit d delta) in
    omega (arith, n, length-append (eight (length (entries_of d))) (entries_bytes (entries_of d)))
