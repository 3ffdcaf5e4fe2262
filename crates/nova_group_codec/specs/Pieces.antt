-- The sorts of the pieces of a plan over groups.
use Rattle.std.specs.Prelude.{ℕ, List, map, slice_index_or, Option, Some, None}
use Rattle.std.specs.List.{filter_map}
use Rattle.nova_value.specs.declared.value.Kind.{Kind}
use Rattle.nova_value.specs.declared.value.Kind.TheVariants.{Long}
use Rattle.nova_pig_tree.specs.declared.expression.CallKind.{CallKind}
use Rattle.nova_pig_tree.specs.declared.expression.CallKind.TheVariants as call
use Rattle.nova_pig_algebra.specs.Meaning.{Call}
use Rattle.nova_group_codec.specs.declared.sorts.Kept.{Kept}
use Rattle.nova_group_codec.specs.declared.sorts.Kept.TheVariants.{Total, Counts}
use Rattle.nova_group_codec.specs.Sorts.{SortsValue}

-- the kind of a column; beyond the last a value is the long 0
abbrev pub kind_at : List Kind → ℕ → Kind
kind_at ks p = slice_index_or ks p Long

-- the kind of a call's argument, which is the long 0 where it has no column
abbrev pub kind_of : List Kind → Option ℕ → Kind
kind_of ks None = Long
kind_of ks (Some p) = kind_at ks p

-- what is kept of a call, over arguments of this kind: the number of members gives COUNT
abbrev pub kept_by : CallKind → Kind → Option Kept
kept_by call.Count k = None
kept_by call.Sum k = Some Total
kept_by call.Min k = Some (Counts k)
kept_by call.Max k = Some (Counts k)

abbrev pub kept_of : List Kind → Call → Option Kept
kept_of ks c = kept_by c.kind (kind_of ks c.column)

-- the kinds of the input key; then over rows of these kinds those of the BY columns, and what is kept of the calls
abbrev pub sorts_of : List Kind → List Kind → List ℕ → List Call → SortsValue
sorts_of key ks columns calls = record { key = key; by = map (kind_at ks) columns; kept = filter_map (kept_of ks) calls }
