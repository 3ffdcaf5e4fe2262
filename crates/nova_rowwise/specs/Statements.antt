-- What the laws of this crate say.
use Rattle.std.specs.Prelude.{◌≡◌, ◌⊎◌, ◌↔◌, Bool, List, [], ◌∷◌, Some, flat_map}
use Rattle.std.specs.FinMap as fin
use Rattle.nova_value.specs.declared.schema.Entry.{Entry}
use Rattle.nova_value.specs.Rows.{Shape, IsShape}
use Rattle.nova_delta.specs.Merge.{RowMap, EntryMap, TableValue, DeltaValue, IsTable, IsDelta, merged, merge_of}
use Rattle.nova_delta.specs.Seen.{table_of}
use Rattle.nova_pig_algebra.specs.Meaning.{Row}
use Rattle.nova_pig_algebra.specs.Statements.{In}
use Rattle.nova_pig_algebra.specs.Keys.{shape_at}
use Rattle.nova_pig_algebra.specs.Plan.{Plan, IsPlan, tree_of_plan, rows_of}
use Rattle.nova_pig_pattern.specs.OutputKey.{HasOutputKey}
use Rattle.nova_pig_pattern.specs.declared.task.Input.{Input}
use Rattle.nova_pig_pattern.specs.declared.task.PatternKind.{PatternKind}
use Rattle.nova_pig_pattern.specs.declared.task.PatternKind.TheVariants.{Stateless, Lookup}
use Rattle.nova_pig_pattern.specs.Patterns.{pattern_of}
use Rattle.nova_pig_pattern.specs.Shapes.{IsStateless}
use Rattle.nova_pig_pattern.specs.Table.{IsMain}
use Rattle.nova_admit.specs.Shaped.{IsRowPlan}
use Rattle.nova_rowwise.specs.Sources.{Key}
use Rattle.nova_rowwise.specs.Derived.{main_of, made_of, plan_keys, answer, derived_by, derived}
use Rattle.nova_rowwise.specs.Rule.{Rule, Origin}

-- a table, and a delta, of a schema
abbrev pub of_rows : Shape → RowMap → TableValue
of_rows s m = record { schema = s; rows = m }

abbrev pub of_entries : Shape → EntryMap → DeltaValue
of_entries s d = record { schema = s; entries = d }

-- what a rule makes of a whole table
abbrev pub made_table : Shape → (Row → List Row) → RowMap → TableValue
made_table o of m = table_of o (flat_map of (fin.values m))

-- the delta of a rule, merged to what the rule made of a table, is what it makes of the merged table, whatever delta it is
abbrev pub RulesMerge : Type 0
RulesMerge = (s o : Shape) (outs : Key → List Key) → IsShape s → Origin s outs → (of : Row → List Row) → Rule s o outs of
    → (m n : RowMap) (d : EntryMap) → IsTable (of_rows s m) → IsTable (of_rows s n) → IsDelta (of_entries s d) → n ≡ merged m d
    → merge_of (made_table o of m) (derived_by o outs of (of_entries s d)) ≡ made_table o of n

-- the schema of the main input
abbrev pub main_shape : Plan → Shape
main_shape p = shape_at p.inputs (main_of (tree_of_plan p))

-- an output key of a row plan comes from one key
abbrev pub OutputKeysTell : Type 0
OutputKeysTell = (p : Plan) → IsRowPlan p → IsShape (main_shape p) → Origin (main_shape p) (plan_keys p)

-- an entry that the plan makes at an output key, of the delta's entry at a key that it comes from
pub record IsAnswer (p : Plan) (lookups : List (List Row)) (d : EntryMap) (q : Key) (e : Entry) : Type 0 where
  pub key : Key
  pub entry : Entry
  pub given : fin.get d key ≡ Some entry
  pub output : In q (plan_keys p key)
  pub is : e ≡ answer p.output (λ r. made_of (tree_of_plan p) lookups (r ∷ [])) entry q

-- the delta that a row plan makes has these entries, one for each output key of each key of its main input's delta, and no others
abbrev pub DerivedAtEachKey : Type 0
DerivedAtEachKey = (p : Plan) → IsRowPlan p → IsShape (main_shape p) → (lookups : List (List Row)) (d : EntryMap) → IsDelta (of_entries (main_shape p) d) → (q : Key) →
    ((e : Entry) → (fin.get (derived p lookups (of_entries (main_shape p) d)).entries q ≡ Some e) ↔ IsAnswer p lookups d q e)

-- for a stateless plan and any delta of its input: the plan's delta, merged to the result over a table, is the result over the merged table
abbrev pub StatelessMerges : Type 0
StatelessMerges = (p : Plan) → IsPlan p → HasOutputKey p → IsStateless 0 (tree_of_plan p) → IsShape (shape_at p.inputs 0) → p.inputs ≡ shape_at p.inputs 0 ∷ []
    → (m : RowMap) (d : EntryMap) → IsTable (of_rows (shape_at p.inputs 0) m) → IsDelta (of_entries (shape_at p.inputs 0) d)
    → merge_of (table_of p.output (rows_of p (fin.values m ∷ []))) (derived p [] (of_entries (shape_at p.inputs 0) d)) ≡ table_of p.output (rows_of p (fin.values (merged m d) ∷ []))

-- the main input of a task's row plan is its one NEW input
abbrev pub MainIsNew : Type 0
MainIsNew = (p : Plan) (inputs : List Input) (based : Bool) (kind : PatternKind) → pattern_of p.inputs inputs based (tree_of_plan p) ≡ Some kind → (kind ≡ Stateless) ⊎ (kind ≡ Lookup)
    → IsMain inputs (main_of (tree_of_plan p))
