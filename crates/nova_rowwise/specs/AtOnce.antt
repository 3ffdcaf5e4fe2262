-- The same delta, with all put rows at once: a removal at each output key, and then a put of each row that is made.
use Rattle.std.specs.Prelude.{List, [], ◌∷◌, map, flat_map}
use Rattle.std.specs.FinMap as fin
use Rattle.nova_value.specs.declared.schema.Entry.{Entry}
use Rattle.nova_value.specs.declared.schema.Entry.TheVariants.{Put, Removal}
use Rattle.nova_value.specs.Rows.{Shape}
use Rattle.nova_delta.specs.Merge.{DeltaValue}
use Rattle.nova_delta.specs.Merge.{no_change}
use Rattle.nova_delta.specs.Listed.{entries_of}
use Rattle.nova_pig_algebra.specs.Meaning.{Row}
use Rattle.nova_pig_algebra.specs.Plan.{Plan, tree_of_plan}
use Rattle.nova_rowwise.specs.Sources.{Key, source_keys}
use Rattle.nova_rowwise.specs.Derived.{made_of, set_all}

-- the rows that are put
abbrev pub put_rows : List Entry → List Row
put_rows [] = []
put_rows (Put row ∷ es) = row ∷ put_rows es
put_rows (Removal k ∷ es) = put_rows es

-- a removal at each output key of each of these keys
abbrev pub removals : (Key → List Key) → List Key → List Entry
removals outs ks = flat_map (λ k. map Removal (outs k)) ks

-- all at once, by the rows that are made of the put ones
abbrev pub at_once_by : Shape → (Key → List Key) → List Row → DeltaValue → DeltaValue
at_once_by o outs made d = set_all (set_all (no_change o) (removals outs (fin.keys d.entries))) (map Put made)

abbrev pub at_once : Plan → List (List Row) → DeltaValue → DeltaValue
at_once p lookups d = at_once_by p.output (source_keys d.schema p.output (tree_of_plan p)) (made_of (tree_of_plan p) lookups (put_rows (entries_of d))) d
