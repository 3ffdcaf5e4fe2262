use Rattle.std.proofs.Common.{◌≡◌, ◌++◌, map, take}
use Rattle.nova_delta.specs.Merge.{TableValue}
use Rattle.nova_rowwise_cases.proofs.answers.Lines.add_tables.Given as goal

abbrev pub invariant-loop-schema : goal.invariant-loop-schema
invariant-loop-schema l = map (λ (t : TableValue). t.schema) l.all.items ≡ map (λ (t : TableValue). t.schema) l.fn.all.items ++ take l.schema-index l.schemas
