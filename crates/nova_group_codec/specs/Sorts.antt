-- Of which kinds a grouping task's state is.
use Rattle.std.specs.Prelude.{List, map, refl}
use Rattle.std.specs.Coded.{Coded, code_by, coded×, coded_list}
use Rattle.nova_value.specs.declared.value.Kind.{Kind}
use Rattle.nova_value.specs.declared.value.Kind.TheVariants as kind
use Rattle.nova_value.specs.contracts.value.Kind as kind_contract
use Rattle.nova_group_codec.specs.declared.sorts.Kept.{Kept}
use Rattle.nova_group_codec.specs.declared.sorts.Kept.TheVariants.{Total, Counts}
use Rattle.nova_group_codec.specs.contracts.sorts.Kept as kept_contract

-- the kinds of the input key and of the BY values, and the kept aggregates
pub record SortsValue : Type 0 where
  pub key : List Kind
  pub by : List Kind
  pub kept : List Kept

abbrev pub sorts_code : Coded SortsValue
sorts_code = code_by (List Kind × (List Kind × List Kept)) (coded× (coded_list kind_contract.the_row.coded) (coded× (coded_list kind_contract.the_row.coded) (coded_list kept_contract.the_row.coded))) (λ s. (s.key, (s.by, s.kept))) (λ p. record { key = p.0; by = p.1.0; kept = p.1.1 }) (λ _. refl)

-- the kind of an aggregate's arguments
abbrev pub argument_kind : Kept → Kind
argument_kind Total = kind.Long
argument_kind (Counts k) = k

abbrev pub argument_kinds : List Kept → List Kind
argument_kinds cs = map argument_kind cs
