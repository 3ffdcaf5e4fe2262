-- How a state lies in ordered maps.
use Rattle.std.specs.Prelude.{List, refl}
use Rattle.std.specs.Coded.{Coded, code_by, coded×, coded_list}
use Rattle.std.specs.FinMap as fin
use Rattle.nova_value.specs.declared.value.Value.{Value}
use Rattle.nova_value.specs.contracts.value.Value as value
use Rattle.nova_groups.specs.declared.group.Share.{Share}
use Rattle.nova_groups.specs.contracts.group.Share as share
use Rattle.nova_groups.specs.Kinds.{Group, group_code}
use Rattle.nova_groups.specs.State.{ShareMap, GroupMap, StateValue}

abbrev pub share_seen : List (List Value × Share) → ShareMap
share_seen es = fin.from_entries es

abbrev pub group_seen : List (List Value × Group) → GroupMap
group_seen es = fin.from_entries es

abbrev pub state_code : Coded StateValue
state_code = code_by (ShareMap × GroupMap) (coded× (fin.code (coded_list value.the_row.coded) share.the_row.coded) (fin.code (coded_list value.the_row.coded) group_code)) (λ s. (s.shares, s.groups)) (λ p. record { shares = p.0; groups = p.1 }) (λ _. refl)
