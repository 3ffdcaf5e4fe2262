-- A group as a value.
use Rattle.std.specs.Prelude.{ℕ, List, refl}
use Rattle.std.specs.Coded.{Coded, code_by, coded×, coded_list, coded_ℕ}
use Rattle.nova_groups.specs.declared.item.Item.{Item}
use Rattle.nova_groups.specs.contracts.item.Item as item

-- the number of its members, and a kept item per kept aggregate
pub record Group : Type 0 where
  pub members : ℕ
  pub items : List Item

abbrev pub group_code : Coded Group
group_code = code_by (ℕ × List Item) (coded× coded_ℕ (coded_list item.the_row.coded)) (λ g. (g.members, g.items)) (λ p. record { members = p.0; items = p.1 }) (λ _. refl)
