-- Values that are lent.
use Rattle.nova_value.specs.declared.value.Value.{Value}
use Rattle.nova_value.specs.declared.value.Value.TheVariants.{Long, Text}
use Rattle.nova_pig_algebra.specs.declared.facts.Lent.{Lent}
use Rattle.nova_pig_algebra.specs.declared.facts.Lent.TheVariants as lent

-- the value of a number or of a text that stands elsewhere
abbrev pub lent_value : Lent → Value
lent_value (lent.Long n) = Long n
lent_value (lent.Text t) = Text t.now
