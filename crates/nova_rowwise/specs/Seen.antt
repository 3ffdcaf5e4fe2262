-- Fields as plain items.
use Rattle.nova_value.specs.declared.value.Value.TheVariants.{Long, Text}
use Rattle.nova_pig_algebra.specs.Keys.{Plain, Column, By, Constant, Computed}
use Rattle.nova_rowwise.specs.declared.source.Field.{Field}
use Rattle.nova_rowwise.specs.declared.source.Field.TheVariants as field

abbrev pub plain_of : Field → Plain
plain_of (field.Column k) = Column k
plain_of (field.By k) = By k
plain_of (field.Number n) = Constant (Long n)
plain_of (field.Text t) = Constant (Text t.now)
plain_of field.Computed = Computed
