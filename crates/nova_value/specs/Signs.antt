-- What the fields of a line or an entry are of.
use Rattle.std.specs.Prelude.{List}
use Rattle.nova_value.specs.declared.value.Kind.{Kind}
use Rattle.nova_value.specs.declared.sign.Sign.{Sign}
use Rattle.nova_value.specs.declared.sign.Sign.TheVariants.{Put, Removal}
use Rattle.nova_value.specs.Rows.{Shape, kinds, key_kinds}

-- a put has a field for each column, a removal one for each key column
abbrev pub kinds_for : Shape → Sign → List Kind
kinds_for s Put = kinds s.columns
kinds_for s Removal = key_kinds s
