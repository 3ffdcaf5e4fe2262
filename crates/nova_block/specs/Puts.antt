-- Which entries bring a row.
use Rattle.std.specs.Prelude.{Bool, true, false}
use Rattle.nova_value.specs.declared.schema.Entry.{Entry}
use Rattle.nova_value.specs.declared.schema.Entry.TheVariants.{Put, Removal}

abbrev pub brings : Entry → Bool
brings (Put row) = true
brings (Removal key) = false
