-- The worked sessions, by the definitions alone.
use Rattle.std.proofs.Common.{List, [], ◌++◌, map, refl}
use Rattle.std.specs.Prelude.{codes}
use Rattle.std.specs.List.{flat_map}
use Rattle.std.specs.Fmt.{digits}
use Rattle.std.specs.FinMap as fin
use Rattle.nova_value.specs.declared.value.Value.{Value}
use Rattle.nova_value.specs.Line.{row_of_text, fields_of, values_of}
use Rattle.nova_value.specs.Order.{key_cmp}
use Rattle.nova_value.specs.RowLine.{row_line}
use Rattle.nova_script.specs.Replies as line
use Rattle.nova_machine.proofs.Examples.{no_entries}
use Rattle.nova_building.specs.Sessions.{BuiltAlone, BuiltShown}

pub built_alone : BuiltAlone
unfolding digits row_of_text fields_of values_of
built_alone = refl

pub built_shown : BuiltShown
unfolding digits
built_shown z = (flat_map row_line (map (λ (e : List Value × List Value). e.1) (no_entries z)) ++ line.shown (codes "raw") 0 (fin.len-empty key_cmp (List Value) z)) ++ []
