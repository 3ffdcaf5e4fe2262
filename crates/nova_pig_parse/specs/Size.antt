-- How large the script of a text is, which bounds each descent into it and each place that it numbers.
use Rattle.std.specs.Prelude.{List}
use Rattle.nova_pig_tree.specs.declared.statement.Statement.{Statement}
use Rattle.nova_pig_tree.specs.Size.{IsSmall}
use Rattle.nova_pig_scan.specs.Lexemes.{Text}
use Rattle.nova_pig_parse.specs.Script.{IsScriptOf}

abbrev pub ScriptsAreSmall : Type 0
ScriptsAreSmall = (text : Text) (xs : List Statement) → IsScriptOf text xs → IsSmall xs
