use Rattle.std.proofs.Common.{◌≡◌, ◌++◌, List, ℕ, Ok}
use Rattle.std.specs.List.{flat_map}
use Rattle.nova_outside.specs.declared.Failed.{Failed}
use Rattle.nova_value.specs.RowLine.{row_line}
use Rattle.nova_machine.specs.Replies.{row_lines}
use Rattle.nova_script.specs.Replying.{Pushes}
use Rattle.nova_runner.proofs.show.push_rows.Given as goal

abbrev pub invariant-loop-row : goal.invariant-loop-row
invariant-loop-row g l = record {
  given : List ℕ;
  pushes : Pushes {T = Unit {0}} {E = Failed} g.H.Host l.fn.host l.host l.fn.waiting l.waiting given (Ok tt);
  rest : given ++ flat_map row_line l.row-iterator ≡ row_lines l.table;
}
