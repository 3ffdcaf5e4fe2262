use Rattle.std.proofs.Common.{◌++◌, [], ap, sym, ◌∙◌, append_assoc}
use Rattle.std.proofs.lemmas.List.{append-nil}
use Rattle.std.proofs.lemmas.Map.Iter.{rest_more}
use Rattle.std.proofs.lemmas.Result.{err_from_is_err_and}
use Rattle.std.specs.List.{flat_map}
use Rattle.std.specs.Map.Iter.{deref}
use Rattle.nova_value.specs.RowLine.{row_line}
use Rattle.nova_script.proofs.Giving.{pushes_failed, pushes_nothing, pushes_then}
use Rattle.nova_runner.proofs.show.push_rows.Goals as goal

pub loop-row-init : goal.loop-row-init
loop-row-init g c = record {
  given = [];
  pushes = pushes_nothing _ _ _;
  rest = ap (flat_map row_line) (c.into_iter-row-iterator.ensures.into_iter_gives ∙ c.rows-row-items.ensures.rows);
}

pub returns-in_err-push_row : goal.returns-in_err-push_row
returns-in_err-push_row g c =
    let p = err_from_is_err_and c.from_residual.result c.from_residual.ensures.1 in
    let given = c.loop-row.invariant.given in
    let row = row_line c.in-Some.row.now in
    let next = rest_more deref c.loop-row.row-iterator c.next.new.self _ _ c.in-Some.is c.next.ensures.steps in
    let all = append_assoc given row (flat_map row_line c.next.new.self) ∙ ap (λ rows. given ++ flat_map row_line rows) (sym next) ∙ c.loop-row.invariant.rest in
    rw p.1 (pushes_failed _ _ _ _ _ _ _ _ _ _ _ all (pushes_then _ _ _ _ _ _ _ _ _ _ _ c.loop-row.invariant.pushes c.in_err-push_row.ensures))

pub loop-row-preserved : goal.loop-row-preserved
loop-row-preserved g c =
    let given = c.loop-row.invariant.given in
    let next = rest_more deref c.loop-row.row-iterator c.next.new.self _ _ c.in-Some.is c.next.ensures.steps in
    record {
      given = given ++ row_line c.in-Some.row.now;
      pushes = pushes_then _ _ _ _ _ _ _ _ _ _ _ c.loop-row.invariant.pushes c.in_ok-push_row.ensures;
      rest = append_assoc given (row_line c.in-Some.row.now) (flat_map row_line c.next.new.self)
          ∙ ap (λ rows. given ++ flat_map row_line rows) (sym next) ∙ c.loop-row.invariant.rest;
    }

pub returns : goal.returns
returns g c =
    let given = c.loop-row.invariant.given in
    let all = sym (append-nil given) ∙ ap (λ rows. given ++ flat_map row_line rows) (sym c.in-None.ensures.steps.0) ∙ c.loop-row.invariant.rest in
    rw all at c.loop-row.invariant.pushes
