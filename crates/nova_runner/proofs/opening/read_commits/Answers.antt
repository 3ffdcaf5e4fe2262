use Rattle.std.proofs.Common.{◌≡◌, inr, Some, subst}
use Rattle.std.proofs.lemmas.Result.{err_from_is_err_and}
use Rattle.nova_runner.specs.Opening.{IsFirstFlow}
use Rattle.nova_runner.specs.Workflow.{wiring_of}
use Rattle.nova_runner.proofs.Commits.{all_read, no_flow, none_first, stuck_read}
use Rattle.nova_runner.proofs.opening.read_commits.Goals as goal

pub returns-in_default-2 : goal.returns-in_default-2
returns-in_default-2 c = record {
  read = inr (none_first c.args.payloads.now c.in-Some.first.now c.in-Some.field-0-1.now c.in-Some.ensures.cases.0 c.deref.result.now c.deref.ensures.value c.requires.placed
      (no_flow c.deref.result.now c.in_ok-flow.field-0 c.in_default-2.is c.in_ok-flow.ensures));
}

pub returns-in_err-catalog : goal.returns-in_err-catalog
returns-in_err-catalog c =
    let is : c.in_ok-flow.field-0 ≡ Some c.in-Some-2.flow = c.in-Some-2.is in
    let first : IsFirstFlow c.deref.result.now (Some c.in-Some-2.flow) = subst (IsFirstFlow c.deref.result.now) is c.in_ok-flow.ensures in
    let same : c.in_ok-wiring.field-0 ≡ wiring_of c.in-Some-2.flow = c.in_ok-wiring.ensures.wiring in
    let told = stuck_read c.args.payloads.now c.in-Some.first.now c.in-Some.field-0-1.now c.in-Some.ensures.cases.0 c.deref.result.now c.deref.ensures.value c.in-Some-2.flow first c.in_ok-wiring.field-0 same c.in_err-catalog.field-0.0 c.in_err-catalog.ensures.taken in
    let p = err_from_is_err_and c.from_residual-in_err-catalog.result c.from_residual-in_err-catalog.ensures.1 in
    record { read = rw (p.1, p.2) told }

pub returns : goal.returns
returns c =
    let is : c.in_ok-flow.field-0 ≡ Some c.in-Some-2.flow = c.in-Some-2.is in
    let first : IsFirstFlow c.deref.result.now (Some c.in-Some-2.flow) = subst (IsFirstFlow c.deref.result.now) is c.in_ok-flow.ensures in
    let same : c.in_ok-wiring.field-0 ≡ wiring_of c.in-Some-2.flow = c.in_ok-wiring.ensures.wiring in
    record {
      read = all_read c.args.payloads.now c.in-Some.first.now c.in-Some.field-0-1.now c.in-Some.ensures.cases.0 c.deref.result.now c.deref.ensures.value c.in-Some-2.flow first c.in_ok-wiring.field-0 c.in_ok-catalog.catalog c.in_ok-wiring.ensures.right same c.in_ok-catalog.ensures.taken;
    }
