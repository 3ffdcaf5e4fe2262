use Rattle.std.proofs.Common.{◌≡◌, ◌≢◌, ◌+◌, ◌∙◌, false, Ok, Err, sym, subst}
use Rattle.nova_value.specs.Line.{row_of_text}
use Rattle.nova_value.specs.declared.fault.RowFault.TheVariants.{NoMemory}
use Rattle.nova_delta.specs.Seen.{with_entry}
use Rattle.nova_script.specs.Forms.{is_too_long}
use Rattle.nova_script.specs.declared.refusal.Refusal.TheVariants.{BadRow}
use Rattle.nova_engine.specs.declared.load.Pending.TheVariants.{Refused}
use Rattle.nova_engine.specs.Loading.{HasRows, TakesRow}
use Rattle.nova_engine.proofs.LoadLines.{front_long, front_whole, if_ok, takes_fault, takes_refused, takes_row}
use Rattle.nova_engine.proofs.load.with_line.Goals as goal

pub returns-in-Refused-clause-load : goal.returns-in-Refused-clause-load
returns-in-Refused-clause-load c l front =
    let short : is_too_long l ≡ false = sym (front_long c.args.line.now l front) ∙ sym c.if-is_over_limit.ensures in
    subst (λ p. TakesRow p (Refused c.in-Refused.refusal) l) (sym c.in-Refused.is) (takes_refused c.in-Refused.refusal l short)

pub returns-in-Ok-clause-load : goal.returns-in-Ok-clause-load
returns-in-Ok-clause-load c =
    let rows = c.in-Rows.rows in
    let read = rw c.schema.ensures at c.in-Ok.ensures.ok in
    let fits = rw c.schema.ensures at c.in-Ok.ensures.fits in
    if_ok c.with_row.result (λ new. HasRows new rows.channel (with_entry rows.delta c.in-Ok.entry) (rows.lines + 1)) _
    (λ new has l front.
    let short : is_too_long l ≡ false = sym (front_long c.args.line.now l front) ∙ sym c.if-is_over_limit.ensures in
    let whole : c.args.line.now ≡ l = front_whole c.args.line.now l front (sym c.if-is_over_limit.ensures) in
    subst (λ p. TakesRow p new l) (sym c.in-Rows.is)
    (takes_row rows new l c.in-Ok.entry short (subst (λ t. row_of_text t rows.delta.schema ≡ Ok c.in-Ok.entry) whole read) fits has))
    c.with_row.ensures

pub returns-in-Err-clause-load : goal.returns-in-Err-clause-load
returns-in-Err-clause-load c =
    let rows = c.in-Rows.rows in
    let read = rw c.schema.ensures at c.in-Err.ensures.err in
    if_ok c.behind_fault.result (λ new. (c.in-Err.fault ≢ NoMemory) × (new ≡ Refused (BadRow (rows.lines + 1)))) _
    (λ new is l front.
    let short : is_too_long l ≡ false = sym (front_long c.args.line.now l front) ∙ sym c.if-is_over_limit.ensures in
    let whole : c.args.line.now ≡ l = front_whole c.args.line.now l front (sym c.if-is_over_limit.ensures) in
    subst (λ p. TakesRow p new l) (sym c.in-Rows.is)
    (takes_fault rows new l c.in-Err.fault short (subst (λ t. row_of_text t rows.delta.schema ≡ Err c.in-Err.fault) whole (read is.0)) is.1))
    c.behind_fault.ensures
