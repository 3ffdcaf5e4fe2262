use Rattle.std.proofs.Common.{◌≡◌, ◌++◌, ◌∷◌, [], ℕ, List, drop, false, true, Bool, sym, subst, ◌∙◌}
use Rattle.std.proofs.lemmas.Result.{err_from_is_err_and}
use Rattle.nova_delta.specs.Listed.{rises}
use Rattle.nova_row_codec.specs.declared.fault.CodecFault.TheVariants.{OutOfOrder}
use Rattle.nova_row_codec.specs.Faults.{StopsAfter}
use Rattle.nova_row_codec.specs.Faults as fault
use Rattle.nova_row_codec.proofs.Blocks.{is_true}
use Rattle.nova_row_codec.proofs.list.next_entry.Goals as goal

pub returns-in_err-entry-clause-refused : goal.returns-in_err-entry-clause-refused
returns-in_err-entry-clause-refused c =
    let p = err_from_is_err_and c.from_residual.result c.from_residual.ensures.1 in
    rw (p.1, p.2) (λ other count lt. fault.fails lt (c.in_err-entry.ensures.refused other))

no_false : (b : Bool) → b ≡ false → b ≡ true → ⊥
no_false true e f = absurd cc
no_false false e f = absurd cc

pub returns-then-not-is_above-clause-refused : goal.returns-then-not-is_above-clause-refused
returns-then-not-is_above-clause-refused c = λ _ count lt.
    let found = c.in_ok-entry.ensures.found in
    subst (λ (b : List ℕ). StopsAfter c.args.schema.now count c.args.entries.now b OutOfOrder) (sym found.is)
    (fault.falls c.in_ok-entry.entry (drop c.in_ok-entry.after c.args.bytes.now) lt found.fits (λ t. no_false (rises c.args.schema.now (c.args.entries.now ++ c.in_ok-entry.entry ∷ [])) (sym c.is_above.ensures ∙ c.if-not-is_above.true) (is_true _ t)))
