use Rattle.std.proofs.Common.{◌≡◌, ℕ, ◌<◌, false}
use Rattle.nova_trigger.specs.Due.{is_due}
use Rattle.nova_trigger.proofs.rule.first_due.Given as goal

abbrev pub invariant-loop-task : goal.invariant-loop-task
invariant-loop-task l = (k : ℕ) → k < l.task → is_due l.flow l.catalog l.flight k ≡ false
