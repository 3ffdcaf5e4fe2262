use Rattle.std.proofs.Common.{◌-◌}
use Rattle.nova_drill.proofs.Loads.{IsLoading}
use Rattle.nova_drill.proofs.entry.raw_load.Given as goal

abbrev pub invariant-loop : goal.invariant-loop
invariant-loop l = IsLoading (8 - l.counter) l.fn.number l.last l.delta
