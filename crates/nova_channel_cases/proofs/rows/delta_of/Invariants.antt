use Rattle.std.proofs.Common.{◌≡◌}
use Rattle.nova_channel_cases.specs.Examples.{two_longs}
use Rattle.nova_channel_cases.proofs.rows.delta_of.Given as goal

abbrev pub invariant-loop-line : goal.invariant-loop-line
invariant-loop-line l = l.delta.schema ≡ two_longs
