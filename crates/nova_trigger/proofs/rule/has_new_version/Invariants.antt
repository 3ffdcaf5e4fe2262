use Rattle.std.proofs.Common.{◌≡◌, map, drop}
use Rattle.nova_machine.specs.Due.{is_above}
use Rattle.std.specs.Option.{option_copied}
use Rattle.nova_trigger.specs.Due.{last_or, newest_in}
use Rattle.nova_trigger.proofs.rule.has_new_version.Given as goal

abbrev pub invariant-loop-at : goal.invariant-loop-at
invariant-loop-at l =
    is_above l.at (last_or (option_copied l.last)).versions (drop l.at (map (newest_in l.catalog) l.inputs))
    ≡ is_above 0 (last_or (option_copied l.last)).versions (map (newest_in l.catalog) l.inputs)
