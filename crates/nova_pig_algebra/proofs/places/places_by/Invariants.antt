use Rattle.std.proofs.Common.{◌≡◌, ◌≤◌, drop, length, Some}
use Rattle.nova_pig_algebra.specs.Keys as spec
use Rattle.nova_pig_algebra.proofs.places.places_by.Given as goal

abbrev pub invariant-loop-at : goal.invariant-loop-at
invariant-loop-at l = (l.at ≤ length l.columns) × (Some l.set ≡ spec.places_of (spec.is_by l.columns) l.items (drop l.at l.columns))

abbrev pub decreases-loop-at : goal.decreases-loop-at
decreases-loop-at l = l.at
