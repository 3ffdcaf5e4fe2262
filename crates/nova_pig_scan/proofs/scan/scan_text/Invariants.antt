use Rattle.std.proofs.Common.{◌≡◌, ◌-◌, ◌≤◌, drop, length}
use Rattle.nova_pig_scan.specs.Tokens.{tokens, prepended, scan}
use Rattle.nova_pig_scan.proofs.scan.scan_text.Given as goal

abbrev pub invariant-loop-out : goal.invariant-loop-out
invariant-loop-out l = record { read : tokens l.text ≡ prepended l.out (scan 0 l.at (drop l.at l.text)); within : l.at ≤ length l.text }

abbrev pub decreases-loop-out : goal.decreases-loop-out
decreases-loop-out l = length l.text - l.at
