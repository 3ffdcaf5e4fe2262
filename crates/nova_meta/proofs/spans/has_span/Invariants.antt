use Rattle.std.proofs.Common.{◌≡◌, drop}
use Rattle.nova_path.specs.Shelf.{is_in}
use Rattle.nova_path.specs.Intervals.{spans}
use Rattle.nova_meta.proofs.spans.has_span.Given as goal

abbrev pub invariant-loop-interval : goal.invariant-loop-interval
invariant-loop-interval l = is_in (spans (drop l.interval-index l.intervals)) (record { from = l.from; to = l.to }) ≡ is_in (spans l.intervals) (record { from = l.from; to = l.to })
