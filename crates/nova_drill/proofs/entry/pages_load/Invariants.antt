use Rattle.nova_drill.proofs.Loads.{IsLoadingPages}
use Rattle.nova_drill.proofs.entry.pages_load.Given as goal

abbrev pub invariant-loop-page : goal.invariant-loop-page
invariant-loop-page l = IsLoadingPages l.page l.delta
