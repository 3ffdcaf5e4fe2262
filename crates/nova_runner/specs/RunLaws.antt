-- What a run's commit is of its state.
use Rattle.std.specs.Prelude.{◌≡◌, ℕ, true, List, length}
use Rattle.nova_outside.specs.Disk.{Files}
use Rattle.nova_row_codec.specs.Spelling.{spelling_of}
use Rattle.nova_commit.specs.Commits.{Fits}
use Rattle.nova_commit.specs.declared.commit.Commit.{Commit}
use Rattle.nova_meta.specs.Catalog.{Entered, allows}
use Rattle.nova_machine.specs.State.{State, ended}
use Rattle.nova_machine.specs.Due.{capture_of}
use Rattle.nova_machine.specs.Steps.{Run, after}
use Rattle.nova_machine.specs.Reachable.{IsMade, IsReachable}
use Rattle.nova_execution.specs.Made.{IsRunOf}
use Rattle.nova_execution.specs.declared.made.Made.{Made}
use Rattle.nova_runner.specs.Acts.{keeps_in, kept_spelling, own_run}
use Rattle.nova_runner.specs.Committing.{Leads}
use Rattle.nova_runner.specs.RunFiles.{AreRunFiles}
use Rattle.nova_runner.specs.Stands.{StandsBut}
use Rattle.nova_runner.specs.Workflow.{wiring_of}
use Rattle.nova_runner.specs.declared.ready.Fresh.{Fresh}

-- the commit of a run of what it makes of the state
abbrev pub run_own : Entered → State → ℕ → Made → Commit
run_own cat s t x = own_run cat t (capture_of s t) (keeps_in s.flow t) (length (spelling_of x.block)) (length (kept_spelling x.state))

-- leads to the state behind it, once its files are there
abbrev pub RunsLead : Type 0
RunsLead = (x : ℕ) (commits : List Commit) (cat : Entered) (files : Files) (s : State) (t : ℕ) (made : Made) (fresh : List Fresh) →
    IsReachable s → cat.wiring ≡ wiring_of s.flow → StandsBut x commits cat files (ended s) → IsMade s (Run t)
    → IsRunOf s t (capture_of s t) made → AreRunFiles cat.next made.block made.state fresh
    → Fits (run_own cat s t made) → allows cat (run_own cat s t made) ≡ true
    → Leads cat s (after s (Run t)) (run_own cat s t made) fresh
