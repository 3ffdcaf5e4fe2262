-- Sessions and what they reply. Loads of texts don't compute, so most loads name keys to remove.
use Rattle.std.specs.Prelude.{◌≡◌, ℕ, pos, true, List, [], ◌∷◌, codes}
use Rattle.nova_value.specs.declared.value.Value.TheVariants.{Long}
use Rattle.nova_value.specs.declared.schema.Entry.TheVariants.{Removal}
use Rattle.nova_script.specs.Session.{Alone, WithRows}
use Rattle.nova_workflow.specs.declared.flow.Trigger.TheVariants.{Every, After}
use Rattle.nova_machine.specs.State.{State, start}
use Rattle.nova_machine.specs.Steps.{Load}
use Rattle.nova_machine.specs.Commands.{commands_of, whole_commands_of, steps}
use Rattle.nova_machine.specs.Replies.{text}
use Rattle.nova_machine.specs.FlowA.{flow_a, numbers}

abbrev pub opening : State
opening = start (flow_a (Every 60))

-- the replies of a session
abbrev pub replies : State → List ℕ → List ℕ
replies s session = text s (steps s (commands_of session))

abbrev pub CallAfterCall : Type 0
CallAfterCall = replies opening (codes "begin pick\nbegin pick\nrun pick\nfinish pick\nfinish pick\nbegin pick\ndrop pick\ndrop pick\n")
    ≡ codes "began pick\nno 9 in-flight\nno 9 in-flight\nran pick 1\nno 10 not-in-flight\nbegan pick\ndropped pick\nno 10 not-in-flight\n"

-- an ordinary day, but for the shown tables: a task runs where it is due at its turn
abbrev pub OrdinaryDay : Type 0
OrdinaryDay = replies opening (codes "load pages\n.\nload raw\n-1\n-2\n.\ntick 60\nwork\nwork\nload raw\n-9\n.\nwork\nwork\n")
    ≡ codes "loaded pages 1\nloaded raw 1\nticked 60\nran pick 1\nran tag 1\nran count 1\nran sum 1\nworked 4\nworked 0\nloaded raw 2\nran pick 2\nran tag 2\nran count 2\nworked 3\nworked 0\n"

-- a lookup table that changes makes its tasks due
abbrev pub LookupChanges : Type 0
LookupChanges = replies opening (codes "load raw\n.\nwork\nload pages\n.\nwork\n") ≡ codes "loaded raw 1\nran pick 1\nran tag 1\nran count 1\nworked 3\nloaded pages 1\nran tag 2\nran count 2\nworked 2\n"

abbrev pub CompactionBehindACursor : Type 0
CompactionBehindACursor = replies opening (codes "load raw\n-1\n.\nload raw\n-2\n.\nrun pick\nload raw\n-3\n.\ncompact raw\ncollect\nblocks raw\n")
    ≡ codes "loaded raw 1\nloaded raw 2\nran pick 1\nloaded raw 3\ncompacted raw 3\ncollected 2\nbase 3\ndelta 2 3\nlisted raw 2\n"

-- overlap: what an execution in flight captured is kept, and its finish makes the task due again
abbrev pub Overlap : Type 0
Overlap = replies opening (codes "load raw\n-1\n.\nbegin pick\nload raw\n-2\n.\ncompact raw\ncollect\nblocks raw\nwork\nfinish pick\ncollect\nwork\n")
    ≡ codes "loaded raw 1\nbegan pick\nloaded raw 2\ncompacted raw 2\ncollected 0\nbase 1\nbase 2\ndelta 1 2\nlisted raw 3\nworked 0\nran pick 1\ncollected 1\nran pick 2\nran tag 1\nran count 1\nworked 3\n"

abbrev pub Clock : Type 0
Clock = replies opening (codes "tick 100\ntick 100\ntick 99\ntick 4611686018427387905\ntick 4611686018427387904\nwork\n")
    ≡ codes "ticked 100\nticked 100\nno 8 clock-back 100\nno 2 wrong-words\nticked 4611686018427387904\nran sum 1\nworked 1\n"

abbrev pub Period : Type 0
Period = replies opening (codes "tick 59\nwork\ntick 60\nwork\n") ≡ codes "ticked 59\nworked 0\nticked 60\nran sum 1\nworked 1\n"

abbrev pub Cascade : Type 0
Cascade = replies (start (flow_a (After 2))) (codes "run count\nwork\nwork\nbegin sum\nrun count\nfinish sum\nwork\n")
    ≡ codes "ran count 1\nran sum 1\nworked 1\nworked 0\nbegan sum\nran count 2\nran sum 2\nran sum 3\nworked 1\n"

abbrev pub RefusedAndTruncated : Type 0
RefusedAndTruncated = replies opening (codes "load raw\n-1\n-2\n+3\t/a\n.\nblocks raw\nload raw\n-1") ≡ codes "no 6 bad-row 3\nlisted raw 0\nno 7 unfinished-load\n"

abbrev pub OtherRefusals : Type 0
OtherRefusals = replies opening (codes "frob\ntick\ntick -1\nshow zzz\nrun zzz\nload slow\n.\nload zzz\n.\n")
    ≡ codes "no 1 unknown-command\nno 2 wrong-words\nno 2 wrong-words\nno 3 unknown-channel\nno 4 unknown-task\nno 5 not-an-input-channel\nno 3 unknown-channel\n"

abbrev pub Chaining : Type 0
Chaining = replies opening (codes "load raw\n.\nload raw\n.\nload raw\n.\nchain raw 1 3\nblocks raw\nchain raw 1 1\nchain raw 0 2\n")
    ≡ codes "loaded raw 1\nloaded raw 2\nloaded raw 3\nchained raw 1 3\nbase 1\ndelta 1 2\ndelta 1 3\ndelta 2 3\nlisted raw 4\nno 12 bad-range\nno 12 bad-range\n"

-- where no path joins them, and past the newest version
abbrev pub NoPathToChain : Type 0
NoPathToChain = replies opening (codes "load raw\n.\nload raw\n.\nload raw\n.\ncompact raw\ncollect\nchain raw 1 2\nchain raw 1 4\nblocks raw\n")
    ≡ codes "loaded raw 1\nloaded raw 2\nloaded raw 3\ncompacted raw 3\ncollected 3\nno 12 bad-range\nno 12 bad-range\nbase 3\nlisted raw 1\n"

-- an interval that is there isn't added twice, and no version makes none
abbrev pub IntervalsOnce : Type 0
IntervalsOnce = replies opening (codes "load raw\n.\ncompact raw\nload raw\n.\ncompact raw\ncompact raw\nblocks raw\ncompact slow\nblocks slow\n")
    ≡ codes "loaded raw 1\ncompacted raw 1\nloaded raw 2\ncompacted raw 2\ncompacted raw 2\nbase 1\nbase 2\ndelta 1 2\nlisted raw 3\ncompacted slow 0\nlisted slow 0\n"

-- of several causes that of the least number comes, and a load takes its lines whatever is wrong with it
abbrev pub LeastCause : Type 0
LeastCause = replies opening (codes "load slow\nx\n.\nload raw raw\ntick 5\n.\nload zzz\nx\n.\ntick 5 6\nrun\nload raw\n-1\nx")
    ≡ codes "no 5 not-an-input-channel\nno 2 wrong-words\nno 3 unknown-channel\nno 2 wrong-words\nno 2 wrong-words\nno 6 bad-row 2\n"

-- an empty channel, shown
abbrev pub ShownEmpty : Type 0
ShownEmpty = replies opening (codes "show raw\n") ≡ codes "shown raw 0 0\n"

-- rows in the order of their keys, the last line of a key winning
abbrev pub ShownRows : Type 0
ShownRows = replies (start numbers) (codes "load numbers\n+2\t7\n+1\t5\n+2\t8\n.\nshow numbers\n") ≡ codes "loaded numbers 1\n+1\t5\n+2\t8\nshown numbers 1 2\n"

-- the entries of a load, in the order of its lines
abbrev pub LoadedEntries : Type 0
LoadedEntries = steps opening (commands_of (codes "load raw\n-1\n-2\n-1\n.\n"))
    ≡ Load 0 (Removal (Long (pos 1) ∷ []) ∷ Removal (Long (pos 2) ∷ []) ∷ Removal (Long (pos 1) ∷ []) ∷ []) ∷ []

-- the commands whose last newline is there; that of a load is its `.` line's
abbrev pub WholeCommands : Type 0
WholeCommands = (whole_commands_of (codes "show raw\nload raw\n-1\n.\nload raw\n-2\n.") ≡ Alone (codes "show raw") ∷ WithRows (codes "load raw") (codes "-1" ∷ []) true ∷ [])
    × (whole_commands_of (codes "show raw") ≡ [])

-- a channel that is written anew has only bases
abbrev pub Bases : Type 0
Bases = replies opening (codes "tick 60\nrun sum\nrun sum\nblocks report\ncollect\nblocks report\n") ≡ codes "ticked 60\nran sum 1\nran sum 2\nbase 1\nbase 2\nlisted report 2\ncollected 1\nbase 2\nlisted report 1\n"
