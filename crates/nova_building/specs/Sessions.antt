-- Sessions and what they reply while only some commands are built.
use Rattle.std.specs.Prelude.{◌≡◌, codes}
use Rattle.nova_machine.specs.State.{start}
use Rattle.nova_machine.specs.Commands.{commands_of}
use Rattle.nova_machine.specs.Replies.{text}
use Rattle.nova_machine.specs.FlowA.{one_channel}
use Rattle.nova_machine.specs.Sessions.{opening}
use Rattle.nova_building.specs.Building.{built_steps}

-- while only `load`, `tick`, `run`, `begin`, `drop` and `show` are built: all but these with their one word is refused as not built, whatever names it has; what these meet is told, a load's at its end
abbrev pub BuiltAlone : Type 0
BuiltAlone = text opening
    (built_steps opening (commands_of (codes "load raw\n-1\n.\n  \nfrob\ntick\ntick 5\nwork\nshow zzz\nshow\nshow raw raw\nshow 1\nload\n.\nload zzz\nx\n.\nload slow\n.\nload slow\nx\n.\nrun pick\nrun zzz\nload raw raw\n.\nload raw\n-1\nx\n.\nbegin pick\nbegin pick\nrun pick\nbegin\nfinish pick\ndrop pick\ndrop pick\ndrop zzz\nchain raw 1 2\ncompact raw\ncollect\nblocks zzz\nload raw\n-2")))
    ≡ codes "loaded raw 1\nno 90 not-built\nno 90 not-built\nticked 5\nno 90 not-built\nno 3 unknown-channel\nno 90 not-built\nno 90 not-built\nno 90 not-built\nno 90 not-built\nno 3 unknown-channel\nno 5 not-an-input-channel\nno 5 not-an-input-channel\nran pick 1\nno 4 unknown-task\nno 90 not-built\nno 6 bad-row 2\nbegan pick\nno 9 in-flight\nno 9 in-flight\nno 90 not-built\nno 90 not-built\ndropped pick\nno 10 not-in-flight\nno 4 unknown-task\nno 90 not-built\nno 90 not-built\nno 90 not-built\nno 90 not-built\nno 7 unfinished-load\n"

-- and what is built is shown
abbrev pub BuiltShown : Type 0
BuiltShown = text (start one_channel) (built_steps (start one_channel) (commands_of (codes "show raw\n"))) ≡ codes "shown raw 0 0\n"
