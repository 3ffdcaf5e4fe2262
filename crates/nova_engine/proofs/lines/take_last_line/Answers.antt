use Rattle.std.proofs.Common.{refl}
use Rattle.nova_engine.proofs.Damage.{grows_nothing}
use Rattle.nova_engine.proofs.ItemLines.{front_kept, nothing_kept}
use Rattle.nova_engine.proofs.Moving.{takes_last, takes_no_last}
use Rattle.nova_engine.proofs.lines.take_last_line.Goals as goal

pub returns-then-holds_nothing-clause-told : goal.returns-then-holds_nothing-clause-told
returns-then-holds_nothing-clause-told g c = takes_no_last _ c.args.reader _ (c.if-holds_nothing.ensures.none refl) nothing_kept

pub returns-clause-told : goal.returns-clause-told
returns-clause-told g c =
    takes_last _ c.take_line.result c.args.reader _ _ (c.if-holds_nothing.ensures.some refl)
    (λ carry is. rw is (front_kept carry))
    (rw c.bytes.ensures at c.take_line.ensures.told)

pub returns-then-holds_nothing-clause-grows : goal.returns-then-holds_nothing-clause-grows
returns-then-holds_nothing-clause-grows g c honest = grows_nothing _
