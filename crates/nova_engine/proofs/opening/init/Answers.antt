use Rattle.std.proofs.Common.{◌≡◌, None, sym, subst}
use Rattle.nova_outside.specs.History.{current}
use Rattle.nova_journal.specs.Marks.{IsMark}
use Rattle.nova_engine.specs.Seen.{seen}
use Rattle.nova_engine.specs.Told.{InitRead}
use Rattle.nova_engine.proofs.Making.{no_mark, text_read, there_read, unmarked_read, unread_read}
use Rattle.nova_engine.proofs.opening.init.Goals as goal

pub returns-in-Err-clause-told : goal.returns-in-Err-clause-told
returns-in-Err-clause-told g c honest =
    let same : seen g.H.Host c.marked.new.host ≡ seen g.H.Host c.args.host.now = λ i. record { history = c.marked.ensures.same honest i; read = c.marked.ensures.bytes_read i } in
    unmarked_read (g.S.Source.left c.args.source.now) (seen g.H.Host c.args.host.now) (seen g.H.Host c.marked.new.host) same

pub returns-in-Ok-Some-clause-told : goal.returns-in-Ok-Some-clause-told
returns-in-Ok-Some-clause-told g c honest =
    let same : seen g.H.Host c.marked.new.host ≡ seen g.H.Host c.args.host.now = λ i. record { history = c.marked.ensures.same honest i; read = c.marked.ensures.bytes_read i } in
    let some = rw c.in-Ok-Some.field-0-is at (c.in-Ok-Some.ensures.answer honest) in
    there_read (g.S.Source.left c.args.source.now) (seen g.H.Host c.args.host.now) (seen g.H.Host c.marked.new.host) same (_, some)

pub returns-in-Ok-clause-told : goal.returns-in-Ok-clause-told
returns-in-Ok-clause-told g c honest =
    let same : seen g.H.Host c.marked.new.host ≡ seen g.H.Host c.args.host.now = λ i. record { history = c.marked.ensures.same honest i; read = c.marked.ensures.bytes_read i } in
    text_read (g.S.Source.left c.args.source.now) (seen g.H.Host c.args.host.now) (seen g.H.Host c.make_store.new.host) (g.S.Source.left c.read_text.new.source) c.deref.result.now c.make_store.result
    (seen g.H.Host c.marked.new.host) same (c.make_store.ensures.told honest) (rw c.deref.ensures.value (λ input is. c.in-Ok.ensures.text input is))

pub returns-in-Err-read_text-clause-told : goal.returns-in-Err-read_text-clause-told
returns-in-Err-read_text-clause-told g c honest =
    let a = seen g.H.Host c.args.host.now in
    let b = seen g.H.Host c.marked.new.host in
    let same : b ≡ a = λ i. record { history = c.marked.ensures.same honest i; read = c.marked.ensures.bytes_read i } in
    let none : IsMark (current a.history) None = rw c.in-Ok-None.field-0-is at (c.in-Ok-None.ensures.answer honest) in
    let left = g.S.Source.left c.args.source.now in
    let new = g.S.Source.left c.read_text.new.source in
    subst (λ s. InitRead s left new a b) (sym c.unread_status.ensures) (unread_read left a b new c.in-Err-read_text.why same none (λ input is. c.in-Err-read_text.ensures.text input is))

-- a mark is there only where the text wasn't read
pub returns-in-Ok-clause-left : goal.returns-in-Ok-clause-left
returns-in-Ok-clause-left g c honest some =
    let files = current (g.H.Host.history c.args.host.now) in
    let none : IsMark files None = rw c.in-Ok-None.field-0-is at (c.in-Ok-None.ensures.answer honest) in
    absurd (no_mark files none some)

pub returns-in-Err-read_text-clause-left : goal.returns-in-Err-read_text-clause-left
returns-in-Err-read_text-clause-left g c honest some =
    let files = current (g.H.Host.history c.args.host.now) in
    let none : IsMark files None = rw c.in-Ok-None.field-0-is at (c.in-Ok-None.ensures.answer honest) in
    absurd (no_mark files none some)
