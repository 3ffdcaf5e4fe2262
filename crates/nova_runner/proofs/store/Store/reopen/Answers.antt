use Rattle.std.proofs.Common.{◌*◌, ap, sym, subst}
use Rattle.nova_outside.specs.History.{current}
use Rattle.nova_journal.specs.Log.{payloads_of}
use Rattle.nova_runner.specs.Opening.{HasCommits, NotReadTold, UnopenedTold}
use Rattle.nova_runner.specs.declared.opening.OpenFault.{OpenFault}
use Rattle.nova_runner.proofs.Reopening.{bad_store, opened}
use Rattle.nova_runner.proofs.store.Store.reopen.Goals as goal

pub returns-in-Ok-read_store-clause-opened : goal.returns-in-Ok-read_store-clause-opened
returns-in-Ok-read_store-clause-opened g c honest =
    let list = c.in-Ok.found.1.items in
    let has = subst (λ ps. HasCommits (payloads_of ps) c.in-Ok-read_store.flow c.in-Ok-read_store.catalog) c.as_slice.ensures.value c.in-Ok-read_store.ensures.read in
    opened (record { journal = c.in-Ok.found.0; flow = c.in-Ok-read_store.flow; catalog = c.in-Ok-read_store.catalog; flight = c.in-Ok-read_store.flight }) (payloads_of list) (g.H.Host.history c.args.host.now) (g.H.Host.history c.reopen.new.host)
    (c.in-Ok.ensures.found honest).0 (c.in-Ok.ensures.in_host honest) (c.in-Ok.ensures.settled honest) (c.in-Ok.ensures.files honest) has c.in-Ok-read_store.ensures.idle

pub returns-clause-opened : goal.returns-clause-opened
returns-clause-opened g c honest =
    let told = subst (λ ps. NotReadTold c.in-Err-read_store.why (payloads_of ps)) c.as_slice.ensures.value c.in-Err-read_store.ensures.read in
    subst (λ (why : OpenFault). UnopenedTold why (current (g.H.Host.history c.args.host.now))) (sym c.unread.ensures)
    (bad_store (current (g.H.Host.history c.args.host.now)) c.in-Ok.found.0.generation c.in-Ok.found.0.length _ (payloads_of c.in-Ok.found.1.items) c.in-Err-read_store.why (ap (λ n. 4 * n) c.generation.ensures.is)
    (c.in-Ok.ensures.found honest).0 (c.in-Ok.ensures.found honest).1 told)
