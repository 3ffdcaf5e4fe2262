use Rattle.std.proofs.Common.{◌≡◌, refl}
use Rattle.nova_outside.specs.History.{current}
use Rattle.nova_engine.specs.Seen.{seen}
use Rattle.nova_engine.proofs.Calls.{files_opened, files_unopened, marked_before, no_store_end, opened_read, run_opened, run_unopened, unopened_took}
use Rattle.nova_engine.proofs.program.run.Goals as goal

pub run_session-requires : goal.run_session-requires
run_session-requires g c = record { in_host = opened_read g.H.Host.is_honest c.in-Ok.store (g.H.Host.history c.args.host.now) (g.H.Host.history c.reopen.new.host) c.in-Ok.ensures.opened }

pub returns-in-Ok-clause-files : goal.returns-in-Ok-clause-files
returns-in-Ok-clause-files g c honest =
    let a = seen g.H.Host c.args.host.now in
    let m = seen g.H.Host c.reopen.new.host in
    let opened = c.in-Ok.ensures.opened honest in
    let same : current m.history ≡ current a.history = λ i n. c.in-Ok.ensures.files honest n i in
    let marked = marked_before c.in-Ok.store a.history m.history opened same in
    files_opened g.H.Host.is_honest c.in-Ok.store c.run_session.result a m (seen g.H.Host c.run_session.new.host)
    opened same (c.in-Ok.ensures.replies honest) (c.in-Ok.ensures.bytes_read honest c.in-Ok.store.journal.generation marked) _ (no_store_end c.run_session.result c.run_session.ensures.status) (c.run_session.ensures.damage honest)

pub returns-in-Ok-clause-told : goal.returns-in-Ok-clause-told
returns-in-Ok-clause-told g c honest input is =
    let a = seen g.H.Host c.args.host.now in
    let m = seen g.H.Host c.reopen.new.host in
    let opened = c.in-Ok.ensures.opened honest in
    let same : current m.history ≡ current a.history = λ i n. c.in-Ok.ensures.files honest n i in
    let marked = marked_before c.in-Ok.store a.history m.history opened same in
    run_opened g.H.Host.is_honest c.in-Ok.store c.run_session.result a m (seen g.H.Host c.run_session.new.host)
    opened same (c.in-Ok.ensures.replies honest) (c.in-Ok.ensures.bytes_read honest c.in-Ok.store.journal.generation marked) (c.in-Ok.ensures.crash honest) input _ honest c.run_session.ensures.status (c.run_session.ensures.ran input is)

pub returns-in-Err-clause-files : goal.returns-in-Err-clause-files
returns-in-Err-clause-files g c honest =
    let a = seen g.H.Host c.args.host.now in
    let m = seen g.H.Host c.reopen.new.host in
    let same : current m.history ≡ current a.history = λ i n. c.in-Err.ensures.files honest n i in
    files_unopened g.H.Host.is_honest honest a m (seen g.H.Host c.end_unopened.new.host) same (c.in-Err.ensures.replies honest)
    _ refl c.bad_stores.ensures.none c.bad_stores.ensures.one (c.in-Err.ensures.no_read honest) (c.in-Err.ensures.bytes_read honest) c.in-Err.fault c.end_unopened.result (c.in-Err.ensures.opened honest) c.end_unopened.ensures.ends

pub returns-in-Err-clause-told : goal.returns-in-Err-clause-told
returns-in-Err-clause-told g c honest input is =
    let a = seen g.H.Host c.args.host.now in
    let m = seen g.H.Host c.reopen.new.host in
    let same : current m.history ≡ current a.history = λ i n. c.in-Err.ensures.files honest n i in
    run_unopened g.H.Host.is_honest a m (seen g.H.Host c.end_unopened.new.host) honest same (c.in-Err.ensures.replies honest)
    c.bad_stores.ensures.none c.bad_stores.ensures.never (c.in-Err.ensures.bytes_read honest) c.in-Err.fault c.end_unopened.result (c.in-Err.ensures.opened honest) c.end_unopened.ensures.ends input _ is

pub returns-in-Ok-clause-took : goal.returns-in-Ok-clause-took
returns-in-Ok-clause-took g c input is = let ran = c.run_session.ensures.ran input is in (ran.taken, ran.took)

pub returns-in-Err-clause-took : goal.returns-in-Err-clause-took
returns-in-Err-clause-took g c input is =
    let m = seen g.H.Host c.reopen.new.host in
    unopened_took g.H.Host.is_honest c.in-Err.fault c.end_unopened.result m (seen g.H.Host c.end_unopened.new.host) c.end_unopened.ensures.ends input _ is
