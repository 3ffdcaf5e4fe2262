use Rattle.std.proofs.Common.{◌++◌, ◌∷◌, [], map, refl, sym, ◌∙◌, subst, inl, Some, arith}
use Rattle.std.proofs.lemmas.Result.{err_from_is_err_and}
use Rattle.nova_outside.specs.History.{current}
use Rattle.nova_channel.specs.Reading.{block_file}
use Rattle.nova_journal.specs.Marks.{IsIn}
use Rattle.nova_commit.specs.Commits.{commit_bytes}
use Rattle.nova_runner.specs.Committing.{Added, AreSpare, IsReady, Leads, Touched}
use Rattle.nova_runner.specs.Held.{Held}
use Rattle.nova_runner.specs.Opening.{IsRead}
use Rattle.nova_runner.specs.Steps.{IsLeft, StoreStands}
use Rattle.nova_runner.proofs.Writing.{added, in_host_still, left, read_holds, reads_on, still, still_holds, still_long, still_settled, touched, touched_at_once}
use Rattle.nova_runner.proofs.store.Store.commit.Goals as goal

pub returns-in_err-put_all-clause-touched : goal.returns-in_err-put_all-clause-touched
returns-in_err-put_all-clause-touched g c honest own ready spare = touched_at_once c.args.self own c.args.fresh.now spare _ _ (c.put_all.ensures.others honest) (c.put_all.ensures.replies honest)

pub returns-in_err-put_all-clause-adds : goal.returns-in_err-put_all-clause-adds
returns-in_err-put_all-clause-adds g c =
    let p = err_from_is_err_and c.from_residual.result c.from_residual.ensures.1 in
    rw (p.1) (λ own ready spare honest commits s t stands leads. inl (still c.args.self commits own c.args.fresh.now s t (g.H.Host.history c.args.host.now) (g.H.Host.history c.put_all.new.host) stands leads spare (c.put_all.ensures.others honest)))

pub returns-in-Ok-clause-touched : goal.returns-in-Ok-clause-touched
returns-in-Ok-clause-touched g c honest own ready spare =
    let e = c.self.view_is in
    let spare_now = subst (λ (k : Held). AreSpare k.catalog own c.args.fresh.now) (sym e) spare in
    subst (λ (k : Held). Touched k own (g.H.Host.history c.args.host.now) (g.H.Host.history c.append.new.host)) e
    (touched (record { journal = c.self.inside.journal; flow = c.self.inside.flow; catalog = c.self.inside.catalog; flight = c.self.inside.flight }) own c.args.fresh.now spare_now _ _ _ (c.put_all.ensures.others honest) (c.put_all.ensures.replies honest) (c.append.ensures.others honest) (c.append.ensures.replies honest))

pub returns-in-Err-clause-touched : goal.returns-in-Err-clause-touched
returns-in-Err-clause-touched g c honest own ready spare =
    let e = c.self.view_is in
    let spare_now = subst (λ (k : Held). AreSpare k.catalog own c.args.fresh.now) (sym e) spare in
    subst (λ (k : Held). Touched k own (g.H.Host.history c.args.host.now) (g.H.Host.history c.append.new.host)) e
    (touched (record { journal = c.self.inside.journal; flow = c.self.inside.flow; catalog = c.self.inside.catalog; flight = c.self.inside.flight }) own c.args.fresh.now spare_now _ _ _ (c.put_all.ensures.others honest) (c.put_all.ensures.replies honest) (c.append.ensures.others honest) (c.append.ensures.replies honest))

pub returns-in-Ok-clause-bytes : goal.returns-in-Ok-clause-bytes
returns-in-Ok-clause-bytes g c honest f is = c.in-Ok.ensures.others honest (block_file f.block) (λ e. omega (arith, e)) ∙ (c.in_ok-put_all.ensures.put honest f is).0

pub returns-in-Ok-clause-adds : goal.returns-in-Ok-clause-adds
returns-in-Ok-clause-adds g c own ready spare honest commits s t stands leads =
    let e = c.self.view_is in
    let H0 = g.H.Host.history c.args.host.now in
    let H1 = g.H.Host.history c.put_all.new.host in
    let H2 = g.H.Host.history c.append.new.host in
    let old : Held = record { journal = c.self.inside.journal; flow = c.self.inside.flow; catalog = c.self.inside.catalog; flight = c.self.inside.flight } in
    let new : Held = record { journal = c.in-Ok.journal; flow = c.self.inside.flow; catalog = c.apply.new.self; flight = c.self.inside.flight } in
    let fresh = c.args.fresh.now in
    let puts = c.put_all.ensures.others honest in
    let put = c.in_ok-put_all.ensures.put honest in
    let stands_now = subst (λ (k : Held). StoreStands k commits H0 s) (sym e) stands in
    let leads_now = subst (λ (k : Held). Leads k.catalog s t own fresh) (sym e) leads in
    let spare_now = subst (λ (k : Held). AreSpare k.catalog own fresh) (sym e) spare in
    let ready_now = subst (λ (k : Held). IsReady k own c.args.ready) (sym e) ready in
    let framed = c.deref.ensures.value ∙ ready_now.framed in
    let holds = c.in-Ok.ensures.added honest (map commit_bytes commits) (commit_bytes own) (still_holds old commits own fresh s t H0 H1 stands_now leads_now spare_now puts) framed in
    subst (λ (k : Held). Added k new commits own t H0 H2) e
    (added old commits own fresh s t H0 H1 stands_now leads_now spare_now puts H2 (c.in-Ok.ensures.others honest) new (c.in-Ok.ensures.crash_others honest) put
    refl refl (c.apply.ensures own ready_now.prepared) c.in-Ok.ensures.length.1 holds (c.in-Ok.ensures.settled honest))

pub returns-in-Err-clause-adds : goal.returns-in-Err-clause-adds
returns-in-Err-clause-adds g c own ready spare honest commits s t stands leads =
    let e = c.self.view_is in
    let H0 = g.H.Host.history c.args.host.now in
    let H1 = g.H.Host.history c.put_all.new.host in
    let H2 = g.H.Host.history c.append.new.host in
    let old : Held = record { journal = c.self.inside.journal; flow = c.self.inside.flow; catalog = c.self.inside.catalog; flight = c.self.inside.flight } in
    let fresh = c.args.fresh.now in
    let puts = c.put_all.ensures.others honest in
    let put = c.in_ok-put_all.ensures.put honest in
    let stands_now = subst (λ (k : Held). StoreStands k commits H0 s) (sym e) stands in
    let leads_now = subst (λ (k : Held). Leads k.catalog s t own fresh) (sym e) leads in
    let spare_now = subst (λ (k : Held). AreSpare k.catalog own fresh) (sym e) spare in
    let ready_now = subst (λ (k : Held). IsReady k own c.args.ready) (sym e) ready in
    let framed = c.deref.ensures.value ∙ ready_now.framed in
    let moments = c.append.ensures.any_moment honest (map commit_bytes commits) (commit_bytes own) (still_long old commits own fresh s t H0 H1 stands_now leads_now spare_now puts) framed (still_settled old commits own fresh s t H0 H1 stands_now leads_now spare_now puts) in
    subst (λ (k : Held). IsLeft k.journal.generation commits k.catalog (Some own) (current H0) (current H2) s t) e
    (left old commits own fresh s t H0 H1 stands_now leads_now spare_now puts H2 (c.append.ensures.others honest) put (g.met.H.Host.valid c.append.new.host) moments)

pub returns-in-Ok-clause-in_host : goal.returns-in-Ok-clause-in_host
returns-in-Ok-clause-in_host g c honest =
    let own = c.requires.ready.0 in
    let e = c.self.view_is in
    let ready = subst (λ (k : Held). IsReady k own c.args.ready) (sym e) c.requires.ready.1 in
    let spare = subst (λ (k : Held). AreSpare k.catalog own c.args.fresh.now) (sym e) c.requires.ready.2 in
    let is = in_host_still c.self.inside.journal.generation c.self.inside.journal.length c.self.inside.catalog own c.args.fresh.now (g.H.Host.history c.args.host.now) (g.H.Host.history c.put_all.new.host) (c.put_all.ensures.others honest)
    (subst (λ (k : Held). IsIn k.journal.generation k.journal.length (current (g.H.Host.history c.args.host.now))) (sym e) (c.requires.in_host honest)) in
    (is.0 ++ commit_bytes own ∷ [], rw c.in-Ok.ensures.length.1 (c.in-Ok.ensures.added honest is.0 (commit_bytes own) is.1 (c.deref.ensures.value ∙ ready.framed)))

pub returns-in-Ok-clause-read : goal.returns-in-Ok-clause-read
returns-in-Ok-clause-read g c own fits ready honest commits read =
    let e = c.self.view_is in
    let H0 = g.H.Host.history c.args.host.now in
    let H1 = g.H.Host.history c.put_all.new.host in
    let H2 = g.H.Host.history c.append.new.host in
    let old : Held = record { journal = c.self.inside.journal; flow = c.self.inside.flow; catalog = c.self.inside.catalog; flight = c.self.inside.flight } in
    let new : Held = record { journal = c.in-Ok.journal; flow = c.self.inside.flow; catalog = c.apply.new.self; flight = c.self.inside.flight } in
    let fresh = c.args.fresh.now in
    let puts = c.put_all.ensures.others honest in
    let read_now = subst (λ (k : Held). IsRead k commits (current H0)) (sym e) read in
    let ready_now = subst (λ (k : Held). IsReady k own c.args.ready) (sym e) ready in
    let framed = c.deref.ensures.value ∙ ready_now.framed in
    let holds = c.in-Ok.ensures.added honest (map commit_bytes commits) (commit_bytes own) (read_holds old commits own fresh H0 H1 puts read_now) framed in
    reads_on old commits own fresh H0 H1 puts read_now H2 new (c.in-Ok.ensures.others honest) refl (c.apply.ensures own ready_now.prepared) c.in-Ok.ensures.length.1 holds fits ready_now.prepared.allowed
