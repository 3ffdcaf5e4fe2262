use Rattle.std.proofs.Common.{◌≡◌, false, sym, subst}
use Rattle.std.proofs.lemmas.Result.{IfOk-weaker}
use Rattle.nova_meta.specs.Catalog.{allows}
use Rattle.nova_meta.specs.Prepared.{IsPrepared}
use Rattle.nova_commit.specs.declared.commit.Commit.{Commit}
use Rattle.nova_meta.proofs.catalog.Catalog.prepare.Goals as goal

pub returns-in-Flow-clause-prepared : goal.returns-in-Flow-clause-prepared
returns-in-Flow-clause-prepared c =
    IfOk-weaker c.prepare_flow.result _ _ (λ p h. subst (λ (commit : Commit). IsPrepared c.args.self.now commit p) (sym c.in-Flow.is) (h c.in-Flow.text)) c.prepare_flow.ensures.prepared

pub returns-in-Flow-clause-refused : goal.returns-in-Flow-clause-refused
returns-in-Flow-clause-refused c = λ e. subst (λ (commit : Commit). allows c.args.self.now commit ≡ false) (sym c.in-Flow.is) (c.prepare_flow.ensures.refused e c.in-Flow.text)
