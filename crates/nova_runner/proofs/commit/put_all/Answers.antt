use Rattle.std.proofs.Common.{◌++◌, ◌∷◌, [], ℕ, List, Some, take, ap, sym, ◌∙◌, subst, arith}
use Rattle.std.proofs.lemmas.List.{take_all, take_more}
use Rattle.nova_path.specs.Lists.{IsOneOf}
use Rattle.nova_runner.proofs.Putting.{all_but_more, one_at, put_stays}
use Rattle.nova_runner.specs.Committing.{ArePut, IsPut}
use Rattle.nova_runner.specs.declared.ready.Fresh.{Fresh}
use Rattle.nova_runner.proofs.commit.put_all.Goals as goal

pub returns-in_err-put_file-clause-others : goal.returns-in_err-put_file-clause-others
returns-in_err-put_file-clause-others g c honest =
    let there = subst (IsOneOf c.args.fresh.now) (sym c.block-item.is) (one_at c.args.fresh.now c.loop-block.block-index c.block-item.result c.loop-block-test.true) in
    all_but_more c.args.fresh.now c.block-item.result _ _ _ there (c.put_file.ensures.others honest) (c.put_file.ensures.crash_others honest) (c.loop-block.invariant.others honest)

pub loop-block-preserved : goal.loop-block-preserved
loop-block-preserved g c =
    let fresh = c.args.fresh.now in
    let i = c.loop-block.block-index in
    let one = c.block-item.result in
    let there = subst (IsOneOf fresh) (sym c.block-item.is) (one_at fresh i one c.loop-block-test.true) in
    let done = c.in_ok-put_file.ensures in
    record {
      put = λ honest.
          let is = done.current honest ∙ ap (λ (bs : List ℕ). Some bs) c.deref.ensures.value in
          let new : IsPut (g.H.Host.history c.put_file.new.host) one = (is, λ o h. done.settled honest o h ∙ is) in
          subst (λ (fs : List Fresh). ArePut fs (g.H.Host.history c.put_file.new.host))
          (ap (λ (f : Fresh). take i fresh ++ f ∷ []) c.block-item.is ∙ sym (take_more fresh i one c.loop-block-test.true))
          (put_stays fresh one (g.H.Host.history c.args.host.now) (g.H.Host.history c.loop-block.host) (g.H.Host.history c.put_file.new.host) there (done.others honest) (done.crash_others honest) i c.requires.apart (c.loop-block.invariant.put honest) new);
      others = λ honest. all_but_more fresh one _ _ _ there (done.others honest) (done.crash_others honest) (c.loop-block.invariant.others honest);
      replies = λ honest. done.replies honest ∙ c.loop-block.invariant.replies honest;
      later = let a = c.loop-block.invariant.later in let b = done.cause.later in omega (arith, a, b);
      reply_faults = done.reply_faults ∙ c.loop-block.invariant.reply_faults;
      bytes_read = done.bytes_read ∙ c.loop-block.invariant.bytes_read;
    }

pub returns-clause-put : goal.returns-clause-put
returns-clause-put g c honest = subst (λ (fs : List Fresh). ArePut fs (g.H.Host.history c.loop-block.host)) (take_all c.loop-block.block-index c.args.fresh.now c.loop-block-test.false) (c.loop-block.invariant.put honest)
