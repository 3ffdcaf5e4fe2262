use Rattle.std.proofs.Common.{ap, sym, ◌∙◌, subst}
use Rattle.nova_journal.specs.Log.{payloads_of}
use Rattle.nova_journal.specs.declared.payload.Payload.{Payload}
use Rattle.nova_runner.specs.Opening.{IsStuck}
use Rattle.nova_runner.proofs.Commits.{not_taken, one_taken, stuck, was_taken}
use Rattle.nova_runner.proofs.opening.take_commits.Goals as goal

pub returns-then-not-branch : goal.returns-then-not-branch
returns-then-not-branch c =
    let here = c.deref.ensures.value ∙ ap (λ (p : Payload). p.bytes.items) c.payload-item.is in
    record {
      taken = subst (λ (p : Payload). IsStuck c.args.wiring p.at (payloads_of c.args.payloads.now)) (sym c.payload-item.is)
          (stuck c.args.wiring c.args.payloads.now c.loop-payload.payload-index c.payload-item.result c.deref.result.now c.loop-payload.catalog c.loop-payload-test.true c.requires.placed here c.loop-payload.invariant.taken
          (not_taken c.loop-payload.catalog c.take_commit.new.catalog c.deref.result.now c.in_ok-take_commit.field-0 c.if-not-branch.true c.in_ok-take_commit.ensures));
    }

pub loop-payload-preserved : goal.loop-payload-preserved
loop-payload-preserved c =
    let here = c.deref.ensures.value ∙ ap (λ (p : Payload). p.bytes.items) c.payload-item.is in
    record {
      taken = one_taken c.args.wiring c.args.payloads.now c.loop-payload.payload-index c.payload-item.result c.deref.result.now c.loop-payload.catalog c.take_commit.new.catalog c.loop-payload-test.true here c.loop-payload.invariant.taken
          (was_taken c.loop-payload.catalog c.take_commit.new.catalog c.deref.result.now c.in_ok-take_commit.field-0 c.if-not-branch.false c.in_ok-take_commit.ensures);
      same = c.loop-payload.invariant.same;
    }
