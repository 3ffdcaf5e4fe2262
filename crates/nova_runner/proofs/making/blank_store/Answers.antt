use Rattle.std.proofs.Common.{ℕ, List, Option, None, ap, sym, ◌∙◌, subst, ◌<◌, ◌^◌, length, replicate}
use Rattle.nova_journal.specs.Log.{frame}
use Rattle.nova_commit.specs.Commits.{commit_bytes}
use Rattle.nova_commit.specs.declared.commit.Commit.TheVariants as commit
use Rattle.nova_meta.specs.declared.captured.Captured.{Captured}
use Rattle.nova_runner.specs.Texts.{HasFlow, Says}
use Rattle.nova_runner.proofs.Made.{short_first}
use Rattle.nova_runner.proofs.making.blank_store.Goals as goal

pub returns : goal.returns
returns c =
    let read : HasFlow c.args.text.now c.in-Ok.flow = subst (Says c.args.text.now) c.in-Ok.is c.in_ok-flow.ensures in
    let text = c.in_ok-copied.ensures in
    let framed = c.in_ok-framed.ensures ∙ ap frame (c.deref.ensures.value ∙ c.in_ok-payload.ensures) ∙ ap (λ (t : List ℕ). frame (commit_bytes (commit.Flow t))) text in
    record {
      flow = read;
      framed = framed;
      catalog = c.in_ok-catalog.ensures;
      flight = c.in_ok-flight.ensures ∙ ap (λ n. let none : Option Captured = None in replicate n none) c.task_count.ensures;
      short = subst (λ (bs : List ℕ). length bs < 2 ^ 62) (sym framed) (short_first c.args.text.now c.in-Ok.flow read);
    }
