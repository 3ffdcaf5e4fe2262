use Rattle.std.proofs.Common.{◌++◌, [], ℕ, List, refl, ap, ◌∙◌}
use Rattle.std.proofs.lemmas.Result.{err_from_is_err_and}
use Rattle.nova_outside.specs.declared.Failed.{Failed}
use Rattle.nova_machine.specs.Replies.{row_lines}
use Rattle.nova_script.specs.Replies as line
use Rattle.nova_script.proofs.Giving.{pushes_failed, pushes_then, replies_failed, replies_flushed}
use Rattle.nova_runner.proofs.show.reply_table.Goals as goal

pub returns-in_err-push_rows : goal.returns-in_err-push_rows
returns-in_err-push_rows g c =
    let p = err_from_is_err_and c.from_residual.result c.from_residual.ensures.1 in
    rw p.1 (replies_failed {T = Unit {0}} {E = Failed} _ p.0 _ _ _ [] _ (pushes_failed _ _ _ _ _ _ _ [] _ _ _ refl (rw c.new-waiting.ensures at c.in_err-push_rows.ensures)))

pub returns-in_err-push : goal.returns-in_err-push
returns-in_err-push g c =
    let p = err_from_is_err_and c.from_residual-in_err-push.result c.from_residual-in_err-push.ensures.1 in
    let line_is = c.bytes.ensures ∙ c.shown-line.ensures ∙ ap (λ n. line.shown c.args.name.now c.args.version n) c.len.ensures in
    let all = ap (λ (bs : List ℕ). row_lines c.args.table.now ++ bs) line_is in
    rw p.1 (replies_failed _ _ _ _ _ _ _ (rw all at (pushes_then _ _ _ _ _ _ _ _ _ _ _ (rw c.new-waiting.ensures at c.in_ok-push_rows.ensures) c.in_err-push.ensures)))

pub returns : goal.returns
returns g c =
    let line_is = c.bytes.ensures ∙ c.shown-line.ensures ∙ ap (λ n. line.shown c.args.name.now c.args.version n) c.len.ensures in
    let all = ap (λ (bs : List ℕ). row_lines c.args.table.now ++ bs) line_is in
    replies_flushed _ _ c.flush.result _ _ _ _ _ (rw all at (pushes_then _ _ _ _ _ _ _ _ _ _ _ (rw c.new-waiting.ensures at c.in_ok-push_rows.ensures) c.in_ok-push.ensures)) c.flush.ensures.replies
