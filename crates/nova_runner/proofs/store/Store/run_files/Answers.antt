use Rattle.std.proofs.Common.{◌+◌, [], ◌∷◌, ◌++◌, List, Vec, ap, ◌∙◌}
use Rattle.std.specs.declared.alloc.Global.{Global}
use Rattle.nova_runner.specs.Held.{Held}
use Rattle.nova_runner.specs.declared.ready.Fresh.{Fresh}
use Rattle.nova_runner.proofs.RunsReady.{one_file, two_files}
use Rattle.nova_runner.proofs.store.Store.run_files.Goals.{in-Some+in_ok-bytes-2+in_ok-push-2+in_ok-push-3, in_default}
use Rattle.nova_runner.proofs.store.Store.run_files.Goals as goal

pub returns-clause-files : goal.returns-clause-files
returns-clause-files c =
    let made = c.args.made.now in
    let next = c.args.self.now.catalog.next in
    let f : Fresh = record { block = c.next_block-block.result; bytes = c.in_ok-bytes.bytes } in
    let number = c.next_block-block.ensures ∙ ap (λ (k : Held). k.catalog.next) c.self.view_is in
    let first = c.in_ok-push.ensures.items ∙ ap (λ (fs : List Fresh). fs ++ f ∷ []) c.in_ok-fresh.ensures.items in
    elim c.match-made.branch [
      | in-Some+in_ok-bytes-2+in_ok-push-2+in_ok-push-3 w ↦
          let g : Fresh = record { block = c.next_block-block.result + 1; bytes = w.in_ok-bytes-2.bytes } in
          two_files next made.block made.state w.in-Some.state c.match-made.fresh.items f g w.in-Some.is
          (ap (λ (v : Vec Fresh Global). v.items) w.fresh-is ∙ w.in_ok-push-3.ensures.items ∙ ap (λ (fs : List Fresh). fs ++ g ∷ []) first)
          (number, c.in_ok-bytes.ensures) (ap (λ n. n + 1) number, w.in_ok-bytes-2.ensures.bytes)
      | in_default w ↦
          one_file next made.block made.state c.match-made.fresh.items f w.in_default.is (ap (λ (v : Vec Fresh Global). v.items) w.fresh-is ∙ first) (number, c.in_ok-bytes.ensures)
    ]
