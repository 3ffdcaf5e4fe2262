use Rattle.std.proofs.Common.{◌-◌, ◌^◌, ◌∷◌, reverse, sym, List, ℕ, Option, option_map, length, ap, ◌∙◌}
use Rattle.std.proofs.lemmas.Result.{on_ok_weaker}
use Rattle.nova_outside.specs.Disk.{overlaid}
use Rattle.nova_outside.specs.History.Event.{OnFile}
use Rattle.nova_outside.specs.History.Change.{Written}
use Rattle.nova_mem.specs.Deeds.{view, told}
use Rattle.nova_mem.proofs.Told.{told_more, kept_after}
use Rattle.nova_mem.proofs.parts.Disk.write.Goals as goal

pub invariant_of-self : goal.invariant_of-self
invariant_of-self c =
    let disk = c.args.self.now in
    record { kept = kept_after (Written c.args.at (length c.args.bytes.now)) c.args.file (option_map (overlaid c.args.at c.args.bytes.now) (view disk.files c.args.file)) disk.deeds.items c.write_file.new.deeds.items (2 ^ 64 - 1) (view disk.files) (view c.write_file.new.files) disk.replies.items c.write_file.result c.write_file.ensures.ok c.write_file.ensures.err disk.kept }

pub returns-clause-ok : goal.returns-clause-ok
returns-clause-ok c =
    let disk = c.args.self.now in let file = c.args.file in
    let change = Written c.args.at (length c.args.bytes.now) in
    let h = told (reverse disk.deeds.items) (2 ^ 64 - 1) (view disk.files) disk.replies.items in
    on_ok_weaker c.write_file.result (λ does.
    told_more change file (option_map (overlaid c.args.at c.args.bytes.now) (view disk.files file)) disk.deeds.items c.write_file.new.deeds.items (2 ^ 64 - 1) (view disk.files) (view c.write_file.new.files) disk.replies.items does (disk.kept file)
    ∙ ap (λ (o : Option (List ℕ)). OnFile change file (option_map (overlaid c.args.at c.args.bytes.now) o) ∷ h) (sym (disk.kept file))) c.write_file.ensures.ok
