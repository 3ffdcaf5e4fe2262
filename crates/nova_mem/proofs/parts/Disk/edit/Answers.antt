use Rattle.std.proofs.Common.{List, ℕ, set, ◌≤◌, ◌-◌, ◌^◌, option_map, arith}
use Rattle.nova_outside.specs.Disk.{SameBut}
use Rattle.nova_mem.specs.Deeds.{view}
use Rattle.nova_mem.proofs.Settling.{changed_one, kept_without, only_without, others_without, replies_without}
use Rattle.nova_mem.proofs.parts.Disk.edit.Goals as goal

pub invariant_of-self : goal.invariant_of-self
invariant_of-self c =
    let disk = c.args.self.now in let f = c.args.file in
    let fits : f ≤ 2 ^ 64 - 1 = omega (arith, c.ranges.file) in
    let one : SameBut f (view disk.files) (view c.edit_file.new.files) = changed_one f (option_map (λ (bytes : List ℕ). set bytes c.args.at c.args.byte) (view disk.files f)) (view disk.files) (view c.edit_file.new.files) c.edit_file.ensures in
    record { kept = kept_without f (2 ^ 64 - 1) fits disk.deeds.items c.forget.new.deeds.items (view disk.files) (view c.edit_file.new.files) disk.replies.items c.forget.ensures one disk.kept }

pub returns-clause-settled : goal.returns-clause-settled
returns-clause-settled c =
    let disk = c.args.self.now in let f = c.args.file in
    let fits : f ≤ 2 ^ 64 - 1 = omega (arith, c.ranges.file) in
    let one : SameBut f (view disk.files) (view c.edit_file.new.files) = changed_one f (option_map (λ (bytes : List ℕ). set bytes c.args.at c.args.byte) (view disk.files f)) (view disk.files) (view c.edit_file.new.files) c.edit_file.ensures in
    only_without f (2 ^ 64 - 1) fits disk.deeds.items c.forget.new.deeds.items (view disk.files) (view c.edit_file.new.files) disk.replies.items c.forget.ensures one disk.kept

pub returns-clause-pending : goal.returns-clause-pending
returns-clause-pending c =
    let disk = c.args.self.now in let f = c.args.file in
    let fits : f ≤ 2 ^ 64 - 1 = omega (arith, c.ranges.file) in
    let one : SameBut f (view disk.files) (view c.edit_file.new.files) = changed_one f (option_map (λ (bytes : List ℕ). set bytes c.args.at c.args.byte) (view disk.files f)) (view disk.files) (view c.edit_file.new.files) c.edit_file.ensures in
    others_without f (2 ^ 64 - 1) fits disk.deeds.items c.forget.new.deeds.items (view disk.files) (view c.edit_file.new.files) disk.replies.items c.forget.ensures one

pub returns-clause-replies : goal.returns-clause-replies
returns-clause-replies c =
    let disk = c.args.self.now in
    replies_without (2 ^ 64 - 1) disk.deeds.items c.forget.new.deeds.items (view disk.files) (view c.edit_file.new.files) disk.replies.items
