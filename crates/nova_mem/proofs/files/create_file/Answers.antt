use Rattle.std.proofs.Common.{◌∷◌, [], ◌++◌, List, ℕ, Some, ap, ◌∙◌, option_map, vec_items}
use Rattle.nova_mem.specs.Deeds.{view, with_file}
use Rattle.nova_mem.specs.declared.parts.Deed.{Deed}
use Rattle.nova_mem.specs.declared.parts.Deed.TheVariants.{Created}
use Rattle.nova_mem.proofs.Changes.{created, viewed}
use Rattle.nova_mem.proofs.files.create_file.Goals as goal

pub returns-in-Ok-clause-ok : goal.returns-in-Ok-clause-ok
returns-in-Ok-clause-ok c =
    let file = c.args.file in let before = c.in-Ok.before in
    created file before c.args.deeds.now.items c.keep.new.deeds.items (view c.args.files.now) (view c.insert.new.self)
    (c.keep.ensures ∙ ap (λ (l : List Deed). l ++ Created file before ∷ []) c.reserve.ensures.items)
    (ap (option_map vec_items) c.in-Ok.ensures.old)
    (λ n. viewed file n (Some c.new.result) c.args.files.now c.insert.new.self (c.in-Ok.ensures.updates.0 n) ∙ ap (λ (l : List ℕ). with_file file (Some l) (view c.args.files.now) n) c.new.ensures.items)
