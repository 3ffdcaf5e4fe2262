use Rattle.std.proofs.Common.{◌∷◌, [], ◌++◌, List, None, ap, ◌∙◌, option_map, vec_items}
use Rattle.nova_mem.specs.Deeds.{view}
use Rattle.nova_mem.specs.declared.parts.Deed.{Deed}
use Rattle.nova_mem.specs.declared.parts.Deed.TheVariants.{Removed}
use Rattle.nova_mem.proofs.Changes.{removed, viewed}
use Rattle.nova_mem.proofs.files.remove_file.Goals as goal

pub returns-clause-ok : goal.returns-clause-ok
returns-clause-ok c =
    let file = c.args.file in let before = c.remove-before.result in
    removed file before c.args.deeds.now.items c.keep.new.deeds.items (view c.args.files.now) (view c.remove-before.new.self)
    (c.keep.ensures ∙ ap (λ (l : List Deed). l ++ Removed file before ∷ []) c.reserve.ensures.items)
    (ap (option_map vec_items) c.remove-before.ensures.value)
    (λ n. viewed file n None c.args.files.now c.remove-before.new.self (c.remove-before.ensures.updates.0 n))
