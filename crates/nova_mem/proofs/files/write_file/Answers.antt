use Rattle.std.proofs.Common.{rules, ◌≡◌, ◌≤◌, List, ℕ, Option, Some, Vec, IsSome, refl, ap, sym, subst, ◌∙◌, option_map, vec_items, length, take, drop}
use Rattle.std.specs.Option.{option_copied_mut}
use Rattle.std.specs.BTreeMap.{get}
use Rattle.std.specs.Ordering.{nat_cmp}
use Rattle.std.specs.declared.alloc.Global.{Global}
use Rattle.nova_outside.specs.Disk.{Reaches}
use Rattle.nova_mem.specs.Deeds.{view, with_file}
use Rattle.nova_mem.proofs.Changes.{written, viewed}
use Rattle.nova_mem.proofs.files.write_file.Goals as goal

pub returns-clause-ok : goal.returns-clause-ok
returns-clause-ok c =
    let file = c.args.file in let at = c.args.at in let bytes = c.args.bytes.now in
    let old = c.in-Some.old.now in let new = c.overlay.new.old in let over = c.in_ok-over.over in
    let found : get nat_cmp c.args.files.now file ≡ Some old = sym c.get_mut.ensures.value ∙ ap option_copied_mut c.in-Some.is in
    let there : view c.args.files.now file ≡ Some old.items = ap (option_map vec_items) found in
    let le : at ≤ length old.items = subst (Reaches at) there c.requires in
    let kept : over.items ≡ take (length bytes) (drop at old.items) = c.in_ok-over.ensures ∙ ap (λ (l : List ℕ). take (length bytes) (drop at l)) c.deref.ensures.value in
    let some : IsSome (get nat_cmp c.args.files.now file) = subst (λ (o : Option (Vec ℕ Global)). IsSome o) (sym found) refl in
    let wrote = (c.get_mut.follows.holds new).3 some in
    written file at bytes over old.items c.args.deeds.now.items c.keep.new.deeds.items (view c.args.files.now) (view (c.get_mut.follows.lender new))
    (let k = c.keep.ensures in let a = c.len-length.ensures in search rules) there le kept
    (λ n. viewed file n (Some new) c.args.files.now (c.get_mut.follows.lender new) (wrote.0 n) ∙ ap (λ (l : List ℕ). with_file file (Some l) (view c.args.files.now) n) c.in_ok-overlay.ensures.ok)
