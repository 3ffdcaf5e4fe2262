-- Each history that a disk in memory tells is valid.
use Rattle.std.specs.Prelude.{◌≡◌, ℕ, zero, suc, ◌+◌, ◌-◌, ◌^◌, min, List, [], ◌∷◌, ◌++◌, length, take, drop, reverse, nat_eq, if◌then◌else◌, Option, Some, None, option_map, refl}
use Rattle.std.proofs.Common.{inr, get_or, sym, ap, ◌∙◌, arith, length-append, length-take, length-drop}
use Rattle.std.proofs.lemmas.Bool.Decides.{nat_tests}
use Rattle.std.proofs.lemmas.List.{get_or_append_left, get_or-append_right, get_or-take, get_or-drop}
use Rattle.nova_outside.specs.Disk.{Files, overlaid, Torn, Tears}
use Rattle.nova_outside.specs.History.{Event, Valid, current}
use Rattle.nova_mem.specs.Deeds.{files_before, settled, settled_file, told, view}
use Rattle.nova_mem.specs.Disks.{history_of}
use Rattle.nova_mem.specs.declared.parts.Deed.{Deed}
use Rattle.nova_mem.specs.declared.parts.Deed.TheVariants.{Created, Written, Synced, Removed, Replied}
use Rattle.nova_mem.specs.declared.parts.Disk.{Disk}

here : (n : ℕ) (x y : Option (List ℕ)) → (if nat_eq n n then x else y) ≡ x
here n x y = grind (arith, nat_tests)

-- a write is one of the things that a torn one may leave, at any offset
any_torn : (at : ℕ) (bytes old : List ℕ) → Torn at (length bytes) old (overlaid at bytes old)
any_torn at bytes old =
    let n = length bytes in
    let front = take at old ++ bytes in
    let long : length front ≡ min at (length old) + n = omega (arith, length-take at old, length-append (take at old) bytes) in
    let whole : length (overlaid at bytes old) ≡ min at (length old) + n + (length old - (at + n)) = omega (arith, long, length-append front (drop (at + n) old), length-drop (at + n) old) in
    record {
      no_shorter = omega (arith, whole);
      no_longer = omega (arith, whole);
      below = λ i lt before. get_or_append_left front (drop (at + n) old) 0 i (omega (arith, before, long, lt)) ∙ get_or_append_left (take at old) bytes 0 i (omega (arith, before, lt, length-take at old)) ∙ get_or-take at old i 0 before;
      above = λ i lt after. get_or-append_right front (drop (at + n) old) (at + n) i 0 (omega (arith, long, lt, after)) after ∙ get_or-drop (at + n) old (i - (at + n)) 0 ∙ ap (λ (k : ℕ). get_or old k 0) (let e : at + n + (i - (at + n)) ≡ i = omega (arith, after) in e);
    }

any_tears : (at : ℕ) (bytes : List ℕ) (old : Option (List ℕ)) → Tears at (length bytes) old (option_map (overlaid at bytes) old)
any_tears at bytes None = refl
any_tears at bytes (Some old) = (overlaid at bytes old, refl, any_torn at bytes old)

valid_settled_file : (n : ℕ) (file : Option (List ℕ)) (h : List Event) → Valid h → Valid (settled_file n file h)
valid_settled_file n None h v = v
valid_settled_file n (Some bytes) h v = (sym (here n (Some bytes) (current h n)), (inr refl, v))

valid_settled : (base : ℕ) (files : Files) → Valid (settled base files)
unfolding settled
valid_settled zero files = valid_settled_file 0 (files 0) [] tt
valid_settled (suc n) files = valid_settled_file (suc n) (files (suc n)) (settled n files) (valid_settled n files)

-- each history that is told is valid
pub valid_told : (ds : List Deed) (base : ℕ) (files : Files) (said : List ℕ) → Valid (told ds base files said)
valid_told [] base files said = valid_settled base files
valid_told (Created file before ∷ ds) base files said = (inr refl, valid_told ds base (files_before (Created file before) files) said)
valid_told (Written file at count over length ∷ ds) base files said = (any_tears at _ (current (told ds base (files_before (Written file at count over length) files) said) file), valid_told ds base (files_before (Written file at count over length) files) said)
valid_told (Synced file ∷ ds) base files said = (refl, valid_told ds base files said)
valid_told (Removed file before ∷ ds) base files said = (inr refl, valid_told ds base (files_before (Removed file before) files) said)
valid_told (Replied count ∷ ds) base files said = valid_told ds base files (take (length said - count) said)

pub valid_disk : (disk : Disk) → Valid (history_of disk)
valid_disk disk = valid_told (reverse disk.deeds.items) (2 ^ 64 - 1) (view disk.files) disk.replies.items
