-- What each call on the files does, from what the map has at each number.
use Rattle.std.proofs.Common.{◌≡◌, ℕ, ◌+◌, ◌-◌, ◌≤◌, min, List, [], ◌∷◌, ◌++◌, length, take, drop, reverse, nat_eq, cond, if◌then◌else◌, Option, Some, None, option_map, Vec, vec_items, BTreeMap, Bool, true, false, inl, inr, refl, sym, ◌∙◌, ap, subst, arith, append_assoc, length-append, length-take, length-drop, take-append-drop}
use Rattle.std.proofs.lemmas.Bool.Decides.{nat_tests}
use Rattle.std.proofs.lemmas.Grind.{common_steps}
use Rattle.std.proofs.lemmas.Bool.{cases_lt}
use Rattle.std.proofs.lemmas.List.{reverse-append, take_all, take_at, drop_at, length-take-le}
use Rattle.std.proofs.Math.Seq.{take-append-add}
use Rattle.std.specs.BTreeMap.{get, is_at, IsEmpty}
use Rattle.std.specs.Map.{lookup}
use Rattle.std.specs.Ordering.{nat_cmp}
use Rattle.std.specs.declared.alloc.Global.{Global}
use Rattle.nova_outside.specs.Disk.{Files, overlaid}
use Rattle.nova_outside.specs.History.Event.{OnFile}
use Rattle.nova_outside.specs.History.Change.{Created as IsCreated, Written as IsWritten, Synced as IsSynced, Removed as IsRemoved}
use Rattle.nova_mem.specs.Deeds.{view, with_file, bytes_in, wrote}
use Rattle.nova_mem.specs.Does.{Does}
use Rattle.nova_mem.specs.declared.parts.Deed.{Deed}
use Rattle.nova_mem.specs.declared.parts.Deed.TheVariants.{Created, Written, Synced, Removed}

pub here : (file : ℕ) (x y : Option (List ℕ)) → (if nat_eq file file then x else y) ≡ x
here file x y = grind (arith, nat_tests)

-- the file as it was in the place of the new one
undo : (file n : ℕ) (x y : Option (List ℕ)) (old new : Files) → x ≡ old file → new n ≡ with_file file y old n → with_file file x new n ≡ old n
undo file n x y old new is news = grind (arith, nat_tests)

at_same : (k q : ℕ) → is_at (nat_cmp k) q ≡ nat_eq k q
at_same k q = grind (arith, nat_tests, common_steps)

-- what a map has at each number, as a file
pub viewed : (file n : ℕ) (v : Option (Vec ℕ Global)) (old new : BTreeMap ℕ (Vec ℕ Global)) → get nat_cmp new n ≡ cond (is_at (nat_cmp file) n) v (get nat_cmp old n) → view new n ≡ with_file file (option_map vec_items v) (view old) n
viewed file n v old new is = ap (option_map vec_items) (is ∙ ap (λ (b : Bool). cond b v (get nat_cmp old n)) (at_same file n)) ∙ both (nat_eq file n)
  where
    both : (b : Bool) → option_map vec_items (cond b v (get nat_cmp old n)) ≡ (if b then option_map vec_items v else option_map vec_items (get nat_cmp old n))
    both true = refl
    both false = refl

newest_is : (old new : List Deed) (d : Deed) → new ≡ old ++ d ∷ [] → reverse new ≡ d ∷ reverse old
newest_is old new d is = ap (λ (l : List Deed). reverse l) is ∙ reverse-append old (d ∷ [])

pub created : (file : ℕ) (before : Option (Vec ℕ Global)) (ds es : List Deed) (old new : Files) → es ≡ ds ++ Created file before ∷ [] → option_map vec_items before ≡ old file → ((n : ℕ) → new n ≡ with_file file (Some []) old n) → Does IsCreated file (Some []) ds es old new
created file before ds es old new is was files = record {
  deed = Created file before;
  newest = newest_is ds es (Created file before) is;
  files = files;
  undone = λ n. undo file n (option_map vec_items before) (Some []) old new was (files n);
  said = λ said. refl;
  event = λ said earlier e. ap (λ (o : Option (List ℕ)). OnFile IsCreated file (Some (bytes_in o))) (files file ∙ here file (Some []) (old file));
}

pub removed : (file : ℕ) (before : Option (Vec ℕ Global)) (ds es : List Deed) (old new : Files) → es ≡ ds ++ Removed file before ∷ [] → option_map vec_items before ≡ old file → ((n : ℕ) → new n ≡ with_file file None old n) → Does IsRemoved file None ds es old new
removed file before ds es old new is was files = record {
  deed = Removed file before;
  newest = newest_is ds es (Removed file before) is;
  files = files;
  undone = λ n. undo file n (option_map vec_items before) None old new was (files n);
  said = λ said. refl;
  event = λ said earlier e. refl;
}

same : (file n : ℕ) (files : Files) → files n ≡ with_file file (files file) files n
same file n files = grind (arith, nat_tests)

pub synced : (file : ℕ) (ds es : List Deed) (files : Files) → es ≡ ds ++ Synced file ∷ [] → Does IsSynced file (files file) ds es files files
synced file ds es files is = record {
  deed = Synced file;
  newest = newest_is ds es (Synced file) is;
  files = λ n. same file n files;
  undone = λ n. refl;
  said = λ said. refl;
  event = λ said earlier e. ap (λ (o : Option (List ℕ)). OnFile IsSynced file o) e;
}

length-over : (at n : ℕ) (old : List ℕ) → length (take n (drop at old)) ≡ min n (length old - at)
length-over at n old = omega (arith, length-take n (drop at old), length-drop at old)

-- the bytes that were written are there
written_there : (at : ℕ) (bytes old : List ℕ) → at ≤ length old → take (length bytes) (drop at (overlaid at bytes old)) ≡ bytes
written_there at bytes old le =
    let rest = drop (at + length bytes) old in
    let long : length (take at old) ≡ at = length-take-le at old le in
    ap (λ (l : List ℕ). take (length bytes) (drop at l)) (append_assoc (take at old) bytes rest) ∙ ap (λ (l : List ℕ). take (length bytes) l) (drop_at (take at old) (bytes ++ rest) at long) ∙ take_at bytes rest (length bytes) refl

-- the bytes that were written over, put back
put_back : (at : ℕ) (bytes old : List ℕ) → at ≤ length old → take (length old) (overlaid at (take (length bytes) (drop at old)) (overlaid at bytes old)) ≡ old
put_back at bytes old le =
    let n = length bytes in
    let new = overlaid at bytes old in
    let over = take n (drop at old) in
    let rest = drop (at + n) old in
    let long : length (take at old) ≡ at = length-take-le at old le in
    let front : take at new ≡ take at old = ap (λ (l : List ℕ). take at l) (append_assoc (take at old) bytes rest) ∙ take_at (take at old) (bytes ++ rest) at long in
    let more : take (at + n) old ≡ take at old ++ over =
    ap (λ (l : List ℕ). take (at + n) l) (sym (take-append-drop at old)) ∙ ap (λ (k : ℕ). take (k + n) (take at old ++ drop at old)) (sym long) ∙ take-append-add (take at old) (drop at old) n in
    let start : take at new ++ over ≡ take (at + n) old = ap (λ (l : List ℕ). l ++ over) front ∙ sym more in
    ap (λ (l : List ℕ). take (length old) (l ++ drop (at + length over) new)) start ∙ elim (cases_lt (length old) (at + n)) [
      | inl past ↦ ap (λ (l : List ℕ). take (length old) (l ++ drop (at + length over) new)) (take_all (at + n) old (omega (arith, past))) ∙ take_at old (drop (at + length over) new) (length old) refl
      | inr inside ↦
          let k : at + length over ≡ at + n = omega (arith, inside, length-over at n old) in
          let both : length (take at old ++ bytes) ≡ at + n = omega (arith, long, length-append (take at old) bytes) in
          ap (λ (m : ℕ). take (length old) (take (at + n) old ++ drop m new)) k ∙ ap (λ (l : List ℕ). take (length old) (take (at + n) old ++ l)) (drop_at (take at old ++ bytes) rest (at + n) both)
          ∙ ap (λ (l : List ℕ). take (length old) l) (take-append-drop (at + n) old) ∙ take_all (length old) old (omega arith)
    ]

pub written : (file at : ℕ) (bytes : List ℕ) (over : Vec ℕ Global) (was : List ℕ) (ds es : List Deed) (old new : Files) → es ≡ ds ++ Written file at (length bytes) over (length was) ∷ []
    → old file ≡ Some was → at ≤ length was → over.items ≡ take (length bytes) (drop at was) → ((n : ℕ) → new n ≡ with_file file (Some (overlaid at bytes was)) old n)
    → Does (IsWritten at (length bytes)) file (option_map (overlaid at bytes) (old file)) ds es old new
written file at bytes over was ds es old new is there le kept files =
    let now : option_map (overlaid at bytes) (old file) ≡ Some (overlaid at bytes was) = ap (option_map (overlaid at bytes)) there in
    let new_is : new file ≡ Some (overlaid at bytes was) = files file ∙ here file (Some (overlaid at bytes was)) (old file) in
    let back : option_map (λ (after : List ℕ). take (length was) (overlaid at over.items after)) (new file) ≡ old file =
    ap (option_map (λ (after : List ℕ). take (length was) (overlaid at over.items after))) new_is ∙ ap Some (ap (λ (l : List ℕ). take (length was) (overlaid at l (overlaid at bytes was))) kept ∙ put_back at bytes was le) ∙ sym there in
    let wrote_is : take (length bytes) (drop at (bytes_in (new file))) ≡ bytes = ap (λ (o : Option (List ℕ)). take (length bytes) (drop at (bytes_in o))) new_is ∙ written_there at bytes was le in
    subst (λ (o : Option (List ℕ)). Does (IsWritten at (length bytes)) file o ds es old new) (sym now) (record {
      deed = Written file at (length bytes) over (length was);
      newest = newest_is ds es (Written file at (length bytes) over (length was)) is;
      files = files;
      undone = λ n. undo file n (option_map (λ (after : List ℕ). take (length was) (overlaid at over.items after)) (new file)) (Some (overlaid at bytes was)) old new back (files n);
      said = λ said. refl;
      event = λ said earlier e. ap (λ (l : List ℕ). wrote at l file earlier) wrote_is ∙ ap (λ (o : Option (List ℕ)). OnFile (IsWritten at (length bytes)) file (option_map (overlaid at bytes) o)) (e ∙ there);
    })

pub empty_view : (files : BTreeMap ℕ (Vec ℕ Global)) → IsEmpty files → (n : ℕ) → view files n ≡ None
empty_view files empty n = ap (λ (es : List (ℕ × Vec ℕ Global)). option_map vec_items (lookup (is_at (nat_cmp n)) es)) empty
