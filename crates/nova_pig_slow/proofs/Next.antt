-- One more of a list.
use Rattle.std.proofs.Common.{◌≡◌, ℕ, ◌+◌, ◌-◌, ◌<◌, ◌≤◌, List, [], ◌∷◌, ◌++◌, map, flat_map, drop, take, length, get_or, ap, sym, ◌∙◌, append-nil, arith}
use Rattle.std.proofs.lemmas.List.{append_assoc, at_drop_more, map_push, take_more}

pub take_next : {A : Type 0} (xs : List A) (i : ℕ) (x : A) → i < length xs → x ≡ get_or xs i x → take i xs ++ x ∷ [] ≡ take (i + 1) xs
take_next xs i x h is = ap (λ y. take i xs ++ y ∷ []) is ∙ sym (take_more xs i x h)

pub map_next : {A B : Type 0} (f : A → B) (xs : List A) (i : ℕ) (x : A) → i < length xs → x ≡ get_or xs i x → map f (take i xs) ++ f x ∷ [] ≡ map f (take (i + 1) xs)
map_next f xs i x h is = sym (map_push f (take i xs) x) ∙ ap (map f) (take_next xs i x h is)

flat_map_push : {A B : Type 0} (f : A → List B) (xs : List A) (x : A) → flat_map f (xs ++ x ∷ []) ≡ flat_map f xs ++ f x
flat_map_push f [] x = append-nil (f x)
flat_map_push f (y ∷ ys) x = ap (λ l. f y ++ l) (flat_map_push f ys x) ∙ sym (append_assoc (f y) (flat_map f ys) (f x))

pub flat_map_next : {A B : Type 0} (f : A → List B) (xs : List A) (i : ℕ) (x : A) → i < length xs → x ≡ get_or xs i x → flat_map f (take i xs) ++ f x ≡ flat_map f (take (i + 1) xs)
flat_map_next f xs i x h is = sym (flat_map_push f (take i xs) x) ∙ ap (flat_map f) (take_next xs i x h is)

-- one step on from the end
pub drop_before : {A : Type 0} (xs : List A) (left : ℕ) (x d : A) → 0 < left → left ≤ length xs → x ≡ get_or xs (left - 1) d → x ∷ drop left xs ≡ drop (left - 1) xs
drop_before xs left x d some within is =
    let less : left - 1 < length xs = omega (arith, some, within) in
    let back : left - 1 + 1 ≡ left = omega (arith, some) in
    sym (at_drop_more (λ ys. ys) xs (left - 1) d less ∙ (λ i. sym is i ∷ drop (back i) xs))
