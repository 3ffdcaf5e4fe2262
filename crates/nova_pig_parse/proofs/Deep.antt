-- The counter finds the first 65th token of a piece.
use Rattle.std.proofs.Common.{◌≡◌, ℕ, zero, suc, ◌+◌, Bool, true, false, List, [], ◌∷◌, ◌++◌, drop, Some, refl, ap, sym, ◌∙◌, arith, rules}
use Rattle.std.proofs.lemmas.Grind.{common_steps}
use Rattle.std.specs.Prelude.{if◌then◌else◌, ◌==◌, filter, flat_map}
use Rattle.nova_value.specs.Lists.{onto_first}
use Rattle.nova_pig_tree.specs.declared.token.Placed.{Placed}
use Rattle.nova_pig_parse.specs.Parse.{too_deep}
use Rattle.nova_pig_parse.specs.Limits.{parts, nests}
use Rattle.nova_pig_parse.specs.Limits.{pieces, beyond, first_start, first_deep}

-- what is too deep where so many more may nest in the first piece
deep : ℕ → List (List Placed) → List Placed
deep k [] = []
deep k (piece ∷ more) = beyond k piece ++ flat_map (beyond 64) more

drop_none : (k : ℕ) → drop {A = Placed} k [] ≡ []
drop_none zero = refl
drop_none (suc k) = refl

deep_all : (cs : List (List Placed)) → flat_map (beyond 64) cs ≡ deep 64 cs
unfolding deep
deep_all [] = refl
deep_all (c ∷ cs) = refl

deep_parted : (k : ℕ) (cs : List (List Placed)) → deep k ([] ∷ cs) ≡ deep 64 cs
unfolding deep
deep_parted k cs = ap (λ xs. xs ++ flat_map (beyond 64) cs) (drop_none k) ∙ deep_all cs

-- a token that nests
nest_by : (u : Bool) (k : ℕ) (p : Placed) (piece : List Placed) → nests p.token ≡ u
    → beyond k (p ∷ piece) ≡ drop k (if u then p ∷ filter (λ p. nests p.token) piece else filter (λ p. nests p.token) piece)
nest_by true k p piece e = ap (drop k) (search (rules, e))
nest_by false k p piece e = ap (drop k) (search (rules, e))

first_of_deep : (p : Placed) (cs : List (List Placed)) → nests p.token ≡ true → first_start (deep 0 (onto_first p cs)) ≡ Some p.start
unfolding deep
first_of_deep p [] e = ap (λ xs. first_start (xs ++ [])) (nest_by true 0 p [] e)
first_of_deep p (c ∷ cs) e = ap (λ xs. first_start (xs ++ flat_map (beyond 64) cs)) (nest_by true 0 p c e)

deep_suc : (k : ℕ) (p : Placed) (cs : List (List Placed)) → nests p.token ≡ true → deep (suc k) (onto_first p cs) ≡ deep k cs
unfolding deep
deep_suc k p [] e = ap (λ xs. xs ++ []) (nest_by true (suc k) p [] e ∙ drop_none k)
deep_suc k p (c ∷ cs) e = ap (λ xs. xs ++ flat_map (beyond 64) cs) (nest_by true (suc k) p c e)

deep_same : (k : ℕ) (p : Placed) (cs : List (List Placed)) → nests p.token ≡ false → deep k (onto_first p cs) ≡ deep k cs
unfolding deep
deep_same k p [] e = ap (λ xs. xs ++ []) (nest_by false k p [] e ∙ drop_none k)
deep_same k p (c ∷ cs) e = ap (λ xs. xs ++ flat_map (beyond 64) cs) (nest_by false k p c e)

step_by : (t u : Bool) (k n : ℕ) (p : Placed) (ps : List Placed) → k + n ≡ 64 → nests p.token ≡ u
    → ((k n : ℕ) → k + n ≡ 64 → too_deep n ps ≡ first_start (deep k (pieces ps)))
    → (if t then too_deep 0 ps else (if u then (if n == 64 then Some p.start else too_deep (n + 1) ps) else too_deep n ps))
    ≡ first_start (deep k (if t then [] ∷ pieces ps else onto_first p (pieces ps)))
step_by true u k n p ps sum e again = again 64 0 refl ∙ ap first_start (sym (deep_parted k (pieces ps)))
step_by false false k n p ps sum e again = again k n sum ∙ ap first_start (sym (deep_same k p (pieces ps) e))
step_by false true zero n p ps sum e again =
    let is : (n == 64) ≡ true = grind (arith, common_steps, sum) in
    ap (λ b. if b then Some p.start else too_deep (n + 1) ps) is ∙ sym (first_of_deep p (pieces ps) e)
step_by false true (suc k) n p ps sum e again =
    let is : (n == 64) ≡ false = grind (arith, common_steps, sum) in
    ap (λ b. if b then Some p.start else too_deep (n + 1) ps) is ∙ again k (n + 1) (omega (arith, sum)) ∙ ap first_start (sym (deep_suc k p (pieces ps) e))

counted : (ps : List Placed) (k n : ℕ) → k + n ≡ 64 → too_deep n ps ≡ first_start (deep k (pieces ps))
unfolding too_deep pieces deep
counted [] k n sum = ap (λ xs. first_start (xs ++ [])) (sym (drop_none k))
counted (p ∷ ps) k n sum = step_by (parts p.token) (nests p.token) k n p ps sum refl (counted ps)

pub deep_law : (ps : List Placed) → too_deep 0 ps ≡ first_deep ps
deep_law ps = counted ps 64 0 refl ∙ ap first_start (sym (deep_all (pieces ps)))
