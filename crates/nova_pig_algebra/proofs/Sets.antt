-- Sets of columns, and rows that agree at them.
use Rattle.std.specs.Prelude.{◌≡◌, ◌⊎◌, ◌<◌, ℕ, zero, suc, ◌+◌, ◌==◌, nat_lt, Bool, true, false, ◌&&◌, ◌||◌, if◌then◌else◌, List, [], ◌∷◌, refl}
use Rattle.std.proofs.Common.{ap, sym, ◌∙◌, inl, inr, subst, eqb-true, arith}
use Rattle.std.specs.FinMap.{nat_cmp-IsAntisymmetric, slice_cmp-IsAntisymmetric}
use Rattle.std.specs.Cmp.{nat_cmp_total}
use Rattle.std.proofs.lemmas.Cmp.{tied_itself, lists_total}
use Rattle.std.specs.declared.cmp.Ordering.{Ordering}
use Rattle.std.specs.declared.cmp.Ordering.TheVariants.{Less, Equal, Greater}
use Rattle.std.specs.Ordering.{is_eq}
use Rattle.nova_value.specs.declared.value.Value.{Value}
use Rattle.nova_value.specs.Rows.{value_at, key_at}
use Rattle.nova_pig_algebra.specs.Meaning.{Row}
use Rattle.nova_pig_algebra.specs.Keys.{with_column, column_set, same_columns, is_one_of, covers, columns_from}
use Rattle.nova_pig_algebra.specs.Statements.{In}

pub in_with : (c k : ℕ) (ks : List ℕ) → In c (with_column k ks) → (c ≡ k) ⊎ In c ks
in_with c k [] h = h
in_with c k (j ∷ js) h = by_less (λ i. in_with c k js i) (nat_lt k j) (k == j) h
  where
    past : (c ≡ k) ⊎ In c js → (c ≡ k) ⊎ In c (j ∷ js)
    past (inl e) = inl e
    past (inr i) = inr (inr i)

    by_less : (In c (with_column k js) → (c ≡ k) ⊎ In c js) → (a b : Bool) → In c (if a then k ∷ j ∷ js else (if b then j ∷ js else j ∷ with_column k js)) → (c ≡ k) ⊎ In c (j ∷ js)
    by_less go true b i = i
    by_less go false true i = inr i
    by_less go false false (inl e) = inr (inl e)
    by_less go false false (inr i) = past (go i)

pub with_in : (c k : ℕ) (ks : List ℕ) → (c ≡ k) ⊎ In c ks → In c (with_column k ks)
with_in c k [] h = h
with_in c k (j ∷ js) h = by_less (λ i. with_in c k js i) (nat_lt k j) (k == j) (λ e. eqb-true k j e) h
  where
    by_less : ((c ≡ k) ⊎ In c js → In c (with_column k js)) → (a b : Bool) → (b ≡ true → k ≡ j) → (c ≡ k) ⊎ In c (j ∷ js) → In c (if a then k ∷ j ∷ js else (if b then j ∷ js else j ∷ with_column k js))
    by_less go true b same i = i
    by_less go false true same (inl e) = inl (e ∙ same refl)
    by_less go false true same (inr i) = i
    by_less go false false same (inl e) = inr (go (inl e))
    by_less go false false same (inr (inl e)) = inl e
    by_less go false false same (inr (inr i)) = inr (go (inr i))

pub set_in : (c : ℕ) (ks : List ℕ) → In c ks → In c (column_set ks)
set_in c [] h = h
set_in c (k ∷ ks) (inl e) = with_in c k (column_set ks) (inl e)
set_in c (k ∷ ks) (inr i) = with_in c k (column_set ks) (inr (set_in c ks i))

tie : (o : Ordering) → is_eq o ≡ true → o ≡ Equal
tie Less e = absurd cc
tie Equal e = refl
tie Greater e = absurd cc

pub same_set : (a b : List ℕ) → same_columns a b ≡ true → a ≡ b
same_set a b e = slice_cmp-IsAntisymmetric nat_cmp-IsAntisymmetric a b (tie _ e)

pub same_itself : (a : List ℕ) → same_columns a a ≡ true
same_itself a = ap is_eq (tied_itself (lists_total nat_cmp_total) a)

pub both_true : (a b : Bool) → (a && b) ≡ true → (a ≡ true) × (b ≡ true)
both_true true b e = (refl, e)
both_true false b e = absurd cc

one_in : (k : ℕ) (columns : List ℕ) → is_one_of k columns ≡ true → In k columns
one_in k [] e = absurd cc
one_in k (j ∷ js) e = step (k == j) refl e (one_in k js)
  where
    step : (b : Bool) → (k == j) ≡ b → (b || is_one_of k js) ≡ true → (is_one_of k js ≡ true → In k js) → In k (j ∷ js)
    step true is f go = inl (eqb-true k j is)
    step false is f go = inr (go f)

pub covered : (columns ks : List ℕ) → covers columns ks ≡ true → (c : ℕ) → In c ks → In c columns
covered columns [] e c i = absurd i
covered columns (k ∷ ks) e c (inl same) = let p = both_true (is_one_of k columns) (covers columns ks) e in subst (λ z. In z columns) (sym same) (one_in k columns p.0)
covered columns (k ∷ ks) e c (inr i) = let p = both_true (is_one_of k columns) (covers columns ks) e in covered columns ks p.1 c i

pub in_columns : (s n k : ℕ) → k < n → In (s + k) (columns_from s n)
in_columns s zero k h = absurd (omega arith)
in_columns s (suc n) zero h = inl (omega arith)
in_columns s (suc n) (suc k) h =
    let moved : suc s + k ≡ s + suc k = omega arith in
    inr (subst (λ z. In z (columns_from (suc s) n)) moved (in_columns (suc s) n k (omega arith)))

-- equal at each of these columns
abbrev pub Agree : List ℕ → Row → Row → Type 0
Agree key x y = (c : ℕ) → In c key → value_at x c ≡ value_at y c

-- not equal at all of them
abbrev pub Unlike : List ℕ → Row → Row → Type 0
Unlike key x y = Agree key x y → ⊥

abbrev head_of : Value → List Value → Value
head_of d [] = d
head_of d (v ∷ vs) = v

abbrev tail_of : List Value → List Value
tail_of [] = []
tail_of (v ∷ vs) = vs

pub agree_by : (key : List ℕ) (x y : Row) → key_at key x ≡ key_at key y → Agree key x y
agree_by [] x y e c i = absurd i
agree_by (k ∷ key) x y e c (inl same) = ap (value_at x) same ∙ ap (head_of (value_at x k)) e ∙ ap (value_at y) (sym same)
agree_by (k ∷ key) x y e c (inr i) = agree_by key x y (ap tail_of e) c i

pub by_agree : (key : List ℕ) (x y : Row) → Agree key x y → key_at key x ≡ key_at key y
by_agree [] x y h = refl
by_agree (k ∷ key) x y h = let first = h k (inl refl) in let rest = by_agree key x y (λ c i. h c (inr i)) in λ i. first i ∷ rest i
