-- The entries of a map by names that are borrowed, as aliases.
use Rattle.std.proofs.Common.{◌≡◌, ℕ, suc, ◌+◌, Bool, true, false, cond, if◌then◌else◌, not, List, [], ◌∷◌, ◌++◌, map, Option, Some, None, Bor, refl, ap, sym, ◌∙◌, arith}
use Rattle.std.specs.List.{position, position_or_len}
use Rattle.std.specs.Map.{lookup, keys_of}
use Rattle.indexmap.specs.IndexMap.{insert_entry}
use Rattle.nova_pig_plan.specs.Columns.{same_text}
use Rattle.nova_pig_plan.specs.Plans.{find}

abbrev pub Entries : Type 0 → Type 0
Entries V = List (Bor (List ℕ) × V)

abbrev pub seen : {V : Type 0} → Entries V → List (List ℕ × V)
seen es = map (λ e. (e.0.now, e.1)) es

abbrev pub paired : {V : Type 0} → ℕ → Option V → ℕ → Option (ℕ × V)
paired n None k = None
paired n (Some v) k = Some (n + k, v)

abbrev pub asks : List ℕ → Bor (List ℕ) → Bool
asks q k = same_text q k.now

place : (b : Bool) (k i : ℕ) → Some i ≡ cond b (Some k) None → k ≡ i
place true k i e = cc
place false k i e = absurd cc

module _ {V : Type 0} where
  found : (q : List ℕ) (es : Entries V) (n : ℕ) → find q n (seen es) ≡ paired n (lookup (asks q) es) (position_or_len (asks q) (keys_of es))
  found q [] n = refl
  found q (e ∷ es) n = step (asks q e.0) (lookup (asks q) es) (position_or_len (asks q) (keys_of es)) (found q es (suc n))
    where
      step : (b : Bool) (o : Option V) (k : ℕ) → find q (suc n) (seen es) ≡ paired (suc n) o k
          → (if b then Some (n, e.1) else find q (suc n) (seen es)) ≡ paired n (cond b (Some e.1) o) (cond (not b) (1 + k) 0)
      step true o k h = ap (λ m. Some (m, e.1)) (omega arith)
      step false None k h = h
      step false (Some v) k h = h ∙ ap (λ m. Some (m, v)) (omega arith)

  pub find_none : (q : List ℕ) (es : Entries V) → None ≡ lookup (asks q) es → None ≡ find q 0 (seen es)
  find_none q es e = sym (found q es 0 ∙ ap (λ o. paired 0 o (position_or_len (asks q) (keys_of es))) (sym e))

  pub find_some : (q : List ℕ) (es : Entries V) (i : ℕ) (v : V) → Some i ≡ position (asks q) (keys_of es) → Some v ≡ lookup (asks q) es → Some (i, v) ≡ find q 0 (seen es)
  find_some q es i v at e =
      let k = position_or_len (asks q) (keys_of es) in
      let is : k ≡ i = place _ k i at in
      let zero_is : 0 + k ≡ i = omega (arith, is) in
      sym (found q es 0 ∙ ap (λ o. paired 0 o k) (sym e) ∙ ap (λ m. Some (m, v)) zero_is)

  pub added : (k : Bor (List ℕ)) (v : V) (es : Entries V) (n : ℕ) → find k.now n (seen es) ≡ None → seen (insert_entry (λ x y. same_text x.now y.now) es k v) ≡ seen es ++ (k.now, v) ∷ []
  added k v [] n e = refl
  added k v (x ∷ es) n e = step (same_text k.now x.0.now) e (λ h. added k v es (suc n) h)
    where
      step : (b : Bool) → (if b then Some (n, x.1) else find k.now (suc n) (seen es)) ≡ None
          → (find k.now (suc n) (seen es) ≡ None → seen (insert_entry (λ a b. same_text a.now b.now) es k v) ≡ seen es ++ (k.now, v) ∷ [])
          → seen (if b then (x.0, v) ∷ es else x ∷ insert_entry (λ a b. same_text a.now b.now) es k v) ≡ (x.0.now, x.1) ∷ seen es ++ (k.now, v) ∷ []
      step true h rest = absurd cc
      step false h rest = ap (λ r. (x.0.now, x.1) ∷ r) (rest h)
