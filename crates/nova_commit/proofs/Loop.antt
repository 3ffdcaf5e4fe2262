-- Reading items one after the other, as a loop does.
use Rattle.std.proofs.Common.{◌≡◌, ℕ, suc, ◌-◌, ◌+◌, ◌≤◌, ◌<◌, List, [], ◌∷◌, ◌++◌, Option, Some, None, refl, sym, ap, ◌∙◌, append_assoc, arith}
use Rattle.std.proofs.lemmas.List.{append-nil}
use Rattle.nova_commit.specs.declared.fault.MetaFault.{MetaFault}
use Rattle.nova_commit.specs.declared.fault.MetaFault.TheVariants.{BadRecord, NoMemory}
use Rattle.nova_commit.specs.Fields.{◌>>=◌, Fails, items_at}

module _ {A : Type 0} (item : List ℕ → Option (A × List ℕ)) where
  -- what was read before, and what is still read
  abbrev pub with_front : List A → Option (List A × List ℕ) → Option (List A × List ℕ)
  with_front front read = read >>= λ x. Some (front ++ x.0, x.1)

  regroup : (front : List A) (a : A) (read : Option (List A × List ℕ)) → with_front front (read >>= λ x. Some (a ∷ x.0, x.1)) ≡ with_front (front ++ a ∷ []) read
  regroup front a (Some x) = ap (λ (xs : List A). Some (xs, x.1)) (sym (append_assoc front (a ∷ []) x.0))
  regroup front a None = refl

  pub goes_on : (front : List A) (count i : ℕ) (bytes : List ℕ) (a : A) (after : List ℕ) (total : Option (List A × List ℕ)) → i < count → item bytes ≡ Some (a, after)
      → with_front front (items_at item (count - i) bytes) ≡ total → with_front (front ++ a ∷ []) (items_at item (count - (i + 1)) after) ≡ total
  goes_on front count i bytes a after total lt h so_far =
      let k : count - i ≡ suc (count - (i + 1)) = omega arith in
      sym (ap (λ (n : ℕ). with_front front (items_at item n bytes)) k
      ∙ ap (λ o. with_front front (o >>= λ x. items_at item (count - (i + 1)) x.1 >>= λ y. Some (x.0 ∷ y.0, y.1))) h
      ∙ regroup front a (items_at item (count - (i + 1)) after)) ∙ so_far

  pub ends : (e : MetaFault) (front : List A) (count i : ℕ) (bytes : List ℕ) (total : Option (List A × List ℕ)) → i < count → Fails e (item bytes)
      → with_front front (items_at item (count - i) bytes) ≡ total → Fails e total
  ends NoMemory front count i bytes total lt h so_far = tt
  ends BadRecord front count i bytes total lt h so_far =
      let k : count - i ≡ suc (count - (i + 1)) = omega arith in
      sym so_far ∙ ap (λ (n : ℕ). with_front front (items_at item n bytes)) k
      ∙ ap (λ o. with_front front (o >>= λ x. items_at item (count - (i + 1)) x.1 >>= λ y. Some (x.0 ∷ y.0, y.1))) h

  pub is_done : (front : List A) (count i : ℕ) (bytes : List ℕ) (total : Option (List A × List ℕ)) → count ≤ i → with_front front (items_at item (count - i) bytes) ≡ total → total ≡ Some (front, bytes)
  is_done front count i bytes total le so_far =
      let k : count - i ≡ 0 = omega arith in
      sym so_far ∙ ap (λ (n : ℕ). with_front front (items_at item n bytes)) k ∙ ap (λ (xs : List A). Some (xs, bytes)) (append-nil front)
