-- Reading one thing after the other, as loops do.
use Rattle.std.proofs.Common.{◌≡◌, ℕ, suc, ◌+◌, ◌-◌, ◌<◌, ◌≤◌, List, [], ◌∷◌, ◌++◌, length, drop, get_or, Bool, false, cond, Result, Ok, Err, refl, sym, ap, ◌∙◌, append_assoc, arith, add-one, drop-cons}
use Rattle.std.specs.Prelude.{not}
use Rattle.std.specs.declared.cmp.Ordering.{Ordering}
use Rattle.std.proofs.lemmas.List.{append-nil}
use Rattle.nova_row_codec.proofs.Loop.{drop_past}
use Rattle.nova_groups.specs.declared.item.Item.{Item}
use Rattle.nova_group_codec.specs.declared.fault.Flaw.{Flaw}
use Rattle.nova_group_codec.specs.declared.fault.Flaw.TheVariants.{Short, Broken, NoMemory}
use Rattle.nova_group_codec.specs.declared.sorts.Kept.{Kept}
use Rattle.nova_group_codec.specs.Reading.{Read, Listed, ◌>>=◌, Fails, FailsAt, next_at, more_at, item_at, items_at}
use Rattle.nova_group_codec.proofs.Lists.{more_ok, more_err, no_more}

-- what was pushed, where the push was no error
pub not_refused : {X : Type 0} (new pushed old : X) (ok err : Bool) → ok ≡ not err → err ≡ false → new ≡ cond ok pushed old → new ≡ pushed
not_refused {X = X} new pushed old ok err is none e = e ∙ ap (λ (b : Bool). cond b pushed old) (is ∙ ap not none)

-- a flaw of one thing is one of the whole
pub fails_too : {X Y : Type 0} (e : Flaw) (r : Result X Flaw) (s : Result Y Flaw) → ((f : Flaw) → r ≡ Err f → s ≡ Err f) → Fails e r → Fails e s
fails_too NoMemory r s h is = tt
fails_too Short r s h is = h _ is
fails_too Broken r s h is = h _ is

pub fails_at : {X Y : Type 0} (e : Flaw) (left : ℕ) (r : Result X Flaw) (s : Result Y (Flaw × ℕ)) → ((f : Flaw) → r ≡ Err f → s ≡ Err (f, left)) → Fails e r → FailsAt e left s
fails_at NoMemory left r s h is = tt
fails_at Short left r s h is = h _ is
fails_at Broken left r s h is = h _ is

-- ---- things that rise

module _ {K X : Type 0} (R : K → K → Ordering) (read : List ℕ → Read (K × X)) (n i : ℕ) (es : List (K × X)) (bytes : List ℕ) (total : Listed (K × X)) (so_far : more_at R read (n - i) es bytes ≡ total) where
  pub goes_on : i < n → (x : K × X) (after : List ℕ) → next_at R read es bytes ≡ Ok (x, after) → more_at R read (n - (i + 1)) (es ++ x ∷ []) after ≡ total
  goes_on within x after is =
      let m : n - i ≡ suc (n - (i + 1)) = omega (arith, within) in
      sym (more_ok R read (n - (i + 1)) es bytes (x, after) is) ∙ ap (λ (k : ℕ). more_at R read k es bytes) (sym m) ∙ so_far

  pub stops : i < n → (f : Flaw) → next_at R read es bytes ≡ Err f → total ≡ Err (f, length bytes)
  stops within f is =
      let m : n - i ≡ suc (n - (i + 1)) = omega (arith, within) in
      sym so_far ∙ ap (λ (k : ℕ). more_at R read k es bytes) m ∙ more_err R read (n - (i + 1)) es bytes f is

  pub ends : n ≤ i → total ≡ Ok (es, bytes)
  ends past =
      let m : n - i ≡ 0 = omega (arith, past) in
      sym so_far ∙ ap (λ (k : ℕ). more_at R read k es bytes) m ∙ no_more R read es bytes

-- ---- an item for each kept aggregate

abbrev Items : Type 0
Items = Read (List Item)

-- what was read before, and what is still read
abbrev pub with_prefix : List Item → Items → Items
with_prefix prefix read = read >>= λ a. Ok (prefix ++ a.0, a.1)

regroup : (prefix : List Item) (x : Item) (read : Items) → with_prefix prefix (read >>= λ a. Ok (x ∷ a.0, a.1)) ≡ with_prefix (prefix ++ x ∷ []) read
regroup prefix x (Ok a) = ap (λ (xs : List Item). Ok (xs, a.1)) (simp append_assoc)
regroup prefix x (Err f) = refl

module _ (prefix : List Item) (i : ℕ) (cs : List Kept) (d : Kept) (bytes : List ℕ) (total : Items) (so_far : with_prefix prefix (items_at (drop i cs) bytes) ≡ total) where
  one : i < length cs → with_prefix prefix (item_at (get_or cs i d) bytes >>= λ a. items_at (drop (i + 1) cs) a.1 >>= λ b. Ok (a.0 ∷ b.0, b.1)) ≡ total
  unfolding items_at
  one within = sym (rw (drop-cons cs i d within, add-one) refl) ∙ so_far

  pub item_goes_on : i < length cs → (x : Item) (after : List ℕ) → item_at (get_or cs i d) bytes ≡ Ok (x, after) → with_prefix (prefix ++ x ∷ []) (items_at (drop (i + 1) cs) after) ≡ total
  item_goes_on within x after is = sym (ap (λ (r : Read Item). with_prefix prefix (r >>= λ a. items_at (drop (i + 1) cs) a.1 >>= λ b. Ok (a.0 ∷ b.0, b.1))) is ∙ regroup prefix x _) ∙ one within

  pub item_stops : i < length cs → (e : Flaw) → Fails e (item_at (get_or cs i d) bytes) → Fails e total
  item_stops within e = fails_too e _ _ (λ f is. sym (one within) ∙ ap (λ (r : Read Item). with_prefix prefix (r >>= λ a. items_at (drop (i + 1) cs) a.1 >>= λ b. Ok (a.0 ∷ b.0, b.1))) is)

  pub items_end : length cs ≤ i → total ≡ Ok (prefix, bytes)
  unfolding items_at
  items_end past = sym so_far ∙ rw (drop_past i cs past) (ap (λ (xs : List Item). Ok (xs, bytes)) (append-nil prefix))
