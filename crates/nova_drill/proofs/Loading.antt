-- Loads made an entry at a time.
use Rattle.std.proofs.Common.{◌≡◌, ℕ, zero, suc, ◌+◌, ◌-◌, ◌<◌, ◌≤◌, [], ◌∷◌, List, drop, fold, map, refl, sym, subst, arith}
use Rattle.std.proofs.Math.Seq.{drop-nil}
use Rattle.nova_value.specs.declared.schema.Entry.{Entry}
use Rattle.nova_delta.specs.Merge.{DeltaValue}
use Rattle.nova_delta.specs.Seen.{with_entry}
use Rattle.nova_drill.specs.Entries.{page_entry, pages_load, raw_entry, raw_load}
use Rattle.nova_drill.specs.Numbers.{next_number, number_after}
use Rattle.nova_drill.proofs.Loads.{IsLoading, IsLoadingPages}

one_less : (k : ℕ) → k < 8 → 8 - k ≡ suc (8 - (k + 1))
one_less k less = omega (arith, less)

nothing_left : (k : ℕ) → 8 ≤ k → 8 - k ≡ 0
nothing_left k all = omega (arith, all)

-- ---- requests

pub load_goes_on : (k number last next : ℕ) (delta new : DeltaValue) (e : Entry) → k < 8 → next ≡ next_number last → next < 65537 → e ≡ raw_entry next → new ≡ with_entry delta e
    → IsLoading (8 - k) number last delta → IsLoading (8 - (k + 1)) number next new
load_goes_on k number last next delta new e more next_is bound entry_is new_is loading =
    subst (λ (d : DeltaValue). IsLoading less number next d) (sym new_is)
    (subst (λ (x : Entry). IsLoading less number next (with_entry delta x)) (sym entry_is)
    (subst (λ (m : ℕ). IsLoading less number m (with_entry delta (raw_entry m))) (sym next_is)
    (from (subst (λ (n : ℕ). IsLoading n number last delta) (one_less k more) loading))))
  where
    less : ℕ
    less = 8 - (k + 1)

    from : IsLoading (suc less) number last delta → IsLoading less number (next_number last) (with_entry delta (raw_entry (next_number last)))
    from l = record { schema = l.schema; bound = subst (λ (m : ℕ). m < 65537) next_is bound; goes_on = l.goes_on; rest = l.rest }

pub all_loaded : (k number last : ℕ) (delta : DeltaValue) → 8 ≤ k → IsLoading (8 - k) number last delta → (delta ≡ raw_load number) × (last ≡ number_after 8 number)
all_loaded k number last delta all loading =
    let l : IsLoading 0 number last delta = subst (λ (n : ℕ). IsLoading n number last delta) (nothing_left k all) loading in
    (l.rest, l.goes_on)

-- ---- pages

abbrev numbers : List ℕ
numbers = 0 ∷ 1 ∷ 2 ∷ 3 ∷ []

next_page : (k : ℕ) → k < 4 → drop k numbers ≡ k ∷ drop (k + 1) numbers
next_page zero less = refl
next_page (suc zero) less = refl
next_page (suc (suc zero)) less = refl
next_page (suc (suc (suc zero))) less = refl
next_page (suc (suc (suc (suc k)))) less = absurd (omega (arith, less))

pub pages_go_on : (page : ℕ) (delta new : DeltaValue) (e : Entry) → page < 4 → e ≡ page_entry page → new ≡ with_entry delta e
    → IsLoadingPages page delta → IsLoadingPages (page + 1) new
pages_go_on page delta new e more entry_is new_is loading =
    subst (λ (d : DeltaValue). IsLoadingPages (page + 1) d) (sym new_is)
    (subst (λ (x : Entry). IsLoadingPages (page + 1) (with_entry delta x)) (sym entry_is)
    (record {
      schema = loading.schema;
      rest = subst (λ (left : List ℕ). fold with_entry delta (map page_entry left) ≡ pages_load) (next_page page more) loading.rest;
    }))

none_left : (k : ℕ) → 4 ≤ k → drop k numbers ≡ []
none_left zero all = absurd (omega (arith, all))
none_left (suc zero) all = absurd (omega (arith, all))
none_left (suc (suc zero)) all = absurd (omega (arith, all))
none_left (suc (suc (suc zero))) all = absurd (omega (arith, all))
none_left (suc (suc (suc (suc k)))) all = drop-nil k

pub all_pages : (page : ℕ) (delta : DeltaValue) → 4 ≤ page → IsLoadingPages page delta → delta ≡ pages_load
all_pages page delta all loading = subst (λ (left : List ℕ). fold with_entry delta (map page_entry left) ≡ pages_load) (none_left page all) loading.rest
