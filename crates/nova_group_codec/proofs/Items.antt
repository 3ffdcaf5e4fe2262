-- Aggregates, contributions and groups: what is read is spelled so, what is spelled so is read, and flaws are those of
-- the cases.
use Rattle.std.proofs.Common.{◌≡◌, ℕ, ℤ, pos, negsuc, ◌<◌, ◌^◌, List, [], ◌∷◌, ◌++◌, length, Ok, Err, refl, sym, ap, subst, arith}
use Rattle.std.specs.Prelude.{T}
use Rattle.std.specs.List.{AllByRecursion, flat_map}
use Rattle.std.specs.Int.{w64, cast_signed, cast_unsigned}
use Rattle.std.specs.Int.RustNames.{FitsSigned}
use Rattle.std.specs.FinMap as fin
use Rattle.std.specs.FinMap.{is_sorted, entries_sorted, same_entries_map}
use Rattle.std.proofs.Math.Facts.{sfits_to_z, Fits-of_z, Fits-of_lt, Fits-lt-pow}
use Rattle.std.proofs.lemmas.Int.{ints, of_z-to_z, to_z-of_z}
use Rattle.std.proofs.lemmas.List.Concat.{flat_map-cons}
use Rattle.nova_value.specs.declared.value.Value.{Value}
use Rattle.nova_value.specs.declared.value.Kind.{Kind}
use Rattle.nova_value.specs.Order.{value_cmp}
use Rattle.nova_value.specs.Orders.{values_total, exact_values}
use Rattle.nova_value.specs.Rows.{IsLong}
use Rattle.nova_row_codec.specs.Spelling.{eight, value_bytes}
use Rattle.nova_row_codec.specs.Written.{IsBytes}
use Rattle.nova_row_codec.specs.Reading.{values_at}
use Rattle.nova_row_codec.proofs.Fields.{Takes}
use Rattle.nova_groups.specs.declared.item.Item.{Item}
use Rattle.nova_groups.specs.declared.item.Item.TheVariants as item
use Rattle.nova_groups.specs.declared.group.Share.{Share}
use Rattle.nova_groups.specs.Kinds.{Group}
use Rattle.nova_groups.specs.Numbers.{count_seen}
use Rattle.nova_group_codec.specs.declared.fault.Flaw.{Flaw}
use Rattle.nova_group_codec.specs.declared.sorts.Kept.{Kept}
use Rattle.nova_group_codec.specs.declared.sorts.Kept.TheVariants.{Total, Counts}
use Rattle.nova_group_codec.specs.Sorts.{SortsValue, argument_kinds}
use Rattle.nova_group_codec.specs.Spelling.{count_bytes, item_bytes, share_bytes, group_bytes, list_bytes, FitsCount, FitsItem, FitItems, FitsShare, FitsGroup}
use Rattle.nova_group_codec.specs.Reading.{Read, ◌>>=◌, flawed, positive_at, count_at, counts_at, item_at, items_at, share_at, group_at}
use Rattle.nova_group_codec.specs.Faults.{ThenFails, CountFails, ValueCountFails, ItemFails, ItemsFail, ShareFails, GroupFails}
use Rattle.nova_group_codec.specs.Faults as fault
use Rattle.nova_group_codec.proofs.Fields.{IsField, Makes, ok_is, ok_no_err, number_field, positive_field, value_flawed, values_flawed, pair_at, pair_field, map_field, same_field}
use Rattle.nova_group_codec.proofs.Rising.{entries_rising}
use Rattle.nova_group_codec.proofs.Lists.{AreRising, list_field, untold_field}

-- ---- sums

long_from_fits : (n : ℤ) → FitsSigned w64 n → IsLong n
long_from_fits (pos n) h = grind (arith, ints)
long_from_fits (negsuc n) h = grind (arith, ints)

fits_from_long : (n : ℤ) → IsLong n → FitsSigned w64 n
fits_from_long (pos n) h = grind (arith, ints)
fits_from_long (negsuc n) h = grind (arith, ints)

abbrev sum_of : ℕ → Item
sum_of n = item.Total (cast_signed w64 n)

makes_sum : Makes sum_of eight item_bytes (λ n. n < 2 ^ 64) (FitsItem Total)
unfolding item_bytes value_bytes
makes_sum = record {
  spelled = λ n small. ap eight (of_z-to_z w64 n small);
  fits = λ n small. long_from_fits (cast_signed w64 n) (sfits_to_z {w = w64} {n = n} (Fits-of_lt {w = w64} {n = n} small));
  from = number_of;
}
  where
    number_of : (i : Item) → FitsItem Total i → (n : ℕ) × (sum_of n ≡ i) × (n < 2 ^ 64)
    number_of (item.Total z) is =
        let fits = fits_from_long z is in
        (cast_unsigned w64 z, ap (λ (y : ℤ). item.Total y) (to_z-of_z w64 z fits), Fits-lt-pow {w = w64} {n = cast_unsigned w64 z} (Fits-of_z {w = w64} {z = z} fits))
    number_of (item.Counts m) is = absurd is

-- ---- counts

count_field : (k : Kind) → IsField (count_at k) count_bytes (FitsCount k) (ValueCountFails k)
unfolding count_at
count_field k = pair_field (value_flawed k) positive_field

abbrev counts_of : List (Value × ℕ) → Item
counts_of es = item.Counts (count_seen es)

makes_counts : (k : Kind) → Makes counts_of (list_bytes count_bytes) item_bytes (AreRising value_cmp (FitsCount k)) (FitsItem (Counts k))
unfolding item_bytes
makes_counts k = record {
  spelled = λ es are. ap (list_bytes count_bytes) (entries_rising values_total exact_values es are.rise);
  fits = λ es are. subst (λ (xs : List (Value × ℕ)). AllByRecursion (FitsCount k) xs × (length xs < 2 ^ 64)) (sym (entries_rising values_total exact_values es are.rise)) (are.fit, are.few);
  from = list_of;
}
  where
    list_of : (i : Item) → FitsItem (Counts k) i → (es : List (Value × ℕ)) × (counts_of es ≡ i) × AreRising value_cmp (FitsCount k) es
    list_of (item.Total n) is = absurd is
    list_of (item.Counts m) is = (
      fin.entries m,
      ap (λ n. item.Counts n) (same_entries_map (count_seen (fin.entries m)) m (entries_rising values_total exact_values (fin.entries m) (entries_sorted m))),
      record { fit = is.0; rise = entries_sorted m; few = is.1 },
    )

-- counts that are read rise
pub counts_rise : (k : Kind) (bytes : List ℕ) (a : List (Value × ℕ) × List ℕ) → IsBytes bytes → counts_at k bytes ≡ Ok a → T (is_sorted value_cmp a.0)
counts_rise k bytes a fits e = ((untold_field (list_field values_total (count_field k))).takes bytes a fits e).1.rise

-- ---- aggregates

item_field : (c : Kept) → IsField (item_at c) item_bytes (FitsItem c) (ItemFails c)
unfolding item_at
item_field Total = map_field number_field makes_sum (λ bytes g bad. bad) (λ bytes g bad. bad)
item_field (Counts k) = map_field (untold_field (list_field values_total (count_field k))) (makes_counts k) (λ bytes g bad. bad) (λ bytes g bad. bad)

-- what was read, beside what was read before
abbrev beside : {A B : Type 0} → A × List ℕ → B × List ℕ → Read (A × B)
beside a b = Ok ((a.0, b.0), b.1)

-- what was read, and what is read after it
abbrev with_second : {A B : Type 0} → (List ℕ → Read B) → A × List ℕ → Read (A × B)
with_second rb a = rb a.1 >>= beside a

-- what is made of what was read
abbrev made : {X Y : Type 0} → (X → Y) → X × List ℕ → Read Y
made f x = Ok (f x.0, x.1)

-- reading one thing and then another, and what is made of both
two_read : {A B Z : Type 0} (r : Read A) (rb : List ℕ → Read B) (f : A × B → Z) → ◌≡◌ {A = Read Z} (r >>= λ a. rb a.1 >>= λ b. Ok (f (a.0, b.0), b.1)) (r >>= with_second rb >>= made f)
two_read (Err g) rb f = refl
two_read {A = A} {B = B} {Z = Z} (Ok a) rb f = second (rb a.1)
  where
    second : (r : Read B) → ◌≡◌ {A = Read Z} (r >>= λ b. Ok (f (a.0, b.0), b.1)) (r >>= beside a >>= made f)
    second (Err g) = refl
    second (Ok b) = refl

-- and one more
three_read : {A B C Z : Type 0} (r : Read A) (rb : List ℕ → Read B) (rc : List ℕ → Read C) (f : A × (B × C) → Z) → ◌≡◌ {A = Read Z} (r >>= λ a. rb a.1 >>= λ b. rc b.1 >>= λ c. Ok (f (a.0, (b.0, c.0)), c.1)) (r >>= with_second (pair_at rb rc) >>= made f)
three_read (Err g) rb rc f = refl
three_read {A = A} {B = B} {C = C} {Z = Z} (Ok a) rb rc f = second (rb a.1)
  where
    third : (b : B × List ℕ) (r : Read C) → ◌≡◌ {A = Read Z} (r >>= λ c. Ok (f (a.0, (b.0, c.0)), c.1)) (r >>= beside b >>= beside a >>= made f)
    third b (Err g) = refl
    third b (Ok c) = refl

    second : (r : Read B) → ◌≡◌ {A = Read Z} (r >>= λ b. rc b.1 >>= λ c. Ok (f (a.0, (b.0, c.0)), c.1)) (r >>= with_second rc >>= beside a >>= made f)
    second (Err g) = refl
    second (Ok b) = third b (rc b.1)

abbrev items_bytes : List Item → List ℕ
items_bytes is = flat_map item_bytes is

abbrev joined : Item × List Item → List Item
joined p = p.0 ∷ p.1

makes_items : (c : Kept) (cs : List Kept) → Makes joined (λ (p : Item × List Item). item_bytes p.0 ++ items_bytes p.1) items_bytes (λ (p : Item × List Item). FitsItem c p.0 × FitItems cs p.1) (FitItems (c ∷ cs))
makes_items c cs = record {
  spelled = λ p fits. flat_map-cons item_bytes p.0 p.1;
  fits = λ p fits. fits;
  from = split;
}
  where
    split : (is : List Item) → FitItems (c ∷ cs) is → (p : Item × List Item) × (joined p ≡ is) × (FitsItem c p.0 × FitItems cs p.1)
    split [] fits = absurd fits
    split (i ∷ is) fits = ((i, is), refl, fits)

items_worse : {c : Kept} {cs : List Kept} {bytes : List ℕ} {g : Flaw} → ThenFails item_bytes (FitsItem c) (ItemFails c) (ItemsFail cs) bytes g → ItemsFail (c ∷ cs) bytes g
items_worse (fault.here bad) = fault.here bad
items_worse (fault.after i bytes is bad) = fault.after i bytes is bad

items_cause : {c : Kept} {cs : List Kept} {bytes : List ℕ} {g : Flaw} → ItemsFail (c ∷ cs) bytes g → ThenFails item_bytes (FitsItem c) (ItemFails c) (ItemsFail cs) bytes g
items_cause (fault.here bad) = fault.here bad
items_cause (fault.after i bytes is bad) = fault.after i bytes is bad

none_fails : {bytes : List ℕ} {g : Flaw} → ItemsFail [] bytes g → ⊥
none_fails bad = elim bad [ ]

no_items : (is : List Item) → FitItems [] is → [] ≡ is
no_items [] fits = refl
no_items (i ∷ is) fits = absurd fits

items_field : (cs : List Kept) → IsField (items_at cs) items_bytes (FitItems cs) (ItemsFail cs)
unfolding items_at
items_field [] = record {
  takes = λ bytes a fits e. subst (λ (z : List Item × List ℕ). Takes bytes (items_bytes z.0) z.1 × FitItems [] z.0) (ok_is ([], bytes) a e) (record { parts = refl; rest_fits = fits }, tt);
  again = λ is rest fits. subst (λ (xs : List Item). items_at [] (items_bytes xs ++ rest) ≡ Ok (xs, rest)) (no_items is fits) refl;
  fails = λ bytes g fits e. absurd (ok_no_err {A = List Item × List ℕ} ([], bytes) g e);
  refuses = λ bytes g bad. absurd (none_fails bad);
}
items_field (c ∷ cs) = same_field (λ bytes. two_read (item_at c bytes) (items_at cs) joined)
    (map_field (pair_field (item_field c) (items_field cs)) (makes_items c cs) (λ bytes g bad. items_worse bad) (λ bytes g bad. items_cause bad))

-- ---- contributions

abbrev share_of : List Value × (List Value × List Value) → List Value × Share
share_of p = (p.0, record { by = p.1.0; args = p.1.1 })

pub share_field : (s : SortsValue) → IsField (share_at s) share_bytes (FitsShare s) (ShareFails s)
unfolding share_at
share_field s = same_field (λ bytes. three_read (flawed (values_at s.key bytes)) (λ b. flawed (values_at s.by b)) (λ b. flawed (values_at (argument_kinds s.kept) b)) share_of)
    (map_field (pair_field (values_flawed s.key) (pair_field (values_flawed s.by) (values_flawed (argument_kinds s.kept))))
    (record {
      spelled = λ p fits. refl;
      fits = λ p fits. fits;
      from = λ e fits. ((e.0, (e.1.by, e.1.args)), refl, fits);
    }) (λ bytes g bad. bad) (λ bytes g bad. bad))

-- ---- groups

abbrev group_of : List Value × (ℕ × List Item) → List Value × Group
group_of p = (p.0, record { members = p.1.0; items = p.1.1 })

pub group_field : (s : SortsValue) → IsField (group_at s) group_bytes (FitsGroup s) (GroupFails s)
unfolding group_at
group_field s = same_field (λ bytes. three_read (flawed (values_at s.by bytes)) positive_at (items_at s.kept) group_of)
    (map_field (pair_field (values_flawed s.by) (pair_field positive_field (items_field s.kept)))
    (record {
      spelled = λ p fits. refl;
      fits = λ p fits. fits;
      from = λ e fits. ((e.0, (e.1.members, e.1.items)), refl, fits);
    }) (λ bytes g bad. bad) (λ bytes g bad. bad))
