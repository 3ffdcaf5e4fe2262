-- Counts, sums and groups, with one member more or less.
use Rattle.std.proofs.Common.{◌≡◌, ℕ, zero, suc, ◌+◌, ◌-◌, ◌<◌, ◌≤◌, ◌^◌, ℤ, ◌+ℤ◌, neg_ℤ, Bool, true, false, cond, ◌||◌, List, [], ◌∷◌, ◌++◌, map, length, refl, ap, sym, ◌∙◌, arith}
use Rattle.std.specs.declared.cmp.Ordering.{Ordering}
use Rattle.std.specs.declared.cmp.Ordering.TheVariants.{Less, Equal, Greater}
use Rattle.std.specs.Ordering.{eq_by_cmp, is_eq}
use Rattle.std.specs.List.{list_any}
use Rattle.std.specs.Int.{w64}
use Rattle.std.specs.FinMap.{get, get-insert, get-remove, same_map}
use Rattle.std.proofs.lemmas.Cmp.{tied_itself}
use Rattle.std.proofs.lemmas.Int.{ints, int_wrap-add_left}
use Rattle.std.proofs.lemmas.List.{map-append, length-append}
use Rattle.nova_value.specs.declared.value.Value.{Value}
use Rattle.nova_value.specs.Order.{value_cmp}
use Rattle.nova_value.specs.Orders.{exact_values, values_total}
use Rattle.nova_delta.specs.ActionLaws.{get-tabulated}
use Rattle.nova_pig_tree.specs.declared.expression.CallKind.{CallKind}
use Rattle.nova_pig_tree.specs.declared.expression.CallKind.TheVariants as call
use Rattle.nova_groups.specs.declared.item.Item.TheVariants.{Total, Counts}
use Rattle.nova_groups.specs.Numbers.{CountMap}
use Rattle.nova_groups.specs.declared.group.Share.{Share}
use Rattle.nova_value.specs.Wrapped.{wrapped}
use Rattle.nova_groups.specs.State.{long_of, total, head, rest, positive, number, counted, item, items, tally, or_zero, put_count, up, more, fewer, each, joined, left}

number-around : (q v : Value) (front back : List Value) → number q (front ++ v ∷ back) ≡ cond (eq_by_cmp value_cmp q v) 1 0 + number q (front ++ back)
number-around q v [] back = refl
number-around q v (w ∷ front) back = omega (arith, number-around q v front back)

total-around : (v : Value) (front back : List Value) → total (front ++ v ∷ back) ≡ total (front ++ back) +ℤ long_of v
total-around v [] back = omega (arith, ints)
total-around v (w ∷ front) back = omega (arith, ints, total-around v front back)

or_first : (a b : Bool) → (a || b) ≡ false → a ≡ false
or_first true b e = e
or_first false b e = refl

or_second : (a b : Bool) → (a || b) ≡ false → b ≡ false
or_second true b e = cc
or_second false b e = e

-- below the end of the type
up_is : (n : ℕ) → n + 1 < 2 ^ 64 → up n ≡ n + 1
up_is n h = omega (arith, h)

pub number-length : (q : Value) (vs : List Value) → number q vs ≤ length vs
number-length q [] = omega arith
number-length q (v ∷ vs) = by_test (eq_by_cmp value_cmp q v) (number-length q vs)
  where
    by_test : (b : Bool) → number q vs ≤ length vs → cond b 1 0 + number q vs ≤ suc (length vs)
    by_test true h = omega (arith, h)
    by_test false h = omega (arith, h)

number-none : (q : Value) (vs : List Value) → list_any (eq_by_cmp value_cmp q) vs ≡ false → number q vs ≡ 0
number-none q [] h = refl
number-none q (v ∷ vs) h = ap (λ b. cond b 1 0 + number q vs) (or_first _ _ h) ∙ omega (arith, number-none q vs (or_second (eq_by_cmp value_cmp q v) _ h))

pub get-counted : (vs : List Value) (q : Value) → get (counted vs) q ≡ positive (number q vs)
unfolding counted
get-counted vs q = get-tabulated exact_values q (λ v. positive (number v vs)) values_total vs (λ none. ap positive (number-none q vs none))

or_zero-positive : (n : ℕ) → or_zero (positive n) ≡ n
or_zero-positive zero = refl
or_zero-positive (suc n) = refl

pub get-put_count : (m : CountMap) (v : Value) (n : ℕ) (q : Value) → get (put_count m v n) q ≡ cond (eq_by_cmp value_cmp q v) (positive n) (get m q)
get-put_count m v zero q = get-remove values_total m v q
get-put_count m v (suc n) q = get-insert values_total m v (suc n) q

equal : (o : Ordering) → is_eq o ≡ true → o ≡ Equal
equal Less e = cc
equal Equal e = refl
equal Greater e = cc

-- a map that differs from one list's counts at v as the other list does
counts_change : (vs ws : List Value) (v : Value) (n : ℕ) → n ≡ number v ws → ((q : Value) → eq_by_cmp value_cmp q v ≡ false → number q vs ≡ number q ws) → put_count (counted vs) v n ≡ counted ws
counts_change vs ws v n here others = same_map values_total exact_values _ _ (λ q.
    get-put_count (counted vs) v n q ∙ by_test q (eq_by_cmp value_cmp q v) refl ∙ sym (get-counted ws q))
  where
    by_test : (q : Value) (b : Bool) → eq_by_cmp value_cmp q v ≡ b → cond b (positive n) (get (counted vs) q) ≡ positive (number q ws)
    by_test q true ties = ap positive here ∙ ap (λ x. positive (number x ws)) (sym (exact_values q v (equal _ ties)))
    by_test q false apart = get-counted vs q ∙ ap positive (others q apart)

same_ones : (v : Value) → ◌≡◌ {A = ℕ} (cond (eq_by_cmp value_cmp v v) 1 0) 1
same_ones v = ap (λ o. let n : ℕ = cond (is_eq o) 1 0 in n) (tied_itself values_total v)

counted-more : (v : Value) (front back : List Value) → length (front ++ back) + 1 < 2 ^ 64 → put_count (counted (front ++ back)) v (up (or_zero (get (counted (front ++ back)) v))) ≡ counted (front ++ v ∷ back)
counted-more v front back short =
    let old : or_zero (get (counted (front ++ back)) v) ≡ number v (front ++ back) = ap or_zero (get-counted (front ++ back) v) ∙ or_zero-positive _ in
    let few : number v (front ++ back) + 1 < 2 ^ 64 = omega (arith, short, number-length v (front ++ back)) in
    let next : up (or_zero (get (counted (front ++ back)) v)) ≡ number v (front ++ back) + 1 = ap up old ∙ up_is _ few in
    counts_change (front ++ back) (front ++ v ∷ back) v _
    (next ∙ omega (arith, number-around v v front back, same_ones v))
    (λ q apart. sym (number-around q v front back ∙ ap (λ b. cond b 1 0 + number q (front ++ back)) apart ∙ omega arith))

counted-fewer : (v : Value) (front back : List Value) → put_count (counted (front ++ v ∷ back)) v (or_zero (get (counted (front ++ v ∷ back)) v) - 1) ≡ counted (front ++ back)
counted-fewer v front back =
    let old : or_zero (get (counted (front ++ v ∷ back)) v) ≡ number v (front ++ v ∷ back) = ap or_zero (get-counted (front ++ v ∷ back) v) ∙ or_zero-positive _ in
    counts_change (front ++ v ∷ back) (front ++ back) v _
    (omega (arith, old, number-around v v front back, same_ones v))
    (λ q apart. number-around q v front back ∙ ap (λ b. cond b 1 0 + number q (front ++ back)) apart ∙ omega arith)

item-more : (k : CallKind) (v : Value) (front back : List Value) → length (front ++ back) + 1 < 2 ^ 64 → more (item k (front ++ back)) v ≡ item k (front ++ v ∷ back)
item-more call.Count v front back short = ap Total (int_wrap-add_left w64 (total (front ++ back)) (long_of v) ∙ ap wrapped (sym (total-around v front back)))
item-more call.Sum v front back short = ap Total (int_wrap-add_left w64 (total (front ++ back)) (long_of v) ∙ ap wrapped (sym (total-around v front back)))
item-more call.Min v front back short = ap Counts (counted-more v front back short)
item-more call.Max v front back short = ap Counts (counted-more v front back short)

back_again : (a b c : ℤ) → a ≡ b +ℤ c → a +ℤ neg_ℤ c ≡ b
back_again a b c e = omega (arith, ints, e)

item-fewer : (k : CallKind) (v : Value) (front back : List Value) → fewer (item k (front ++ v ∷ back)) v ≡ item k (front ++ back)
item-fewer call.Count v front back =
    ap Total (int_wrap-add_left w64 (total (front ++ v ∷ back)) (neg_ℤ (long_of v)) ∙ ap wrapped (back_again _ _ _ (total-around v front back)))
item-fewer call.Sum v front back =
    ap Total (int_wrap-add_left w64 (total (front ++ v ∷ back)) (neg_ℤ (long_of v)) ∙ ap wrapped (back_again _ _ _ (total-around v front back)))
item-fewer call.Min v front back = ap Counts (counted-fewer v front back)
item-fewer call.Max v front back = ap Counts (counted-fewer v front back)

length-maps : {A B : Type 0} (f : A → B) (xs ys : List A) → length (map f xs ++ map f ys) ≡ length (xs ++ ys)
length-maps f [] [] = refl
length-maps f [] (y ∷ ys) = ap suc (length-maps f [] ys)
length-maps f (x ∷ xs) ys = ap suc (length-maps f xs ys)

items-more : (ks : List CallKind) (a : List Value) (front back : List (List Value)) → length (front ++ back) + 1 < 2 ^ 64 → each more (items ks (front ++ back)) a ≡ items ks (front ++ a ∷ back)
items-more [] a front back short = refl
items-more (k ∷ ks) a front back short =
    let firsts : more (item k (map head (front ++ back))) (head a) ≡ item k (map head (front ++ a ∷ back)) =
    ap (λ (vs : List Value). more (item k vs) (head a)) (map-append head front back) ∙ item-more k (head a) (map head front) (map head back) (omega (arith, short, length-maps head front back)) ∙ sym (ap (item k) (map-append head front (a ∷ back))) in
    let others : each more (items ks (map rest (front ++ back))) (rest a) ≡ items ks (map rest (front ++ a ∷ back)) =
    ap (λ (vs : List (List Value)). each more (items ks vs) (rest a)) (map-append rest front back) ∙ items-more ks (rest a) (map rest front) (map rest back) (omega (arith, short, length-maps rest front back)) ∙ sym (ap (items ks) (map-append rest front (a ∷ back))) in
    λ i. firsts i ∷ others i

items-fewer : (ks : List CallKind) (a : List Value) (front back : List (List Value)) → each fewer (items ks (front ++ a ∷ back)) a ≡ items ks (front ++ back)
items-fewer [] a front back = refl
items-fewer (k ∷ ks) a front back =
    let firsts : fewer (item k (map head (front ++ a ∷ back))) (head a) ≡ item k (map head (front ++ back)) =
    ap (λ (vs : List Value). fewer (item k vs) (head a)) (map-append head front (a ∷ back)) ∙ item-fewer k (head a) (map head front) (map head back) ∙ sym (ap (item k) (map-append head front back)) in
    let others : each fewer (items ks (map rest (front ++ a ∷ back))) (rest a) ≡ items ks (map rest (front ++ back)) =
    ap (λ (vs : List (List Value)). each fewer (items ks vs) (rest a)) (map-append rest front (a ∷ back)) ∙ items-fewer ks (rest a) (map rest front) (map rest back) ∙ sym (ap (items ks) (map-append rest front back)) in
    λ i. firsts i ∷ others i

-- one member more
pub tally-more : (ks : List CallKind) (s : Share) (front back : List Share) → length (front ++ back) + 1 < 2 ^ 64 → joined (tally ks (front ++ back)) s.args ≡ tally ks (front ++ s ∷ back)
tally-more ks s front back short =
    let count : up (length (front ++ back)) ≡ length (front ++ s ∷ back) = up_is _ short ∙ omega (arith, length-append front back, length-append front (s ∷ back)) in
    let all : each more (items ks (map (λ (t : Share). t.args) (front ++ back))) s.args ≡ items ks (map (λ (t : Share). t.args) (front ++ s ∷ back)) =
    ap (λ (vs : List (List Value)). each more (items ks vs) s.args) (map-append (λ (t : Share). t.args) front back)
    ∙ items-more ks s.args (map (λ (t : Share). t.args) front) (map (λ (t : Share). t.args) back) (omega (arith, short, length-maps (λ (t : Share). t.args) front back))
    ∙ sym (ap (items ks) (map-append (λ (t : Share). t.args) front (s ∷ back))) in
    λ i. record { members = count i; items = all i }

-- one member fewer
pub tally-fewer : (ks : List CallKind) (s : Share) (front back : List Share) → left (tally ks (front ++ s ∷ back)) s.args ≡ tally ks (front ++ back)
tally-fewer ks s front back =
    let count : length (front ++ s ∷ back) - 1 ≡ length (front ++ back) = omega (arith, length-append front back, length-append front (s ∷ back)) in
    let all : each fewer (items ks (map (λ (t : Share). t.args) (front ++ s ∷ back))) s.args ≡ items ks (map (λ (t : Share). t.args) (front ++ back)) =
    ap (λ (vs : List (List Value)). each fewer (items ks vs) s.args) (map-append (λ (t : Share). t.args) front (s ∷ back))
    ∙ items-fewer ks s.args (map (λ (t : Share). t.args) front) (map (λ (t : Share). t.args) back)
    ∙ sym (ap (items ks) (map-append (λ (t : Share). t.args) front back)) in
    λ i. record { members = count i; items = all i }
