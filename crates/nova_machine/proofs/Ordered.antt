-- The shelves of reachable states rise.
use Rattle.std.proofs.Common.{◌≡◌, ◌⊎◌, inl, inr, ℕ, ◌<◌, ◌==◌, Bool, true, false, ◌&&◌, ◌||◌, List, [], ◌∷◌, Option, Some, None, refl, sym, subst, arith, if◌then◌else◌}
use Rattle.std.specs.Prelude.{nat_le, nat_lt}
use Rattle.std.specs.List.{AllByRecursion, filter}
use Rattle.std.proofs.lemmas.Bool.Decides.{nat_tests}
use Rattle.nova_path.specs.Shelf.{Span, is_in, is_span}
use Rattle.nova_machine.specs.Workflow.{is_based, is_input, output_in}
use Rattle.nova_machine.specs.Versions.{Version}
use Rattle.nova_machine.specs.State.{State, Kept, Capture, start, nothing_kept, kept_at, newest, span_before, with_span}
use Rattle.nova_machine.specs.Due.{capture_of}
use Rattle.nova_machine.specs.Writing.{made_version}
use Rattle.nova_machine.specs.Needed.{hop, needed}
use Rattle.nova_machine.specs.Steps.{Step, Load, Tick, Begin, Drop, Finish, Run, Worked, Compact, Chain, Collect, Show, Blocks, Refused, after, after_all, set_kept, with_hop, with_version, next_span, add_version, loaded_version, add_run, landing, may_begin, may_chain}
use Rattle.nova_machine.specs.ReachableLaws.{IsBefore, InOrder, ShelvesAreInOrder}
use Rattle.nova_machine.proofs.Growth.{at_set}
use Rattle.nova_machine.proofs.Kept.{same_everywhere}
use Rattle.nova_machine.proofs.Collecting.{kept_collected}

both_true : (a b : Bool) → (a && b) ≡ true → (a ≡ true) × (b ≡ true)
both_true true b e = (refl, e)
both_true false b e = absurd cc

-- ---- what the tests say

before_by : (a b c d : ℕ) (p q r : Bool) → nat_lt a c ≡ p → (a == c) ≡ q → nat_lt b d ≡ r → (p || (q && r)) ≡ true → (a < c) ⊎ ((a ≡ c) × (b < d))
before_by a b c d true q r lt same low e = inl (grind (arith, nat_tests, lt))
before_by a b c d false true true lt same low e = inr (grind (arith, nat_tests, same), grind (arith, nat_tests, low))
before_by a b c d false true false lt same low e = absurd cc
before_by a b c d false false r lt same low e = absurd cc

before : (x y : Span) → span_before x y ≡ true → IsBefore x y
before x y e = before_by x.from x.to y.from y.to (nat_lt x.from y.from) (x.from == y.from) (nat_lt x.to y.to) refl refl refl e

behind_by : (a b c d : ℕ) (p q r t u : Bool) → nat_lt a c ≡ p → (a == c) ≡ q → nat_lt b d ≡ r → (c == a) ≡ t → (d == b) ≡ u → (p || (q && r)) ≡ false → (t && u) ≡ false → (c < a) ⊎ ((c ≡ a) × (d < b))
behind_by a b c d true q r t u lt same low one two e f = absurd cc
behind_by a b c d false true true t u lt same low one two e f = absurd cc
behind_by a b c d false true false true true lt same low one two e f = absurd cc
behind_by a b c d false true false true false lt same low one two e f =
    let is : c ≡ a = grind (arith, nat_tests, one) in
    let high : (d < b) ⊎ (d ≡ b) = grind (arith, nat_tests, low) in
    inr (is, elim high as (λ _. d < b) [ inl less ↦ less | inr eq ↦ grind (arith, nat_tests, two, eq) ])
behind_by a b c d false true false false u lt same low one two e f = grind (arith, nat_tests, same, one)
behind_by a b c d false false r t u lt same low one two e f = inl (grind (arith, nat_tests, lt, same))

behind : (x y : Span) → span_before x y ≡ false → is_span x y ≡ false → IsBefore y x
behind x y e f = behind_by x.from x.to y.from y.to (nat_lt x.from y.from) (x.from == y.from) (nat_lt x.to y.to) (y.from == x.from) (y.to == x.to) refl refl refl refl refl e f

onwards : (x y z : Span) → IsBefore x y → IsBefore y z → IsBefore x z
onwards x y z (inl a) (inl b) = inl (omega (arith, a, b))
onwards x y z (inl a) (inr b) = let is = b.0 in inl (omega (arith, a, is))
onwards x y z (inr a) (inl b) = let is = a.0 in inl (omega (arith, is, b))
onwards x y z (inr a) (inr b) = let is = a.0 in let also = b.0 in let low = a.1 in let lower = b.1 in inr (omega (arith, is, also), omega (arith, low, lower))

-- ---- one span more, and fewer

all_onwards : (x y : Span) → IsBefore x y → (zs : List Span) → AllByRecursion (IsBefore y) zs → AllByRecursion (IsBefore x) zs
all_onwards x y first [] all = tt
all_onwards x y first (z ∷ zs) all = (onwards x y z first all.0, all_onwards x y first zs all.1)

by_tests : (P : List Span → Type 0) (x y : Span) (ys : List Span) (a b : Bool) → span_before x y ≡ a → is_span x y ≡ b → (span_before x y ≡ true → P (x ∷ (y ∷ ys))) → P (y ∷ ys)
    → (span_before x y ≡ false → is_span x y ≡ false → P (y ∷ with_span x ys)) → P (if a then x ∷ (y ∷ ys) else (if b then y ∷ ys else y ∷ with_span x ys))
by_tests P x y ys true b e f front here later = front e
by_tests P x y ys false true e f front here later = here
by_tests P x y ys false false e f front here later = later e f

all_with : (y x : Span) → IsBefore y x → (zs : List Span) → AllByRecursion (IsBefore y) zs → AllByRecursion (IsBefore y) (with_span x zs)
all_with y x first [] all = (first, tt)
all_with y x first (z ∷ zs) all = by_tests (AllByRecursion (IsBefore y)) x z zs (span_before x z) (is_span x z) refl refl (λ _. (first, all)) all (λ _ _. (all.0, all_with y x first zs all.1))

in_order_with : (x : Span) (ys : List Span) → InOrder ys → InOrder (with_span x ys)
in_order_with x [] is = (tt, tt)
in_order_with x (y ∷ ys) is = by_tests InOrder x y ys (span_before x y) (is_span x y) refl refl
    (λ e. ((before x y e, all_onwards x y (before x y e) ys is.0), is))
    is
    (λ e f. (all_with y x (behind x y e f) ys is.0, in_order_with x ys is.1))

either_way : (P : List Span → Type 0) (b : Bool) (xs ys : List Span) → P xs → P ys → P (if b then xs else ys)
either_way P true xs ys p q = p
either_way P false xs ys p q = q

all_left : (y : Span) (test : Span → Bool) (zs : List Span) → AllByRecursion (IsBefore y) zs → AllByRecursion (IsBefore y) (filter test zs)
all_left y test [] all = tt
all_left y test (z ∷ zs) all = either_way (AllByRecursion (IsBefore y)) (test z) (z ∷ filter test zs) (filter test zs) (all.0, all_left y test zs all.1) (all_left y test zs all.1)

in_order_left : (test : Span → Bool) (ys : List Span) → InOrder ys → InOrder (filter test ys)
in_order_left test [] is = tt
in_order_left test (y ∷ ys) is = either_way InOrder (test y) (y ∷ filter test ys) (filter test ys) (all_left y test ys is.0, in_order_left test ys is.1) (in_order_left test ys is.1)

-- ---- steps

abbrev AllInOrder : State → Type 0
AllInOrder s = (c : ℕ) → InOrder (kept_at s c).shelf

order_if : (b : Bool) (s t : State) → AllInOrder s → AllInOrder t → AllInOrder (if b then s else t)
order_if true s t f g = f
order_if false s t f g = g

order_set : (s : State) (c : ℕ) (k : Kept) → AllInOrder s → InOrder k.shelf → AllInOrder (set_kept s c k)
order_set s c k is new = at_set (λ n (l : Kept). InOrder l.shelf) s.channels c k nothing_kept is new

order_version : (s : State) (c : ℕ) (v : Version) → AllInOrder s → AllInOrder (add_version s c v)
order_version s c v is = order_set s c (with_version (is_based s.flow c) (kept_at s c) v) is (in_order_with (next_span (is_based s.flow c) (newest s c)) (kept_at s c).shelf (is c))

order_finish : (s : State) (t : ℕ) (o : Option Capture) → AllInOrder s → AllInOrder (elim o as (λ _. State) [ None ↦ s | Some run ↦ add_run s t run ])
order_finish s t None is = is
order_finish s t (Some run) is = order_version s (output_in s.flow t) (made_version s t run) is

order_after : (s : State) (x : Step) → AllInOrder s → AllInOrder (after s x)
order_after s (Load c es) is = order_if (is_input s.flow c) (add_version s c (loaded_version s c es)) s (order_version s c (loaded_version s c es) is) is
order_after s (Tick m) is = order_if (nat_le s.moment m) (record s { moment = m }) s is is
order_after s (Run t) is = order_if (may_begin s t) (add_run s t (capture_of s t)) s (order_version s (output_in s.flow t) (made_version s t (capture_of s t)) is) is
order_after s (Begin t) is = order_if (may_begin s t) _ s is is
order_after s (Finish t) is = order_finish s t (landing s t) is
order_after s (Drop t) is = is
order_after s (Worked k) is = is
order_after s (Compact c) is = order_if (newest s c == 0) s (set_kept s c (with_hop (kept_at s c) 0 (newest s c))) is (order_set s c (with_hop (kept_at s c) 0 (newest s c)) is (in_order_with (hop 0 (newest s c)) (kept_at s c).shelf (is c)))
order_after s (Chain c i j) is = order_if (may_chain s c i j) (set_kept s c (with_hop (kept_at s c) i j)) s (order_set s c (with_hop (kept_at s c) i j) is (in_order_with (hop i j) (kept_at s c).shelf (is c))) is
order_after s Collect is = λ c. subst (λ (k : Kept). InOrder k.shelf) (sym (kept_collected s c)) (in_order_left (is_in (needed s c)) (kept_at s c).shelf (is c))
order_after s (Show c) is = is
order_after s (Blocks c) is = is
order_after s (Refused refusal) is = is

order_all : (s : State) (xs : List Step) → AllInOrder s → AllInOrder (after_all s xs)
order_all s [] is = is
order_all s (x ∷ xs) is = order_all (after s x) xs (order_after s x is)

pub shelves_are_in_order : ShelvesAreInOrder
shelves_are_in_order s at = subst AllInOrder (sym at.is) (order_all (start s.flow) at.steps (λ c. subst (λ (k : Kept). InOrder k.shelf) (sym (same_everywhere s.flow.channels c nothing_kept)) tt))
