-- Nodes marked as read.
use Rattle.std.proofs.Common.{◌≡◌, ◌⊎◌, ℕ, zero, suc, ◌<◌, ◌≤◌, nat_lt, ◌==◌, Bool, true, false, ◌&&◌, ◌||◌, if◌then◌else◌, List, [], ◌∷◌, length, slice_set, slice_get, get_or, replicate, Option, Some, None, refl, ap, sym, ◌∙◌, subst, inl, inr, arith}
use Rattle.std.proofs.lemmas.Bool.Decides.{nat_tests}
use Rattle.nova_pig_algebra.specs.declared.node.Node.{Node}
use Rattle.nova_pig_algebra.specs.Keys.{is_one_of}
use Rattle.nova_pig_algebra.specs.Readers.{last_at, read, read_at, ClosedFrom, marked, all_marked, answer_reads}

pub itself : (k : ℕ) (ks : List ℕ) → is_one_of k (k ∷ ks) ≡ true
itself k ks = let e : (k == k) ≡ true = grind (arith, nat_tests) in ap (λ b. b || is_one_of k ks) e

pub behind : (k j : ℕ) (ks : List ℕ) → is_one_of k ks ≡ true → is_one_of k (j ∷ ks) ≡ true
behind k j ks e = go (k == j)
  where
    go : (b : Bool) → (b || is_one_of k ks) ≡ true
    go true = refl
    go false = e

set_length : (xs : List ℕ) (k v : ℕ) → length (slice_set xs k v) ≡ length xs
set_length [] k v = refl
set_length (x ∷ xs) zero v = refl
set_length (x ∷ xs) (suc k) v = ap suc (set_length xs k v)

set_here : (xs : List ℕ) (k v : ℕ) → k < length xs → last_at (slice_set xs k v) k ≡ v
set_here [] k v h = absurd (omega arith)
set_here (x ∷ xs) zero v h = refl
set_here (x ∷ xs) (suc k) v h = set_here xs k v (omega arith)

set_other : (xs : List ℕ) (k v j : ℕ) → (j ≡ k → ⊥) → last_at (slice_set xs k v) j ≡ last_at xs j
set_other [] k v j h = refl
set_other (x ∷ xs) zero v zero h = absurd (h refl)
set_other (x ∷ xs) zero v (suc j) h = refl
set_other (x ∷ xs) (suc k) v zero h = refl
set_other (x ∷ xs) (suc k) v (suc j) h = set_other xs k v j (λ e. h (ap suc e))

-- what marking these nodes changes
pub record Marks (reader : ℕ) (ks old new : List ℕ) : Type 0 where
  pub long : length new ≡ length old
  pub high : (j : ℕ) → reader ≤ j → last_at new j ≡ last_at old j
  pub kept : (j : ℕ) → 0 < last_at old j → last_at new j ≡ last_at old j
  pub fresh : (j : ℕ) → 0 < last_at new j → (0 < last_at old j) ⊎ (last_at new j ≡ suc reader)
  pub all : (k : ℕ) → is_one_of k ks ≡ true → k < reader → 0 < last_at new k

only_one : (k j : ℕ) → is_one_of k (j ∷ []) ≡ true → k ≡ j
only_one k j e = grind (arith, nat_tests, e)

either_one : (k j : ℕ) (ks : List ℕ) → is_one_of k (j ∷ ks) ≡ true → (k ≡ j) ⊎ (is_one_of k ks ≡ true)
either_one k j ks e = go (k == j) refl e
  where
    go : (b : Bool) → (k == j) ≡ b → (b || is_one_of k ks) ≡ true → (k ≡ j) ⊎ (is_one_of k ks ≡ true)
    go true is f = inl (grind (arith, nat_tests, is))
    go false is f = inr f

same : (j k : ℕ) → (j ≡ k) ⊎ (j ≡ k → ⊥)
same zero zero = inl refl
same zero (suc k) = inr (λ e. omega (arith, e))
same (suc j) zero = inr (λ e. omega (arith, e))
same (suc j) (suc k) = go (same j k)
  where
    go : (j ≡ k) ⊎ (j ≡ k → ⊥) → (suc j ≡ suc k) ⊎ (suc j ≡ suc k → ⊥)
    go (inl e) = inl (ap suc e)
    go (inr n) = inr (λ e. n (omega (arith, e)))

one_marked : (reader : ℕ) (last : List ℕ) (k : ℕ) → reader < length last → Marks reader (k ∷ []) last (marked reader last k)
one_marked reader last k h = go (nat_lt k reader) (last_at last k == 0) refl refl
  where
    go : (b c : Bool) → nat_lt k reader ≡ b → (last_at last k == 0) ≡ c → Marks reader (k ∷ []) last (if b && c then slice_set last k (suc reader) else last)
    go true true lt none =
        let below : k < reader = grind (arith, nat_tests, lt) in
        let zero_is : last_at last k ≡ 0 = grind (arith, nat_tests, none) in
        record {
          long = set_length last k (suc reader);
          high = λ j le. set_other last k (suc reader) j (λ e. omega (arith, e, le, below));
          kept = λ j pos. set_other last k (suc reader) j (λ e. omega (arith, ap (last_at last) e, pos, zero_is));
          fresh = λ j pos. either j pos (same j k);
          all = λ j e lt2. let is = only_one j k e in let here = set_here last k (suc reader) (omega (arith, below, h)) in
              subst (λ (n : ℕ). 0 < last_at (slice_set last k (suc reader)) n) (sym is) (omega (arith, here));
        }
      where
        either : (j : ℕ) → 0 < last_at (slice_set last k (suc reader)) j → (j ≡ k) ⊎ (j ≡ k → ⊥) → (0 < last_at last j) ⊎ (last_at (slice_set last k (suc reader)) j ≡ suc reader)
        either j pos (inl e) = let below : k < reader = grind (arith, nat_tests, lt) in inr (ap (last_at (slice_set last k (suc reader))) e ∙ set_here last k (suc reader) (omega (arith, below, h)))
        either j pos (inr n) = inl (let o = set_other last k (suc reader) j n in omega (arith, o, pos))
    go true false lt some = record {
      long = refl;
      high = λ j le. refl;
      kept = λ j pos. refl;
      fresh = λ j pos. inl pos;
      all = λ j e lt2. let is = only_one j k e in subst (λ (n : ℕ). 0 < last_at last n) (sym is) (grind (arith, nat_tests, some));
    }
    go false c far some = record {
      long = refl;
      high = λ j le. refl;
      kept = λ j pos. refl;
      fresh = λ j pos. inl pos;
      all = λ j e lt2. let is = only_one j k e in let past : reader ≤ k = grind (arith, nat_tests, far) in absurd (omega (arith, is, lt2, past));
    }

next_marked : (reader k : ℕ) (ks a b c : List ℕ) → Marks reader (k ∷ []) a b → Marks reader ks b c → Marks reader (k ∷ ks) a c
next_marked reader k ks a b c f g = record {
  long = g.long ∙ f.long;
  high = λ j le. g.high j le ∙ f.high j le;
  kept = λ j pos. let e = f.kept j pos in g.kept j (omega (arith, e, pos)) ∙ e;
  fresh = λ j pos. go j pos (g.fresh j pos);
  all = λ j e lt. each j lt (either_one j k ks e);
}
  where
    go : (j : ℕ) → 0 < last_at c j → (0 < last_at b j) ⊎ (last_at c j ≡ suc reader) → (0 < last_at a j) ⊎ (last_at c j ≡ suc reader)
    go j pos (inr e) = inr e
    go j pos (inl q) = again j q (f.fresh j q)
      where
        again : (i : ℕ) → 0 < last_at b i → (0 < last_at a i) ⊎ (last_at b i ≡ suc reader) → (0 < last_at a i) ⊎ (last_at c i ≡ suc reader)
        again i r (inl s) = inl s
        again i r (inr e) = inr (g.kept i r ∙ e)

    alone : (j : ℕ) → j ≡ k → is_one_of j (k ∷ []) ≡ true
    alone j e = grind (arith, nat_tests, e)

    each : (j : ℕ) → j < reader → (j ≡ k) ⊎ (is_one_of j ks ≡ true) → 0 < last_at c j
    each j lt (inr m) = g.all j m lt
    each j lt (inl e) = let p = f.all j (alone j e) lt in let q = g.kept j p in omega (arith, p, q)

pub marks : (reader : ℕ) (last ks : List ℕ) → reader < length last → Marks reader ks last (all_marked reader last ks)
marks reader last [] h = record { long = refl; high = λ j le. refl; kept = λ j pos. refl; fresh = λ j pos. inl pos; all = λ k e lt. absurd cc }
marks reader last (k ∷ ks) h =
    let one = one_marked reader last k h in
    next_marked reader k ks last (marked reader last k) (all_marked reader (marked reader last k) ks) one (marks reader (marked reader last k) ks (let l = one.long in omega (arith, l, h)))

-- ---- from the last node to the first
pub record Closing (nodes : List Node) (stored at : ℕ) (last : List ℕ) : Type 0 where
  pub long : length last ≡ length nodes
  pub within : at ≤ length nodes
  pub answers : stored < length nodes → length nodes < last_at last stored
  pub above : (k : ℕ) → 0 < last_at last k → at < last_at last k
  pub closed : ClosedFrom nodes at last

past_end : (nodes : List Node) (i : ℕ) → length nodes ≤ i → slice_get nodes i ≡ None
past_end [] i h = refl
past_end (n ∷ nodes) zero h = absurd (omega arith)
past_end (n ∷ nodes) (suc i) h = past_end nodes i (omega arith)

pub closed_end : (nodes : List Node) (last : List ℕ) → ClosedFrom nodes (length nodes) last
closed_end nodes last i k le pos read-is lt = absurd (no (slice_get nodes i) (past_end nodes i le) read-is)
  where
    no : (o : Option Node) → o ≡ None → is_one_of k (read_at nodes o) ≡ true → ⊥
    no None e f = absurd cc
    no (Some n) e f = absurd cc

later : (i at : ℕ) → at ≤ i → (i ≡ at → ⊥) → suc at ≤ i
later i zero le n = positive i n
  where
    positive : (i : ℕ) → (i ≡ 0 → ⊥) → 1 ≤ i
    positive zero m = absurd (m refl)
    positive (suc i) m = omega arith
later zero (suc at) le n = absurd (omega (arith, le))
later (suc i) (suc at) le n = let r = later i at (omega (arith, le)) (λ e. n (ap suc e)) in omega (arith, r)

pub skip : (nodes : List Node) (stored at : ℕ) (last : List ℕ) → Closing nodes stored (suc at) last → last_at last at ≡ 0 → Closing nodes stored at last
skip nodes stored at last c none = record {
  long = c.long;
  within = let w = c.within in omega (arith, w);
  answers = c.answers;
  above = λ k pos. let a = c.above k pos in omega (arith, a);
  closed = λ i k le pos is lt. go i k le pos is lt (same i at);
}
  where
    go : (i k : ℕ) → at ≤ i → 0 < last_at last i → is_one_of k (read_at nodes (slice_get nodes i)) ≡ true → k < i → (i ≡ at) ⊎ (i ≡ at → ⊥) → i < last_at last k
    go i k le pos is lt (inl e) = let z = ap (last_at last) e in absurd (omega (arith, z, none, pos))
    go i k le pos is lt (inr n) = c.closed i k (later i at le n) pos is lt

-- a node that is read marks what it reads
pub close : (nodes : List Node) (stored at : ℕ) (last new : List ℕ) (n : Node) → Closing nodes stored (suc at) last → slice_get nodes at ≡ Some n → Marks at (read nodes n) last new → Closing nodes stored at new
close nodes stored at last new n c node-is m = record {
  long = m.long ∙ c.long;
  within = let w = c.within in omega (arith, w);
  answers = λ h. let s = c.answers h in let e = m.kept stored (omega (arith, s)) in omega (arith, s, e);
  above = λ k pos. up k pos (m.fresh k pos);
  closed = λ i k le pos is lt. go i k le pos is lt (same i at);
}
  where
    up : (k : ℕ) → 0 < last_at new k → (0 < last_at last k) ⊎ (last_at new k ≡ suc at) → at < last_at new k
    up k pos (inl q) = let a = c.above k q in let e = m.kept k q in omega (arith, a, e)
    up k pos (inr e) = omega (arith, e)

    go : (i k : ℕ) → at ≤ i → 0 < last_at new i → is_one_of k (read_at nodes (slice_get nodes i)) ≡ true → k < i → (i ≡ at) ⊎ (i ≡ at → ⊥) → i < last_at new k
    go i k le pos is lt (inl e) =
        let here : is_one_of k (read nodes n) ≡ true = ap (λ (o : Option Node). is_one_of k (read_at nodes o)) (sym (ap (slice_get nodes) e ∙ node-is)) ∙ is in
        let p = m.all k here (omega (arith, lt, e)) in
        let u = up k p (m.fresh k p) in
        omega (arith, u, e)
    go i k le pos is lt (inr d) =
        let high = m.high i le in
        let a = c.closed i k (later i at le d) (omega (arith, high, pos)) is lt in
        let e = m.kept k (omega (arith, a)) in
        omega (arith, a, e)

pub get_some : (nodes : List Node) (p : ℕ) (n : Node) → p < length nodes → n ≡ get_or nodes p n → slice_get nodes p ≡ Some n
get_some [] p n h e = absurd (omega (arith, h))
get_some (m ∷ nodes) zero n h e = ap Some (sym e)
get_some (m ∷ nodes) (suc p) n h e = get_some nodes p n (omega (arith, h)) e

-- one node before, where it is read
pub close_one : (nodes : List Node) (stored at p : ℕ) (last new : List ℕ) (n : Node) → suc p ≡ at → Closing nodes stored at last → n ≡ get_or nodes p n → new ≡ all_marked p last (read nodes n) → Closing nodes stored p new
close_one nodes stored at p last new n e c is new-is =
    let w = c.within in
    let l = c.long in
    let before : Closing nodes stored (suc p) last = subst (λ (k : ℕ). Closing nodes stored k last) (sym e) c in
    subst (λ (ls : List ℕ). Closing nodes stored p ls) (sym new-is) (close nodes stored p last (all_marked p last (read nodes n)) n before (get_some nodes p n (omega (arith, w, e)) is) (marks p last (read nodes n) (omega (arith, w, l, e))))

-- and where it isn't
pub skip_one : (nodes : List Node) (stored at p : ℕ) (last : List ℕ) → suc p ≡ at → Closing nodes stored at last → last_at last p ≡ 0 → Closing nodes stored p last
skip_one nodes stored at p last e c none = skip nodes stored p last (subst (λ (k : ℕ). Closing nodes stored k last) (sym e) c) none

abbrev zeros : ℕ → List ℕ
zeros n = replicate n 0

zeros_long : (n : ℕ) → length (zeros n) ≡ n
zeros_long zero = refl
zeros_long (suc n) = ap suc (zeros_long n)

zeros_at : (n k : ℕ) → last_at (zeros n) k ≡ 0
zeros_at zero k = refl
zeros_at (suc n) zero = refl
zeros_at (suc n) (suc k) = zeros_at n k

-- at the end the answer alone reads
pub first_closing : (nodes : List Node) (stored : ℕ) (last : List ℕ) → last ≡ answer_reads (length nodes) stored → Closing nodes stored (length nodes) last
first_closing nodes stored last e = subst (λ (ls : List ℕ). Closing nodes stored (length nodes) ls) (sym e) (go (nat_lt stored (length nodes)) refl)
  where
    go : (b : Bool) → nat_lt stored (length nodes) ≡ b → Closing nodes stored (length nodes) (if b then slice_set (zeros (length nodes)) stored (suc (length nodes)) else zeros (length nodes))
    go true is =
        let lt : stored < length nodes = grind (arith, nat_tests, is) in
        let long = zeros_long (length nodes) in
        let here = set_here (zeros (length nodes)) stored (suc (length nodes)) (omega (arith, lt, long)) in
        record {
          long = set_length (zeros (length nodes)) stored (suc (length nodes)) ∙ long;
          within = omega arith;
          answers = λ h. omega (arith, here);
          above = λ k pos. up k pos (same k stored) here;
          closed = closed_end nodes (slice_set (zeros (length nodes)) stored (suc (length nodes)));
        }
      where
        up : (k : ℕ) → 0 < last_at (slice_set (zeros (length nodes)) stored (suc (length nodes))) k → (k ≡ stored) ⊎ (k ≡ stored → ⊥) → last_at (slice_set (zeros (length nodes)) stored (suc (length nodes))) stored ≡ suc (length nodes)
            → length nodes < last_at (slice_set (zeros (length nodes)) stored (suc (length nodes))) k
        up k pos (inl f) h = let m = ap (last_at (slice_set (zeros (length nodes)) stored (suc (length nodes)))) f in omega (arith, m, h)
        up k pos (inr d) h = let o = set_other (zeros (length nodes)) stored (suc (length nodes)) k d in let z = zeros_at (length nodes) k in absurd (omega (arith, o, z, pos))
    go false is = record {
      long = zeros_long (length nodes);
      within = omega arith;
      answers = λ h. absurd (let past : length nodes ≤ stored = grind (arith, nat_tests, is) in omega (arith, past, h));
      above = λ k pos. let z = zeros_at (length nodes) k in absurd (omega (arith, z, pos));
      closed = closed_end nodes (zeros (length nodes));
    }
