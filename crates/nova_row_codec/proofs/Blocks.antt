-- Blocks are told by their bytes, and have one fault.
use Rattle.std.proofs.Common.{◌≡◌, inl, inr, ℕ, zero, suc, ◌+◌, ◌-◌, ◌<◌, ◌≤◌, ◌^◌, Bool, true, false, cond, ltb, List, [], ◌∷◌, ◌++◌, length, take, drop, Result, Ok, Err, refl, sym, ap, subst, ◌∙◌, append_assoc, arith}
use Rattle.std.specs.Prelude.{T, ◌&&◌}
use Rattle.std.specs.List.{AllByRecursion}
use Rattle.std.specs.Int.{w64, from_be_bytes}
use Rattle.std.specs.FinMap.Entries.{below_all}
use Rattle.std.proofs.lemmas.Bool.{le-ltb, lt-ltb}
use Rattle.std.proofs.lemmas.List.{append-nil, length-append, length-drop}
use Rattle.std.proofs.lemmas.List.Concat.{flat_map-cons, flat_map-append}
use Rattle.std.proofs.lemmas.Nat.{from_be_bytes-to_be_bytes_8}
use Rattle.nova_value.specs.declared.value.Value.{Value}
use Rattle.nova_value.specs.declared.schema.Entry.{Entry}
use Rattle.nova_value.specs.Order.{key_cmp}
use Rattle.nova_value.specs.Rows.{Shape}
use Rattle.nova_value.specs.Entries.{FitsEntry, entry_key}
use Rattle.nova_delta.specs.Merge.{DeltaValue, IsDelta}
use Rattle.nova_delta.specs.Listed.{at_keys, rises, delta_of, entries_of}
use Rattle.nova_delta.proofs.Listed.{entries_of-delta_of, entries_fit, rises-entries_of, same_entries_of}
use Rattle.nova_row_codec.specs.declared.fault.CodecFault.{CodecFault}
use Rattle.nova_row_codec.specs.declared.fault.CodecFault.TheVariants.{Short, BadTag, OutOfOrder}
use Rattle.nova_row_codec.specs.Spelling.{eight, entry_bytes, entries_bytes, block_bytes, spelling_of}
use Rattle.nova_row_codec.specs.Faults.{EntryFails, StopsAfter, StopsAt, BlockFails}
use Rattle.nova_row_codec.specs.Faults as fault
use Rattle.nova_row_codec.specs.Written.{Spells, IsBlockOf, ReadTo, StandsAt}
use Rattle.nova_row_codec.specs.Reading.{entry_at}
use Rattle.nova_row_codec.specs.Statements.{SpelledOnce, BlocksReadOneWay}
use Rattle.nova_row_codec.proofs.Loop.{drop_past}
use Rattle.nova_row_codec.proofs.Entries.{entry_field}

-- ---- reading a block, by entries

abbrev Entries : Type 0
Entries = Result (List Entry) (CodecFault × ℕ)

abbrev place_of : List Entry → ℕ
place_of es = 8 + length (entries_bytes es)

-- an entry that was read is kept where its key is above those before it
abbrev kept : (s : Shape) → (List Entry → List ℕ → Entries) → List Entry → Result (Entry × List ℕ) CodecFault → Entries
kept s rest es (Err f) = Err (f, place_of es)
kept s rest es (Ok a) = cond (rises s (es ++ a.0 ∷ [])) (rest (es ++ a.0 ∷ []) a.1) (Err (OutOfOrder, place_of es))

abbrev nothing_left : List Entry → List ℕ → Entries
nothing_left es [] = Ok es
nothing_left es (b ∷ bs) = Err (BadTag, place_of es)

unfoldable entries_at : Shape → ℕ → List Entry → List ℕ → Entries
entries_at s zero es bytes = nothing_left es bytes
entries_at s (suc n) es bytes = kept s (entries_at s n) es (entry_at s bytes)

unfoldable block_at : Shape → List ℕ → Entries
block_at s bytes = cond (ltb (length bytes) 8) (Err (Short, 0)) (entries_at s (from_be_bytes w64 (take 8 bytes)) [] (drop 8 bytes))

-- the number in prefix
block_at_count : (s : Shape) (n : ℕ) (rest : List ℕ) → n < 2 ^ 64 → block_at s (eight n ++ rest) ≡ entries_at s n [] rest
unfolding block_at
block_at_count s n rest lt =
    let long : ltb (length (eight n ++ rest)) 8 ≡ false = le-ltb _ _ (omega (arith, length-append (eight n) rest)) in
    ap (λ (b : Bool). cond b (Err (Short, 0)) (entries_at s (from_be_bytes w64 (eight n)) [] rest)) long
    ∙ ap (λ (k : ℕ). entries_at s k [] rest) (from_be_bytes-to_be_bytes_8 n lt)

-- ---- entries that rise, in prefix of others

first : (a b : Bool) → T (a && b) → T a
first true b p = tt
first false b p = p

second : (a b : Bool) → T (a && b) → T b
second true b p = p
second false b p = absurd p

both : (a b : Bool) → T a → T b → T (a && b)
both true b p q = q
both false b p q = p

pub is_true : (b : Bool) → T b → b ≡ true
is_true true p = refl
is_true false p = absurd p

pub as_true : (b : Bool) → b ≡ true → T b
as_true true e = tt
as_true false e = absurd cc

below_prefix : (s : Shape) (k : List Value) (xs ys : List Entry) → T (below_all key_cmp k (at_keys (entry_key s) (xs ++ ys))) → T (below_all key_cmp k (at_keys (entry_key s) xs))
below_prefix s k [] ys h = tt
below_prefix s k (x ∷ xs) ys h = both _ _ (first _ _ h) (below_prefix s k xs ys (second _ _ h))

rises_prefix : (s : Shape) (xs ys : List Entry) → T (rises s (xs ++ ys)) → T (rises s xs)
rises_prefix s [] ys h = tt
rises_prefix s (x ∷ xs) ys h = both _ _ (below_prefix s (entry_key s x) xs ys (first _ _ h)) (rises_prefix s xs ys (second _ _ h))

entries_bytes-more : (es : List Entry) (e : Entry) → entries_bytes (es ++ e ∷ []) ≡ entries_bytes es ++ entry_bytes e
entries_bytes-more es e = flat_map-append entry_bytes es (e ∷ []) ∙ ap (λ (b : List ℕ). entries_bytes es ++ b) (flat_map-cons entry_bytes e [] ∙ append-nil (entry_bytes e))

entries_bytes-cons : (e : Entry) (es : List Entry) (rest : List ℕ) → entries_bytes (e ∷ es) ++ rest ≡ entry_bytes e ++ (entries_bytes es ++ rest)
entries_bytes-cons e es rest = ap (λ (t : List ℕ). t ++ rest) (flat_map-cons entry_bytes e es) ∙ append_assoc (entry_bytes e) (entries_bytes es) rest

-- ---- reading over entries that fit and rise

over : (s : Shape) (k : ℕ) (es fs : List Entry) (rest : List ℕ) → AllByRecursion (FitsEntry s) fs → T (rises s (es ++ fs)) → entries_at s (length fs + k) es (entries_bytes fs ++ rest) ≡ entries_at s k (es ++ fs) rest
unfolding entries_at
over s k es [] rest fit rise = let n : length {A = Entry} [] + k ≡ k = omega arith in ap (λ (m : ℕ). entries_at s m es rest) n ∙ ap (λ (xs : List Entry). entries_at s k xs rest) (sym (append-nil es))
over s k es (f ∷ fs) rest fit rise =
    let assoc : (es ++ f ∷ []) ++ fs ≡ es ++ f ∷ fs = append_assoc es (f ∷ []) fs in
    let rise_here = subst (λ (xs : List Entry). T (rises s xs)) (sym assoc) rise in
    let here : rises s (es ++ f ∷ []) ≡ true = is_true _ (rises_prefix s (es ++ f ∷ []) fs rise_here) in
    let n : length (f ∷ fs) + k ≡ suc (length fs + k) = omega arith in
    ap (λ (m : ℕ). entries_at s m es (entries_bytes (f ∷ fs) ++ rest)) n
    ∙ ap (λ (b : List ℕ). kept s (entries_at s (length fs + k)) es (entry_at s b)) (entries_bytes-cons f fs rest)
    ∙ ap (kept s (entries_at s (length fs + k)) es) ((entry_field s).again f (entries_bytes fs ++ rest) fit.0)
    ∙ ap (λ b. cond b (entries_at s (length fs + k) (es ++ f ∷ []) (entries_bytes fs ++ rest)) (Err (OutOfOrder, place_of es))) here
    ∙ over s k (es ++ f ∷ []) fs rest fit.1 rise_here
    ∙ ap (λ (xs : List Entry). entries_at s k xs rest) assoc

-- what a block that is spelled reads as
block_of_entries : (s : Shape) (es : List Entry) → length es < 2 ^ 64 → AllByRecursion (FitsEntry s) es → T (rises s es) → block_at s (block_bytes es) ≡ Ok es
unfolding entries_at
block_of_entries s es short fit rise =
    block_at_count s (length es) (entries_bytes es) short
    ∙ ap (λ (b : List ℕ). entries_at s (length es) [] b) (sym (append-nil (entries_bytes es)))
    ∙ ap (λ (n : ℕ). entries_at s n [] (entries_bytes es ++ [])) (let n : length es ≡ length es + 0 = omega arith in n)
    ∙ over s 0 [] es [] fit rise

stopped : (s : Shape) (k : ℕ) (es : List Entry) (rest : List ℕ) (f : CodecFault) (count : ℕ) → count ≡ length es + k → StopsAfter s count es rest f → entries_at s k es rest ≡ Err (f, place_of es)
unfolding entries_at
stopped s zero es rest f count n (fault.fails lt bad) = absurd (omega (arith, n, lt))
stopped s (suc k) es rest f count n (fault.fails lt bad) = ap (kept s (entries_at s k) es) ((entry_field s).refuses rest f bad)
stopped s zero es _ _ count n (fault.falls e bytes lt fits isnt) = absurd (omega (arith, n, lt))
stopped s (suc k) es _ _ count n (fault.falls e bytes lt fits isnt) =
    ap (kept s (entries_at s k) es) ((entry_field s).again e bytes fits)
    ∙ ap (λ b. cond b (entries_at s k (es ++ e ∷ []) bytes) (Err (OutOfOrder, place_of es))) (not_true (rises s (es ++ e ∷ [])) isnt)
  where
    not_true : (b : Bool) → (T b → ⊥) → b ≡ false
    not_true true h = absurd (h tt)
    not_true false h = refl
stopped s zero es _ _ count n (fault.left whole) = refl
stopped s (suc k) es _ _ count n (fault.left whole) = absurd (omega (arith, n, whole))

cut_off : (s : Shape) (bytes : List ℕ) → length bytes < 8 → block_at s bytes ≡ Err (Short, 0)
unfolding block_at
cut_off s bytes short = ap (λ b. cond b (Err (Short, 0)) (entries_at s (from_be_bytes w64 (take 8 bytes)) [] (drop 8 bytes))) (lt-ltb _ _ short)

few : (s : Shape) (count : ℕ) (es : List Entry) (rest : List ℕ) (f : CodecFault) → StopsAfter s count es rest f → length es ≤ count
few s count es rest f (fault.fails lt bad) = omega (arith, lt)
few s count es _ _ (fault.falls e bytes lt fits isnt) = omega (arith, lt)
few s count es _ _ (fault.left whole) = omega (arith, whole)

-- what a block with a fault reads as
block_stops : (s : Shape) (bytes : List ℕ) (f : CodecFault) (at : ℕ) → BlockFails s bytes f at → block_at s bytes ≡ Err (f, at)
block_stops s bytes f at (inl (short, (is, place))) = cut_off s bytes short ∙ ap (λ (g : CodecFault). Err (g, 0)) (sym is) ∙ ap (λ (n : ℕ). Err (f, n)) (sym place)
block_stops s bytes f at (inr stops) =
    let es = stops.entries in
    let within : length es ≤ stops.count = few s stops.count es stops.rest f stops.stops in
    let n : stops.count ≡ length es + (stops.count - length es) = omega (arith, within) in
    ap (block_at s) stops.is ∙ block_at_count s stops.count (entries_bytes es ++ stops.rest) stops.counted
    ∙ ap (λ (m : ℕ). entries_at s m [] (entries_bytes es ++ stops.rest)) n
    ∙ over s (stops.count - length es) [] es stops.rest stops.fit stops.rise
    ∙ stopped s (stops.count - length es) es stops.rest f stops.count n stops.stops
    ∙ ap (λ (m : ℕ). Err (f, m)) (sym stops.place)

block_spelled : (s : Shape) (bytes : List ℕ) (d : DeltaValue) → Spells s bytes d → block_at s bytes ≡ Ok (entries_of d)
block_spelled s bytes d spells =
    ap (block_at s) spells.is
    ∙ ap (λ (z : Shape). block_at z (spelling_of d)) (sym spells.schema)
    ∙ block_of_entries d.schema (entries_of d) spells.counted (entries_fit d spells.delta) (rises-entries_of d spells.delta)

ok_is : {A : Type 0} (x y : A) → ◌≡◌ {A = Result A (CodecFault × ℕ)} (Ok x) (Ok y) → x ≡ y
ok_is x y e = cc

err_is : {A : Type 0} (x y : CodecFault × ℕ) → ◌≡◌ {A = Result A (CodecFault × ℕ)} (Err x) (Err y) → x ≡ y
err_is x y e = cc

ok_no_err : {A : Type 0} (x : A) (f : CodecFault × ℕ) → ◌≡◌ {A = Result A (CodecFault × ℕ)} (Ok x) (Err f) → ⊥
ok_no_err x f e = cc

pub spelled_once : SpelledOnce
spelled_once s bytes c d one other = same_entries_of c d one.delta other.delta (one.schema ∙ sym other.schema) (ok_is (entries_of c) (entries_of d) (sym (block_spelled s bytes c one) ∙ block_spelled s bytes d other))

pub blocks_read_one_way : BlocksReadOneWay
blocks_read_one_way s bytes (Ok c) (Ok d) one other = ap (λ (x : DeltaValue). Ok x) (spelled_once s bytes c d one other)
blocks_read_one_way s bytes (Ok c) (Err f) one other = absurd (ok_no_err (entries_of c) f (sym (block_spelled s bytes c one) ∙ block_stops s bytes f.0 f.1 other))
blocks_read_one_way s bytes (Err f) (Ok d) one other = absurd (ok_no_err (entries_of d) f (sym (block_spelled s bytes d other) ∙ block_stops s bytes f.0 f.1 one))
blocks_read_one_way s bytes (Err f) (Err g) one other = ap (λ (x : CodecFault × ℕ). Err x) (err_is {A = List Entry} f g (sym (block_stops s bytes f.0 f.1 one) ∙ block_stops s bytes g.0 g.1 other))

-- ---- the loop

-- one entry more
pub read_more : (s : Shape) (bytes : List ℕ) (count at after : ℕ) (es : List Entry) (e : Entry) → ReadTo s bytes count at es → StandsAt s bytes at (e, after) → rises s (es ++ e ∷ []) ≡ true → ReadTo s bytes count after (es ++ e ∷ [])
read_more s bytes count at after es e read stands rise = record {
  fit = all_more es read.fit;
  rise = as_true _ rise;
  is = read.is ∙ ap (λ (b : List ℕ). eight count ++ (entries_bytes es ++ b)) stands.is
      ∙ ap (λ (b : List ℕ). eight count ++ b) (sym (append_assoc (entries_bytes es) (entry_bytes e) (drop after bytes)) ∙ ap (λ (b : List ℕ). b ++ drop after bytes) (sym (entries_bytes-more es e)));
  place = let n = ap (λ (b : List ℕ). length b) (entries_bytes-more es e) in omega (arith, stands.after, read.place, n, length-append (entries_bytes es) (entry_bytes e));
}
  where
    all_more : (es : List Entry) → AllByRecursion (FitsEntry s) es → AllByRecursion (FitsEntry s) (es ++ e ∷ [])
    all_more [] h = (stands.fits, tt)
    all_more (f ∷ es) h = (h.0, all_more es h.1)

-- a fault after the entries that were read
pub stops_at : (s : Shape) (bytes : List ℕ) (count at : ℕ) (es : List Entry) (f : CodecFault) → count < 2 ^ 64 → ReadTo s bytes count at es → StopsAfter s count es (drop at bytes) f → StopsAt s bytes f at
stops_at s bytes count at es f counted read stops = record { count = count; counted = counted; entries = es; fit = read.fit; rise = read.rise; rest = drop at bytes; is = read.is; place = read.place; stops = stops }

-- all of them, with nothing after
pub whole_block : (s : Shape) (bytes : List ℕ) (count at : ℕ) (es : List Entry) → count < 2 ^ 64 → ReadTo s bytes count at es → length bytes ≤ at → length es ≡ count → IsBlockOf s bytes es
whole_block s bytes count at es counted read ends number = record {
  fit = read.fit;
  rise = read.rise;
  counted = omega (arith, number, counted);
  is = read.is
      ∙ ap (λ (b : List ℕ). eight count ++ (entries_bytes es ++ b)) (drop_past at bytes ends) ∙ ap (λ (b : List ℕ). eight count ++ b) (append-nil (entries_bytes es))
      ∙ ap (λ (n : ℕ). eight n ++ entries_bytes es) (sym number);
}

-- the delta of the entries of a block
pub spells : (s : Shape) (bytes : List ℕ) (es : List Entry) (d : DeltaValue) → IsBlockOf s bytes es → d ≡ delta_of s es → IsDelta d → Spells s bytes d
spells s bytes es d block is delta =
    let listed : entries_of d ≡ es = ap entries_of is ∙ entries_of-delta_of s es block.rise in
    record {
      schema = ap (λ (x : DeltaValue). x.schema) is;
      delta = delta;
      counted = subst (λ (xs : List Entry). length xs < 2 ^ 64) (sym listed) block.counted;
      is = block.is ∙ ap block_bytes (sym listed);
    }

-- bytes after a whole block
pub left_after : (s : Shape) (bytes : List ℕ) (count at : ℕ) (es : List Entry) → at < length bytes → length es ≡ count → StopsAfter s count es (drop at bytes) BadTag
left_after s bytes count at es within number = by_rest (drop at bytes) (length-drop at bytes)
  where
    by_rest : (rest : List ℕ) → length rest ≡ length bytes - at → StopsAfter s count es rest BadTag
    by_rest [] n = absurd (omega (arith, n, within))
    by_rest (b ∷ bs) n = fault.left number
