-- A file is read in one way.
use Rattle.std.proofs.Common.{◌≡◌, ◌≢◌, ◌⊎◌, inl, inr, ⊎_elim, ℕ, ◌+◌, ◌<◌, ◌^◌, List, [], ◌∷◌, ◌++◌, length, take, drop, All, refl, sym, ◌∙◌, ap, subst, arith, append_assoc, length-append}
use Rattle.std.specs.Int.{w64, from_be_bytes}
use Rattle.std.proofs.lemmas.Nat.{from_be_bytes-to_be_bytes_8}
use Rattle.std.proofs.lemmas.List.{take_at, drop_at}
use Rattle.std.proofs.lemmas.List.Elements.{All-head, All-tail}
use Rattle.nova_journal.specs.Log.{length_bytes, entry, frame, records, Log, DamagedAt, ReadTo, IsShort, IsBroken, IsShut, IsCutShort}
use Rattle.nova_journal.proofs.Decoding.{length-length_bytes}

-- the bytes of a length tell it
length_back : (n : ℕ) → n < 2 ^ 64 → from_be_bytes w64 (length_bytes n) ≡ n
unfolding length_bytes
length_back n fits = from_be_bytes-to_be_bytes_8 n fits

-- an entry tells its payload, and where it ends
entry_once : (p q a b : List ℕ) → IsShort p → IsShort q → entry p ++ a ≡ entry q ++ b → (p ≡ q) × (a ≡ b)
entry_once p q a b sp sq is =
    let lp = length_bytes (length p) in let lq = length_bytes (length q) in
    let whole : lp ++ (p ++ a) ≡ lq ++ (q ++ b) = sym (append_assoc lp p a) ∙ is ∙ append_assoc lq q b in
    let heads : lp ≡ lq = sym (take_at lp (p ++ a) 8 (length-length_bytes (length p))) ∙ ap (λ (l : List ℕ). take 8 l) whole ∙ take_at lq (q ++ b) 8 (length-length_bytes (length q)) in
    let rests : p ++ a ≡ q ++ b = sym (drop_at lp (p ++ a) 8 (length-length_bytes (length p))) ∙ ap (λ (l : List ℕ). drop 8 l) whole ∙ drop_at lq (q ++ b) 8 (length-length_bytes (length q)) in
    let long : length q ≡ length p = sym (sym (length_back (length p) sp) ∙ ap (from_be_bytes w64) heads ∙ length_back (length q) sq) in
    (sym (take_at p a (length p) refl) ∙ ap (λ (l : List ℕ). take (length p) l) rests ∙ take_at q b (length p) long, sym (drop_at p a (length p) refl) ∙ ap (λ (l : List ℕ). drop (length p) l) rests ∙ drop_at q b (length p) long)

-- what is no whole record behind an open gate
abbrev Stops : List ℕ → Type 0
Stops [] = ⊥
Stops (gate ∷ rest) = ((gate ≡ 1) × IsCutShort rest) ⊎ (gate ≢ 1)

stops_some : (t : List ℕ) → Stops t → 0 < length t
stops_some [] s = absurd s
stops_some (gate ∷ rest) s = omega arith

-- a whole record with more behind it doesn't stop
goes_on : (p a t : List ℕ) → IsShort p → 0 < length a → t ≡ 1 ∷ (entry p ++ a) → Stops t → ⊥
goes_on p a [] short some is s = s
goes_on p a (gate ∷ rest) short some is (inr shut) = shut (cc is)
goes_on p a (gate ∷ rest) short some is (inl cut) =
    let lp = length_bytes (length p) in
    let rest_is : rest ≡ entry p ++ a = cc is in
    let long : length rest ≡ 8 + length p + length a = omega (arith, ap length rest_is, length-append (entry p) a, length-append lp p, length-length_bytes (length p)) in
    let head : take 8 rest ≡ lp = ap (λ (l : List ℕ). take 8 l) (rest_is ∙ append_assoc lp p a) ∙ take_at lp (p ++ a) 8 (length-length_bytes (length p)) in
    let told : from_be_bytes w64 (take 8 rest) ≡ length p = ap (from_be_bytes w64) head ∙ length_back (length p) short in
    ⊎_elim (λ few. absurd (omega (arith, few, long))) (λ few. absurd (omega (arith, few, long, told, some))) cut.1

more_than : (ps : List (List ℕ)) (t : List ℕ) → 0 < length t → 0 < length (records ps ++ t)
more_than ps t some = omega (arith, some, length-append (records ps) t)

unfolded : (p : List ℕ) (ps : List (List ℕ)) (t : List ℕ) → records (p ∷ ps) ++ t ≡ 1 ∷ (entry p ++ (records ps ++ t))
unfolded p ps t = append_assoc (1 ∷ entry p) (records ps) t

once : (ps qs : List (List ℕ)) (t u : List ℕ) → All IsShort ps → All IsShort qs → Stops t → Stops u → records ps ++ t ≡ records qs ++ u → (ps ≡ qs) × (t ≡ u)
once [] [] t u sp sq st su is = (refl, is)
once [] (q ∷ qs) t u sp sq st su is = absurd (goes_on q (records qs ++ u) t (All-head IsShort q qs sq) (more_than qs u (stops_some u su)) (is ∙ unfolded q qs u) st)
once (p ∷ ps) [] t u sp sq st su is = absurd (goes_on p (records ps ++ t) u (All-head IsShort p ps sp) (more_than ps t (stops_some t st)) (sym is ∙ unfolded p ps t) su)
once (p ∷ ps) (q ∷ qs) t u sp sq st su is =
    let tails : entry p ++ (records ps ++ t) ≡ entry q ++ (records qs ++ u) = ap (λ (l : List ℕ). drop 1 l) (sym (unfolded p ps t) ∙ is ∙ unfolded q qs u) in
    let e = entry_once p q (records ps ++ t) (records qs ++ u) (All-head IsShort p ps sp) (All-head IsShort q qs sq) tails in
    let r = once ps qs t u (All-tail IsShort p ps sp) (All-tail IsShort q qs sq) st su e.1 in
    (λ i. e.0 i ∷ r.0 i, r.1)

-- where a reading of a file ends: at what stops, or at once where there is no byte
abbrev Ends : List (List ℕ) → List ℕ → Type 0
Ends ps t = Stops t ⊎ ((ps ≡ []) × (t ≡ []))

no_bytes : (ps qs : List (List ℕ)) (t u : List ℕ) → (ps ≡ []) × (t ≡ []) → Stops u → records ps ++ t ≡ records qs ++ u → ⊥
no_bytes ps qs t u none su is =
    let empty : records ps ++ t ≡ [] = λ i. records (none.0 i) ++ none.1 i in
    omega (arith, ap length (sym empty ∙ is), more_than qs u (stops_some u su))

one_reading : (ps qs : List (List ℕ)) (t u : List ℕ) → All IsShort ps → All IsShort qs → Ends ps t → Ends qs u → records ps ++ t ≡ records qs ++ u → (ps ≡ qs) × (t ≡ u)
one_reading ps qs t u sp sq (inl st) (inl su) is = once ps qs t u sp sq st su is
one_reading ps qs t u sp sq (inr none) (inl su) is = absurd (no_bytes ps qs t u none su is)
one_reading ps qs t u sp sq (inl st) (inr none) is = absurd (no_bytes qs ps u t none st (sym is))
one_reading ps qs t u sp sq (inr none) (inr both) is = (none.0 ∙ sym both.0, none.1 ∙ sym both.1)

ends_broken : (ps : List (List ℕ)) (t : List ℕ) → IsBroken t ⊎ ((ps ≡ []) × IsShut t) → Ends ps t
ends_broken ps [] (inl b) = absurd b
ends_broken ps [] (inr none) = inr (none.0, refl)
ends_broken ps (gate ∷ rest) (inl b) = inl (inl b)
ends_broken ps (gate ∷ rest) (inr none) = inl (inr none.1)

pub one_log : (file : List ℕ) (ps qs : List (List ℕ)) → Log ps file → Log qs file → ps ≡ qs
one_log file ps qs a b = (one_reading ps qs (a.gate ∷ a.rest) (b.gate ∷ b.rest) a.short b.short (inl (inr a.closed)) (inl (inr b.closed)) (sym a.is ∙ b.is)).0

pub one_place : (file : List ℕ) (at other : ℕ) → DamagedAt at file → DamagedAt other file → at ≡ other
one_place file at other a b =
    let same = one_reading a.payloads b.payloads a.tail b.tail a.short b.short (ends_broken a.payloads a.tail a.broken) (ends_broken b.payloads b.tail b.broken) (sym a.is ∙ b.is) in
    sym a.place ∙ ap (λ (l : List (List ℕ)). length (records l)) same.0 ∙ b.place

pub whole_or_damaged : (file : List ℕ) (end at : ℕ) (ps : List (List ℕ)) → ReadTo end ps file → DamagedAt at file → ⊥
whole_or_damaged file end at ps a b =
    let log = a.log in
    let same = one_reading ps b.payloads (log.gate ∷ log.rest) b.tail log.short b.short (inl (inr log.closed)) (ends_broken b.payloads b.tail b.broken) (sym log.is ∙ b.is) in
    ⊎_elim (λ broken. log.closed (subst (λ (t : List ℕ). IsBroken t) (sym same.1) broken).0) (λ none. a.some (same.0 ∙ none.0)) b.broken

pub one_frame : (p q : List ℕ) → IsShort p → IsShort q → frame p ≡ frame q → p ≡ q
one_frame p q sp sq is = (entry_once p q (0 ∷ []) (0 ∷ []) sp sq is).0
