-- What is read is spelled so, what is spelled so is read, and flaws are those of the cases.
use Rattle.std.proofs.Common.{◌≡◌, ◌⊎◌, inl, inr, ℕ, ◌<◌, ◌≤◌, ◌^◌, Bool, true, false, cond, ltb, ◌==◌, List, ◌++◌, length, take, drop, Result, Ok, Err, refl, sym, ap, subst, ◌∙◌, append_assoc, arith}
use Rattle.std.specs.Int.{w64, from_be_bytes}
use Rattle.std.proofs.lemmas.Bool.Decides.{nat_tests}
use Rattle.std.proofs.lemmas.Bool.{ltb-false, ltb-true, le-ltb, lt-ltb}
use Rattle.std.proofs.lemmas.List.{take-append-drop, length-append}
use Rattle.std.proofs.lemmas.Nat.{from_be_bytes-to_be_bytes_8}
use Rattle.nova_value.specs.declared.value.Kind.{Kind}
use Rattle.nova_value.specs.Rows.{IsOf, FitKinds}
use Rattle.nova_row_codec.specs.declared.fault.CodecFault.{CodecFault}
use Rattle.nova_row_codec.specs.Spelling.{eight, value_bytes, values_bytes}
use Rattle.nova_row_codec.specs.Written.{IsBytes}
use Rattle.nova_row_codec.specs.Reading.{value_at, values_at}
use Rattle.nova_row_codec.specs.Faults.{ValueFails, ValuesFail}
use Rattle.nova_row_codec.proofs.Fields as rows
use Rattle.nova_row_codec.proofs.Fields.{Takes, bytes_drop, eight_back, value_field}
use Rattle.nova_row_codec.proofs.Entries.{values_field}
use Rattle.nova_group_codec.specs.declared.fault.Flaw.{Flaw}
use Rattle.nova_group_codec.specs.declared.fault.Flaw.TheVariants.{Short, Broken}
use Rattle.nova_group_codec.specs.Spelling.{IsCount}
use Rattle.nova_group_codec.specs.Reading.{Read, ◌>>=◌, flaw_of, flawed, number_at, positive_at}
use Rattle.nova_group_codec.specs.Faults.{ThenFails, NumberFails, CountFails, ValueFlawed, ValuesFlawed}
use Rattle.nova_group_codec.specs.Faults as fault

-- a step that did not fail, and one that did
pub bind_ok : {A B : Type 0} (r : Result A Flaw) (f : A → Result B Flaw) (y : B) → (r >>= f) ≡ Ok y → (x : A) × (r ≡ Ok x) × (f x ≡ Ok y)
bind_ok (Ok x) f y e = (x, refl, e)
bind_ok (Err g) f y e = absurd cc

pub bind_err : {A B : Type 0} (r : Result A Flaw) (f : A → Result B Flaw) (g : Flaw) → (r >>= f) ≡ Err g → (r ≡ Err g) ⊎ ((x : A) × (r ≡ Ok x) × (f x ≡ Err g))
bind_err (Ok x) f g e = inr (x, refl, e)
bind_err (Err h) f g e = inl (let same : h ≡ g = cc in ap (λ (k : Flaw). Err k) same)

pub ok_is : {A : Type 0} (x y : A) → ◌≡◌ {A = Result A Flaw} (Ok x) (Ok y) → x ≡ y
ok_is x y e = cc

pub err_is : {A : Type 0} (f g : Flaw) → ◌≡◌ {A = Result A Flaw} (Err f) (Err g) → f ≡ g
err_is f g e = cc

pub ok_no_err : {A : Type 0} (x : A) (f : Flaw) → ◌≡◌ {A = Result A Flaw} (Ok x) (Err f) → ⊥
ok_no_err x f e = cc

pub takes_then : (a x b y c : List ℕ) → Takes a x b → Takes b y c → Takes a (x ++ y) c
takes_then a x b y c p q = record { parts = p.parts ∙ ap (λ (t : List ℕ). x ++ t) q.parts ∙ sym (append_assoc x y c); rest_fits = q.rest_fits }

-- A reader of one field: what it takes is spelled so, what is spelled so is read, and it fails exactly where the cases say.
pub record IsField {X : Type 0} (field : List ℕ → Read X) (spelled : X → List ℕ) (F : X → Type 0) (Bad : List ℕ → Flaw → Type 0) : Type 0 where
  pub takes : (bytes : List ℕ) (a : X × List ℕ) → IsBytes bytes → field bytes ≡ Ok a → Takes bytes (spelled a.0) a.1 × F a.0
  pub again : (x : X) (rest : List ℕ) → F x → field (spelled x ++ rest) ≡ Ok (x, rest)
  pub fails : (bytes : List ℕ) (f : Flaw) → IsBytes bytes → field bytes ≡ Err f → Bad bytes f
  pub refuses : (bytes : List ℕ) (f : Flaw) → Bad bytes f → field bytes ≡ Err f

-- ---- values

unflawed : {X : Type 0} (r : Result X CodecFault) (x : X) → flawed r ≡ Ok x → r ≡ Ok x
unflawed {X = X} (Ok y) x e = let same : y ≡ x = cc in ap (λ (z : X). Ok z) same
unflawed (Err f) x e = absurd cc

cause_of : {X : Type 0} (r : Result X CodecFault) (g : Flaw) → flawed r ≡ Err g → (f : CodecFault) × (r ≡ Err f) × (flaw_of f ≡ g)
cause_of (Ok x) g e = absurd cc
cause_of (Err f) g e = (f, refl, let same : flaw_of f ≡ g = cc in same)

module _ {X : Type 0} {field : List ℕ → Result (X × List ℕ) CodecFault} {spelled : X → List ℕ} {F : X → Type 0} {Bad : List ℕ → CodecFault → Type 0} {Flawed : List ℕ → Flaw → Type 0} (good : rows.IsField field spelled F Bad) (worse : (bytes : List ℕ) (f : CodecFault) → Bad bytes f → Flawed bytes (flaw_of f)) (cause : (bytes : List ℕ) (g : Flaw) → Flawed bytes g → (f : CodecFault) × (flaw_of f ≡ g) × Bad bytes f) where
  flawed_field : IsField (λ bytes. flawed (field bytes)) spelled F Flawed
  flawed_field = record {
    takes = λ bytes a fits e. good.takes bytes a fits (unflawed (field bytes) a e);
    again = λ x rest fits. ap (λ (r : Result (X × List ℕ) CodecFault). flawed r) (good.again x rest fits);
    fails = λ bytes g fits e. let c = cause_of (field bytes) g e in subst (Flawed bytes) c.2 (worse bytes c.0 (good.fails bytes c.0 fits c.1));
    refuses = λ bytes g bad. let c = cause bytes g bad in ap (λ (r : Result (X × List ℕ) CodecFault). flawed r) (good.refuses bytes c.0 c.2) ∙ ap (λ (h : Flaw). Err h) c.1;
  }

cause_of_value : {k : Kind} {bytes : List ℕ} {g : Flaw} → ValueFlawed k bytes g → (f : CodecFault) × (flaw_of f ≡ g) × ValueFails k bytes f
cause_of_value (fault.value f bad) = (f, refl, bad)

cause_of_values : {ks : List Kind} {bytes : List ℕ} {g : Flaw} → ValuesFlawed ks bytes g → (f : CodecFault) × (flaw_of f ≡ g) × ValuesFail ks bytes f
cause_of_values (fault.values f bad) = (f, refl, bad)

pub value_flawed : (k : Kind) → IsField (λ bytes. flawed (value_at k bytes)) value_bytes (IsOf k) (ValueFlawed k)
value_flawed k = flawed_field (value_field k) (λ bytes f bad. fault.value f bad) (λ bytes g bad. cause_of_value bad)

pub values_flawed : (ks : List Kind) → IsField (λ bytes. flawed (values_at ks bytes)) values_bytes (FitKinds ks) (ValuesFlawed ks)
values_flawed ks = flawed_field (values_field ks) (λ bytes f bad. fault.values f bad) (λ bytes g bad. cause_of_values bad)

-- ---- numbers

abbrev Fits64 : ℕ → Type 0
Fits64 n = n < 2 ^ 64

number_takes : (bytes : List ℕ) (a : ℕ × List ℕ) → IsBytes bytes → number_at bytes ≡ Ok a → Takes bytes (eight a.0) a.1 × Fits64 a.0
unfolding number_at
number_takes bytes a fits e =
    elim (ltb (length bytes) 8) as (λ b. ltb (length bytes) 8 ≡ b → cond b (Err Short) (Ok (from_be_bytes w64 (take 8 bytes), drop 8 bytes)) ≡ Ok a → Takes bytes (eight a.0) a.1 × Fits64 a.0) [
      | true ↦ λ t e. absurd cc
      | false ↦ λ t e.
          let b = eight_back bytes fits (ltb-false _ _ t) in
          subst (λ (z : ℕ × List ℕ). Takes bytes (eight z.0) z.1 × Fits64 z.0) (ok_is _ a e)
          (record { parts = sym (take-append-drop 8 bytes) ∙ ap (λ (t : List ℕ). t ++ drop 8 bytes) (sym b.0); rest_fits = bytes_drop 8 bytes fits }, b.1)
    ] refl e

number_again : (n : ℕ) (rest : List ℕ) → Fits64 n → number_at (eight n ++ rest) ≡ Ok (n, rest)
unfolding number_at
number_again n rest fits =
    let long : ltb (length (eight n ++ rest)) 8 ≡ false = le-ltb _ _ (omega (arith, length-append (eight n) rest)) in
    ap (λ (b : Bool). cond b (Err Short) (Ok (from_be_bytes w64 (eight n), rest))) long
    ∙ ap (λ (k : ℕ). Ok (k, rest)) (from_be_bytes-to_be_bytes_8 n fits)

number_fails : (bytes : List ℕ) (f : Flaw) → IsBytes bytes → number_at bytes ≡ Err f → NumberFails bytes f
unfolding number_at
number_fails bytes f fits e =
    let found : ℕ × List ℕ = (from_be_bytes w64 (take 8 bytes), drop 8 bytes) in
    elim (ltb (length bytes) 8) as (λ b. ltb (length bytes) 8 ≡ b → ◌≡◌ {A = Result (ℕ × List ℕ) Flaw} (cond b (Err Short) (Ok found)) (Err f) → NumberFails bytes f) [
      | true ↦ λ t e. (ltb-true _ _ t, sym (err_is Short f e))
      | false ↦ λ t e. absurd (ok_no_err found f e)
    ] refl e

number_refuses : (bytes : List ℕ) (f : Flaw) → NumberFails bytes f → number_at bytes ≡ Err f
unfolding number_at
number_refuses bytes f bad =
    ap (λ (b : Bool). cond b (Err Short) (Ok (from_be_bytes w64 (take 8 bytes), drop 8 bytes))) (lt-ltb _ _ bad.0) ∙ ap (λ (g : Flaw). Err g) (sym bad.1)

pub number_field : IsField number_at eight (λ n. n < 2 ^ 64) NumberFails
number_field = record { takes = number_takes; again = number_again; fails = number_fails; refuses = number_refuses }

-- a number from 1
abbrev from_one : ℕ × List ℕ → Read ℕ
from_one a = cond (a.0 == 0) (Err Broken) (Ok a)

from_one_takes : (x a : ℕ × List ℕ) → from_one x ≡ Ok a → (x ≡ a) × (1 ≤ a.0)
from_one_takes x a e = by_test (x.0 == 0) refl e
  where
    by_test : (b : Bool) → (x.0 == 0) ≡ b → cond b (Err Broken) (Ok x) ≡ Ok a → (x ≡ a) × (1 ≤ a.0)
    by_test true t e = absurd cc
    by_test false t e =
        let same = ok_is x a e in
        let some : 1 ≤ x.0 = grind (arith, nat_tests, t) in
        (same, subst (λ (z : ℕ × List ℕ). 1 ≤ z.0) same some)

from_one_fails : (x : ℕ × List ℕ) (f : Flaw) → from_one x ≡ Err f → (x.0 ≡ 0) × (f ≡ Broken)
from_one_fails x f e = by_test (x.0 == 0) refl e
  where
    by_test : (b : Bool) → (x.0 == 0) ≡ b → cond b (Err Broken) (Ok x) ≡ Err f → (x.0 ≡ 0) × (f ≡ Broken)
    by_test true t e = (grind (arith, nat_tests, t), sym (err_is {A = ℕ × List ℕ} Broken f e))
    by_test false t e = absurd (ok_no_err x f e)

from_one_again : (n : ℕ) (rest : List ℕ) → 1 ≤ n → from_one (n, rest) ≡ Ok (n, rest)
from_one_again n rest some =
    let test : (n == 0) ≡ false = grind (arith, nat_tests) in
    ap (λ (b : Bool). cond b (Err Broken) (Ok (n, rest))) test

from_one_none : (rest : List ℕ) → from_one (0, rest) ≡ Err Broken
from_one_none rest = refl

positive_takes : (bytes : List ℕ) (a : ℕ × List ℕ) → IsBytes bytes → positive_at bytes ≡ Ok a → Takes bytes (eight a.0) a.1 × IsCount a.0
unfolding positive_at
positive_takes bytes a fits e =
    let x = bind_ok (number_at bytes) from_one a e in
    let t = number_takes bytes x.0 fits x.1 in
    let p = from_one_takes x.0 a x.2 in
    let u = subst (λ (z : ℕ × List ℕ). Takes bytes (eight z.0) z.1 × Fits64 z.0) p.0 t in
    (u.0, (p.1, u.1))

positive_again : (n : ℕ) (rest : List ℕ) → IsCount n → positive_at (eight n ++ rest) ≡ Ok (n, rest)
unfolding positive_at
positive_again n rest fits = ap (λ (r : Read ℕ). r >>= from_one) (number_again n rest fits.1) ∙ from_one_again n rest fits.0

positive_fails : (bytes : List ℕ) (f : Flaw) → IsBytes bytes → positive_at bytes ≡ Err f → CountFails bytes f
unfolding positive_at
positive_fails bytes f fits e = by_number (bind_err (number_at bytes) from_one f e)
  where
    by_number : (number_at bytes ≡ Err f) ⊎ ((x : ℕ × List ℕ) × (number_at bytes ≡ Ok x) × (from_one x ≡ Err f)) → CountFails bytes f
    by_number (inl bad) = let p = number_fails bytes f fits bad in subst (CountFails bytes) (sym p.1) (fault.short p.0)
    by_number (inr (x, is, bad)) =
        let t = number_takes bytes x fits is in
        let p = from_one_fails x f bad in
        subst (CountFails bytes) (sym p.1) (subst (λ (b : List ℕ). CountFails b Broken) (ap (λ (n : ℕ). eight n ++ x.1) (sym p.0) ∙ sym t.0.parts) (fault.none x.1))

positive_refuses : {bytes : List ℕ} {f : Flaw} → CountFails bytes f → positive_at bytes ≡ Err f
unfolding positive_at
positive_refuses (fault.short {bytes = bytes} cut) = ap (λ (r : Read ℕ). r >>= from_one) (number_refuses bytes Short (cut, refl))
positive_refuses (fault.none bytes) = ap (λ (r : Read ℕ). r >>= from_one) (number_again 0 bytes (omega arith)) ∙ from_one_none bytes

pub positive_field : IsField positive_at eight IsCount CountFails
positive_field = record { takes = positive_takes; again = positive_again; fails = positive_fails; refuses = λ bytes f bad. positive_refuses bad }

-- ---- one after the other

abbrev pub pair_at : {A B : Type 0} → (List ℕ → Read A) → (List ℕ → Read B) → List ℕ → Read (A × B)
pair_at ra rb bytes = ra bytes >>= λ a. rb a.1 >>= λ b. Ok ((a.0, b.0), b.1)

module _ {A B : Type 0} {ra : List ℕ → Read A} {rb : List ℕ → Read B} {sa : A → List ℕ} {sb : B → List ℕ} {Fa : A → Type 0} {Fb : B → Type 0} {BadA BadB : List ℕ → Flaw → Type 0} (one : IsField ra sa Fa BadA) (other : IsField rb sb Fb BadB) where
  abbrev next : A × List ℕ → Read (A × B)
  next a = rb a.1 >>= λ b. Ok ((a.0, b.0), b.1)

  pair_takes : (bytes : List ℕ) (z : (A × B) × List ℕ) → IsBytes bytes → pair_at ra rb bytes ≡ Ok z → Takes bytes (sa z.0.0 ++ sb z.0.1) z.1 × (Fa z.0.0 × Fb z.0.1)
  pair_takes bytes z fits e =
      let x = bind_ok (ra bytes) next z e in
      let y = bind_ok (rb x.0.1) (λ b. Ok ((x.0.0, b.0), b.1)) z x.2 in
      let t = one.takes bytes x.0 fits x.1 in
      let u = other.takes x.0.1 y.0 t.0.rest_fits y.1 in
      let made : (A × B) × List ℕ = ((x.0.0, y.0.0), y.0.1) in
      subst (λ (z : (A × B) × List ℕ). Takes bytes (sa z.0.0 ++ sb z.0.1) z.1 × (Fa z.0.0 × Fb z.0.1)) (ok_is made z y.2)
      (takes_then bytes (sa x.0.0) x.0.1 (sb y.0.0) y.0.1 t.0 u.0, (t.1, u.1))

  pair_again : (p : A × B) (rest : List ℕ) → Fa p.0 × Fb p.1 → pair_at ra rb ((sa p.0 ++ sb p.1) ++ rest) ≡ Ok (p, rest)
  pair_again p rest fits =
      ap (pair_at ra rb) (append_assoc (sa p.0) (sb p.1) rest)
      ∙ ap (λ (r : Read A). r >>= next) (one.again p.0 (sb p.1 ++ rest) fits.0)
      ∙ ap (λ (r : Read B). r >>= λ b. Ok ((p.0, b.0), b.1)) (other.again p.1 rest fits.1)

  pair_fails : (bytes : List ℕ) (f : Flaw) → IsBytes bytes → pair_at ra rb bytes ≡ Err f → ThenFails sa Fa BadA BadB bytes f
  pair_fails bytes f fits e = by_first (bind_err (ra bytes) next f e)
    where
      by_second : (x : A × List ℕ) → Fa x.0 → IsBytes x.1 → (rb x.1 ≡ Err f) ⊎ ((y : B × List ℕ) × (rb x.1 ≡ Ok y) × (◌≡◌ {A = Read (A × B)} (Ok ((x.0, y.0), y.1)) (Err f))) → ThenFails sa Fa BadA BadB (sa x.0 ++ x.1) f
      by_second x is fits (inl bad) = fault.after x.0 x.1 is (other.fails x.1 f fits bad)
      by_second x is fits (inr (y, _, never)) = absurd (ok_no_err _ f never)

      by_first : (ra bytes ≡ Err f) ⊎ ((x : A × List ℕ) × (ra bytes ≡ Ok x) × (next x ≡ Err f)) → ThenFails sa Fa BadA BadB bytes f
      by_first (inl bad) = fault.here (one.fails bytes f fits bad)
      by_first (inr (x, is, bad)) =
          let t = one.takes bytes x fits is in
          subst (λ (b : List ℕ). ThenFails sa Fa BadA BadB b f) (sym t.0.parts) (by_second x t.1 t.0.rest_fits (bind_err (rb x.1) (λ b. Ok ((x.0, b.0), b.1)) f bad))

  pair_refuses : {bytes : List ℕ} {f : Flaw} → ThenFails sa Fa BadA BadB bytes f → pair_at ra rb bytes ≡ Err f
  pair_refuses (fault.here {bytes = bytes} {flaw = f} bad) = ap (λ (r : Read A). r >>= next) (one.refuses bytes f bad)
  pair_refuses (fault.after {flaw = f} x bytes is bad) =
      ap (λ (r : Read A). r >>= next) (one.again x bytes is)
      ∙ ap (λ (r : Read B). r >>= λ b. Ok ((x, b.0), b.1)) (other.refuses bytes f bad)

  pub pair_field : IsField (pair_at ra rb) (λ p. sa p.0 ++ sb p.1) (λ p. Fa p.0 × Fb p.1) (ThenFails sa Fa BadA BadB)
  pair_field = record { takes = pair_takes; again = pair_again; fails = pair_fails; refuses = λ bytes f bad. pair_refuses bad }

-- ---- the same field, seen as another thing

abbrev pub map_at : {X Y : Type 0} → (X → Y) → (List ℕ → Read X) → List ℕ → Read Y
map_at f read bytes = read bytes >>= λ a. Ok (f a.0, a.1)

-- what is made of what was read
pub record Makes {X Y : Type 0} (f : X → Y) (sx : X → List ℕ) (sy : Y → List ℕ) (Fx : X → Type 0) (Fy : Y → Type 0) : Type 0 where
  pub spelled : (x : X) → Fx x → sy (f x) ≡ sx x
  pub fits : (x : X) → Fx x → Fy (f x)
  pub from : (y : Y) → Fy y → (x : X) × (f x ≡ y) × Fx x

module _ {X Y : Type 0} {f : X → Y} {read : List ℕ → Read X} {sx : X → List ℕ} {sy : Y → List ℕ} {Fx : X → Type 0} {Fy : Y → Type 0} {BadX BadY : List ℕ → Flaw → Type 0} (one : IsField read sx Fx BadX) (makes : Makes f sx sy Fx Fy) (worse : (bytes : List ℕ) (g : Flaw) → BadX bytes g → BadY bytes g) (cause : (bytes : List ℕ) (g : Flaw) → BadY bytes g → BadX bytes g) where
  map_takes : (bytes : List ℕ) (z : Y × List ℕ) → IsBytes bytes → map_at f read bytes ≡ Ok z → Takes bytes (sy z.0) z.1 × Fy z.0
  map_takes bytes z fits e =
      let x = bind_ok (read bytes) (λ a. Ok (f a.0, a.1)) z e in
      let t = one.takes bytes x.0 fits x.1 in
      let made : Y × List ℕ = (f x.0.0, x.0.1) in
      subst (λ (z : Y × List ℕ). Takes bytes (sy z.0) z.1 × Fy z.0) (ok_is made z x.2)
      (subst (λ (s : List ℕ). Takes bytes s x.0.1) (sym (makes.spelled x.0.0 t.1)) t.0, makes.fits x.0.0 t.1)

  map_again : (y : Y) (rest : List ℕ) → Fy y → map_at f read (sy y ++ rest) ≡ Ok (y, rest)
  map_again y rest fits =
      let x = makes.from y fits in
      ap (λ (b : List ℕ). map_at f read (b ++ rest)) (ap sy (sym x.1) ∙ makes.spelled x.0 x.2)
      ∙ ap (λ (r : Read X). r >>= λ a. Ok (f a.0, a.1)) (one.again x.0 rest x.2)
      ∙ ap (λ (z : Y). Ok (z, rest)) x.1

  map_fails : (bytes : List ℕ) (g : Flaw) → IsBytes bytes → map_at f read bytes ≡ Err g → BadY bytes g
  map_fails bytes g fits e = by_read (bind_err (read bytes) (λ a. Ok (f a.0, a.1)) g e)
    where
      by_read : (read bytes ≡ Err g) ⊎ ((x : X × List ℕ) × (read bytes ≡ Ok x) × (◌≡◌ {A = Read Y} (Ok (f x.0, x.1)) (Err g))) → BadY bytes g
      by_read (inl bad) = worse bytes g (one.fails bytes g fits bad)
      by_read (inr (x, _, never)) = absurd (ok_no_err _ g never)

  pub map_field : IsField (map_at f read) sy Fy BadY
  map_field = record {
    takes = map_takes;
    again = map_again;
    fails = map_fails;
    refuses = λ bytes g bad. ap (λ (r : Read X). r >>= λ a. Ok (f a.0, a.1)) (one.refuses bytes g (cause bytes g bad));
  }

-- a field that is read alike
pub same_field : {X : Type 0} {one other : List ℕ → Read X} {spelled : X → List ℕ} {F : X → Type 0} {Bad : List ℕ → Flaw → Type 0} → ((bytes : List ℕ) → other bytes ≡ one bytes) → IsField one spelled F Bad → IsField other spelled F Bad
same_field same field = record {
  takes = λ bytes a fits e. field.takes bytes a fits (sym (same bytes) ∙ e);
  again = λ x rest fits. same _ ∙ field.again x rest fits;
  fails = λ bytes g fits e. field.fails bytes g fits (sym (same bytes) ∙ e);
  refuses = λ bytes g bad. same bytes ∙ field.refuses bytes g bad;
}
