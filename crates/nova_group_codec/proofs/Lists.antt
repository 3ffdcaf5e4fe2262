-- Lists in order, behind the number of them.
use Rattle.std.proofs.Common.{◌≡◌, ◌⊎◌, inl, inr, ℕ, zero, suc, ◌+◌, ◌-◌, ◌<◌, ◌^◌, Bool, true, false, cond, List, [], ◌∷◌, ◌++◌, length, Result, Ok, Err, refl, sym, ap, subst, ◌∙◌, append_assoc, arith}
use Rattle.std.specs.Prelude.{T}
use Rattle.std.specs.List.{AllByRecursion, flat_map}
use Rattle.std.specs.declared.cmp.Ordering.{Ordering}
use Rattle.std.specs.Cmp.{IsTotalOrder}
use Rattle.std.specs.FinMap.{is_sorted}
use Rattle.std.proofs.lemmas.List.{append-nil, length-append}
use Rattle.std.proofs.lemmas.List.Concat.{flat_map-cons, flat_map-append}
use Rattle.nova_row_codec.specs.Spelling.{eight}
use Rattle.nova_row_codec.specs.Written.{IsBytes}
use Rattle.nova_row_codec.proofs.Fields.{Takes}
use Rattle.nova_group_codec.specs.declared.fault.Flaw.{Flaw}
use Rattle.nova_group_codec.specs.declared.fault.Flaw.TheVariants.{Short, Broken}
use Rattle.nova_group_codec.specs.Spelling.{list_bytes}
use Rattle.nova_group_codec.specs.Reading.{Read, Listed, ◌>>=◌, number_at, is_above, next_at, kept, more_at, counted, list_at, without_place}
use Rattle.nova_group_codec.specs.Faults.{NextFails, StopsWithin, ListFails}
use Rattle.nova_group_codec.specs.Faults as fault
use Rattle.nova_group_codec.proofs.Fields.{IsField, bind_ok, bind_err, ok_is, err_is, ok_no_err, number_field}
use Rattle.nova_group_codec.proofs.Rising.{rises_more, rises_prefix}

-- things that fit and rise
pub record AreRising {K X : Type 0} (R : K → K → Ordering) (Fits : K × X → Type 0) (es : List (K × X)) : Type 0 where
  pub fit : AllByRecursion Fits es
  pub rise : T (is_sorted R es)
  pub few : length es < 2 ^ 64

-- A reader of a list: what it takes is spelled so, what is spelled so is read, and it fails exactly where the cases say.
pub record IsListField {X : Type 0} (listed : List ℕ → Listed X) (spelled : X → List ℕ) (Are : List X → Type 0) (Bad : List ℕ → Flaw → ℕ → Type 0) : Type 0 where
  pub takes : (bytes : List ℕ) (a : List X × List ℕ) → IsBytes bytes → listed bytes ≡ Ok a → Takes bytes (list_bytes spelled a.0) a.1 × Are a.0
  pub again : (es : List X) (rest : List ℕ) → Are es → listed (list_bytes spelled es ++ rest) ≡ Ok (es, rest)
  pub fails : (bytes : List ℕ) (f : Flaw) (left : ℕ) → IsBytes bytes → listed bytes ≡ Err (f, left) → Bad bytes f left
  pub refuses : (bytes : List ℕ) (f : Flaw) (left : ℕ) → Bad bytes f left → listed bytes ≡ Err (f, left)

pub listed_ok : {A : Type 0} (x y : A) → ◌≡◌ {A = Result A (Flaw × ℕ)} (Ok x) (Ok y) → x ≡ y
listed_ok x y e = cc

pub listed_err : {A : Type 0} (x y : Flaw × ℕ) → ◌≡◌ {A = Result A (Flaw × ℕ)} (Err x) (Err y) → x ≡ y
listed_err x y e = cc

pub listed_no_err : {A : Type 0} (x : A) (f : Flaw × ℕ) → ◌≡◌ {A = Result A (Flaw × ℕ)} (Ok x) (Err f) → ⊥
listed_no_err x f e = cc

is_true : (b : Bool) → T b → b ≡ true
is_true true p = refl
is_true false p = absurd p

as_true : (b : Bool) → b ≡ true → T b
as_true true e = tt
as_true false e = absurd cc

not_false : (b : Bool) → b ≡ false → T b → ⊥
not_false true e h = absurd cc
not_false false e h = h

not_true : (b : Bool) → (T b → ⊥) → b ≡ false
not_true true h = absurd (h tt)
not_true false h = refl

all_more : {X : Type 0} (P : X → Type 0) (xs : List X) (x : X) → AllByRecursion P xs → P x → AllByRecursion P (xs ++ x ∷ [])
all_more P [] x h p = (p, tt)
all_more P (y ∷ xs) x h p = (h.0, all_more P xs x h.1 p)

flat_more : {X : Type 0} (f : X → List ℕ) (xs : List X) (x : X) → flat_map f (xs ++ x ∷ []) ≡ flat_map f xs ++ f x
flat_more f xs x = flat_map-append f xs (x ∷ []) ∙ ap (λ (b : List ℕ). flat_map f xs ++ b) (flat_map-cons f x [] ∙ append-nil (f x))

flat_cons : {X : Type 0} (f : X → List ℕ) (x : X) (xs : List X) (rest : List ℕ) → flat_map f (x ∷ xs) ++ rest ≡ f x ++ (flat_map f xs ++ rest)
flat_cons f x xs rest = ap (λ (t : List ℕ). t ++ rest) (flat_map-cons f x xs) ∙ append_assoc (f x) (flat_map f xs) rest

-- ---- reading so many more

module _ {K X : Type 0} (R : K → K → Ordering) (read : List ℕ → Read (K × X)) where
  pub more_ok : (m : ℕ) (es : List (K × X)) (bytes : List ℕ) (x : (K × X) × List ℕ) → next_at R read es bytes ≡ Ok x → more_at R read (suc m) es bytes ≡ more_at R read m (es ++ x.0 ∷ []) x.1
  unfolding more_at
  more_ok m es bytes x is = ap (kept R read (more_at R read m) es bytes) is

  pub more_err : (m : ℕ) (es : List (K × X)) (bytes : List ℕ) (f : Flaw) → next_at R read es bytes ≡ Err f → more_at R read (suc m) es bytes ≡ Err (f, length bytes)
  unfolding more_at
  more_err m es bytes f is = ap (kept R read (more_at R read m) es bytes) is

  pub no_more : (es : List (K × X)) (bytes : List ℕ) → more_at R read zero es bytes ≡ Ok (es, bytes)
  unfolding more_at
  no_more es bytes = refl

  pub list_cut : (bytes : List ℕ) (f : Flaw) → number_at bytes ≡ Err f → list_at R read bytes ≡ Err (f, length bytes)
  unfolding list_at
  list_cut bytes f is = ap (counted R read bytes) is

  pub list_more : (bytes : List ℕ) (x : ℕ × List ℕ) → number_at bytes ≡ Ok x → list_at R read bytes ≡ more_at R read x.0 [] x.1
  unfolding list_at
  list_more bytes x is = ap (counted R read bytes) is

module _ {K X : Type 0} {R : K → K → Ordering} {read : List ℕ → Read (K × X)} {spelled : K × X → List ℕ} {Fits : K × X → Type 0} {Bad : List ℕ → Flaw → Type 0} (o : IsTotalOrder R) (field : IsField read spelled Fits Bad) where
  -- one that was read, if it is above the last one
  abbrev ordered : List (K × X) → (K × X) × List ℕ → Read (K × X)
  ordered es a = cond (is_above R es a.0.0) (Ok a) (Err Broken)

  ordered_ok : (b : Bool) (x a : (K × X) × List ℕ) → cond b (Ok x) (Err Broken) ≡ Ok a → (x ≡ a) × (b ≡ true)
  ordered_ok true x a e = (ok_is x a e, refl)
  ordered_ok false x a e = absurd cc

  ordered_err : (b : Bool) (x : (K × X) × List ℕ) (f : Flaw) → cond b (Ok x) (Err Broken) ≡ Err f → (f ≡ Broken) × (b ≡ false)
  ordered_err true x f e = absurd (ok_no_err x f e)
  ordered_err false x f e = (sym (err_is {A = (K × X) × List ℕ} Broken f e), refl)

  next_takes : (es : List (K × X)) (bytes : List ℕ) (a : (K × X) × List ℕ) → next_at R read es bytes ≡ Ok a → (read bytes ≡ Ok a) × (is_above R es a.0.0 ≡ true)
  next_takes es bytes a e =
      let x = bind_ok (read bytes) (ordered es) a e in
      let p = ordered_ok (is_above R es x.0.0.0) x.0 a x.2 in
      subst (λ (z : (K × X) × List ℕ). (read bytes ≡ Ok z) × (is_above R es z.0.0 ≡ true)) p.0 (x.1, p.1)

  next_again : (es : List (K × X)) (e : K × X) (rest : List ℕ) → Fits e → is_above R es e.0 ≡ true → next_at R read es (spelled e ++ rest) ≡ Ok (e, rest)
  next_again es e rest fits above = ap (λ (r : Read (K × X)). r >>= ordered es) (field.again e rest fits) ∙ ap (λ (b : Bool). cond b (Ok (e, rest)) (Err Broken)) above

  next_fails : (es : List (K × X)) (bytes : List ℕ) (f : Flaw) → IsBytes bytes → T (is_sorted R es) → next_at R read es bytes ≡ Err f → NextFails R spelled Fits Bad es bytes f
  next_fails es bytes f fits rise e = by_read (bind_err (read bytes) (ordered es) f e)
    where
      by_read : (read bytes ≡ Err f) ⊎ ((x : (K × X) × List ℕ) × (read bytes ≡ Ok x) × (ordered es x ≡ Err f)) → NextFails R spelled Fits Bad es bytes f
      by_read (inl bad) = fault.fails (field.fails bytes f fits bad)
      by_read (inr (x, is, bad)) =
          let t = field.takes bytes x fits is in
          let p = ordered_err (is_above R es x.0.0) x f bad in
          subst (NextFails R spelled Fits Bad es bytes) (sym p.0)
          (subst (λ (b : List ℕ). NextFails R spelled Fits Bad es b Broken) (sym t.0.parts) (fault.falls x.0 x.1 t.1 (not_false _ (rises_more o x.0 es rise ∙ p.1))))

  next_refuses : {es : List (K × X)} {bytes : List ℕ} {f : Flaw} → T (is_sorted R es) → NextFails R spelled Fits Bad es bytes f → next_at R read es bytes ≡ Err f
  next_refuses {es = es} rise (fault.fails {bytes = bytes} {flaw = f} bad) = ap (λ (r : Read (K × X)). r >>= ordered es) (field.refuses bytes f bad)
  next_refuses {es = es} rise (fault.falls e bytes fits isnt) =
      ap (λ (r : Read (K × X)). r >>= ordered es) (field.again e bytes fits)
      ∙ ap (λ (b : Bool). cond b (Ok (e, bytes)) (Err Broken)) (sym (rises_more o e es rise) ∙ not_true _ isnt)

  -- reading over things that fit and rise
  over : (k : ℕ) (es fs : List (K × X)) (rest : List ℕ) → AllByRecursion Fits fs → T (is_sorted R (es ++ fs)) → more_at R read (length fs + k) es (flat_map spelled fs ++ rest) ≡ more_at R read k (es ++ fs) rest
  over k es [] rest fit rise =
      let n : length {A = K × X} [] + k ≡ k = omega arith in
      ap (λ (m : ℕ). more_at R read m es rest) n ∙ ap (λ (xs : List (K × X)). more_at R read k xs rest) (sym (append-nil es))
  over k es (f ∷ fs) rest fit rise =
      let assoc : (es ++ f ∷ []) ++ fs ≡ es ++ f ∷ fs = append_assoc es (f ∷ []) fs in
      let rise_here = subst (λ (xs : List (K × X)). T (is_sorted R xs)) (sym assoc) rise in
      let rise_more = rises_prefix R (es ++ f ∷ []) fs rise_here in
      let above : is_above R es f.0 ≡ true = sym (rises_more o f es (rises_prefix R es (f ∷ []) rise_more)) ∙ is_true _ rise_more in
      let n : length (f ∷ fs) + k ≡ suc (length fs + k) = omega arith in
      ap (λ (m : ℕ). more_at R read m es (flat_map spelled (f ∷ fs) ++ rest)) n
      ∙ ap (λ (b : List ℕ). more_at R read (suc (length fs + k)) es b) (flat_cons spelled f fs rest)
      ∙ more_ok R read (length fs + k) es (spelled f ++ (flat_map spelled fs ++ rest)) (f, flat_map spelled fs ++ rest) (next_again es f (flat_map spelled fs ++ rest) fit.0 above)
      ∙ over k (es ++ f ∷ []) fs rest fit.1 rise_here
      ∙ ap (λ (xs : List (K × X)). more_at R read k xs rest) assoc

  -- These stand at the start of what is read, behind the number of all of them.
  record ReadTo (whole : List ℕ) (count : ℕ) (es : List (K × X)) (rest : List ℕ) : Type 0 where
    fit : AllByRecursion Fits es
    rise : T (is_sorted R es)
    is : whole ≡ eight count ++ (flat_map spelled es ++ rest)
    rest_fits : IsBytes rest

  module _ (whole : List ℕ) (count : ℕ) where
    one_more : (es : List (K × X)) (bytes : List ℕ) (x : (K × X) × List ℕ) → ReadTo whole count es bytes → next_at R read es bytes ≡ Ok x → ReadTo whole count (es ++ x.0 ∷ []) x.1
    one_more es bytes x so is =
        let p = next_takes es bytes x is in
        let t = field.takes bytes x so.rest_fits p.0 in
        record {
          fit = all_more Fits es x.0 so.fit t.1;
          rise = as_true _ (rises_more o x.0 es so.rise ∙ p.1);
          is = so.is ∙ ap (λ (b : List ℕ). eight count ++ (flat_map spelled es ++ b)) t.0.parts
              ∙ ap (λ (b : List ℕ). eight count ++ b) (sym (append_assoc (flat_map spelled es) (spelled x.0) x.1) ∙ ap (λ (b : List ℕ). b ++ x.1) (sym (flat_more spelled es x.0)));
          rest_fits = t.0.rest_fits;
        }

    abbrev ReadAll : ℕ → List (K × X) → List (K × X) × List ℕ → Type 0
    ReadAll n es a = ReadTo whole count a.0 a.1 × (length a.0 ≡ length es + n)

    takes_all : (n : ℕ) (es : List (K × X)) (bytes : List ℕ) (a : List (K × X) × List ℕ) → ReadTo whole count es bytes → more_at R read n es bytes ≡ Ok a → ReadAll n es a
    takes_all zero es bytes a so e = subst (ReadAll zero es) (listed_ok (es, bytes) a (sym (no_more R read es bytes) ∙ e)) (so, omega arith)
    takes_all (suc n) es bytes a so e = by_next (λ x more is. takes_all n (es ++ x.0 ∷ []) x.1 a more is) (next_at R read es bytes) refl
      where
        by_next : ((x : (K × X) × List ℕ) → ReadTo whole count (es ++ x.0 ∷ []) x.1 → more_at R read n (es ++ x.0 ∷ []) x.1 ≡ Ok a → ReadAll n (es ++ x.0 ∷ []) a) → (r : Read (K × X)) → next_at R read es bytes ≡ r → ReadAll (suc n) es a
        by_next others (Ok x) is =
            let t = others x (one_more es bytes x so is) (sym (more_ok R read n es bytes x is) ∙ e) in
            (t.0, let m = length-append es (x.0 ∷ []) in omega (arith, t.1, m))
        by_next others (Err f) is = absurd (listed_no_err a (f, length bytes) (sym e ∙ more_err R read n es bytes f is))

    fails_within : (n : ℕ) (es : List (K × X)) (bytes : List ℕ) (f : Flaw) (left : ℕ) → count < 2 ^ 64 → count ≡ length es + n → ReadTo whole count es bytes → more_at R read n es bytes ≡ Err (f, left) → StopsWithin R spelled Fits Bad whole f left
    fails_within zero es bytes f left small number so e = absurd (listed_no_err (es, bytes) (f, left) (sym (no_more R read es bytes) ∙ e))
    fails_within (suc n) es bytes f left small number so e = by_next (λ x more is. fails_within n (es ++ x.0 ∷ []) x.1 f left small (let m = length-append es (x.0 ∷ []) in omega (arith, number, m)) more is) (next_at R read es bytes) refl
      where
        by_next : ((x : (K × X) × List ℕ) → ReadTo whole count (es ++ x.0 ∷ []) x.1 → more_at R read n (es ++ x.0 ∷ []) x.1 ≡ Err (f, left) → StopsWithin R spelled Fits Bad whole f left) → (r : Read (K × X)) → next_at R read es bytes ≡ r → StopsWithin R spelled Fits Bad whole f left
        by_next others (Ok x) is = others x (one_more es bytes x so is) (sym (more_ok R read n es bytes x is) ∙ e)
        by_next others (Err g) is =
            let same = listed_err {A = List (K × X) × List ℕ} (g, length bytes) (f, left) (sym (more_err R read n es bytes g is) ∙ e) in
            record {
              count = count;
              counted = small;
              before = es;
              fewer = omega (arith, number);
              fit = so.fit;
              rise = so.rise;
              rest = bytes;
              is = so.is;
              place = sym (ap (λ (p : Flaw × ℕ). p.1) same);
              fails = next_fails es bytes f so.rest_fits so.rise (is ∙ ap (λ (p : Flaw × ℕ). Err p.0) same);
            }

  -- ---- the whole list

  list_count : (n : ℕ) (rest : List ℕ) → n < 2 ^ 64 → list_at R read (eight n ++ rest) ≡ more_at R read n [] rest
  unfolding list_at
  list_count n rest small = ap (counted R read (eight n ++ rest)) (number_field.again n rest small)

  at_first : (bytes : List ℕ) (x : ℕ × List ℕ) → Takes bytes (eight x.0) x.1 → ReadTo bytes x.0 [] x.1
  at_first bytes x t = record { fit = tt; rise = tt; is = t.parts; rest_fits = t.rest_fits }

  list_takes : (bytes : List ℕ) (a : List (K × X) × List ℕ) → IsBytes bytes → list_at R read bytes ≡ Ok a → Takes bytes (list_bytes spelled a.0) a.1 × AreRising R Fits a.0
  list_takes bytes a fits e = by_number (number_at bytes) refl
    where
      by_number : (r : Read ℕ) → number_at bytes ≡ r → Takes bytes (list_bytes spelled a.0) a.1 × AreRising R Fits a.0
      by_number (Ok x) is =
          let t = number_field.takes bytes x fits is in
          let all = takes_all bytes x.0 x.0 [] x.1 a (at_first bytes x t.0) (sym (list_more R read bytes x is) ∙ e) in
          let number : length a.0 ≡ x.0 = omega (arith, all.1) in (
            record { parts = all.0.is ∙ ap (λ (n : ℕ). eight n ++ (flat_map spelled a.0 ++ a.1)) (sym number) ∙ sym (append_assoc (eight (length a.0)) (flat_map spelled a.0) a.1); rest_fits = all.0.rest_fits },
            record { fit = all.0.fit; rise = all.0.rise; few = omega (arith, number, t.1) },
          )
      by_number (Err f) is = absurd (listed_no_err a (f, length bytes) (sym e ∙ list_cut R read bytes f is))

  list_again : (es : List (K × X)) (rest : List ℕ) → AreRising R Fits es → list_at R read (list_bytes spelled es ++ rest) ≡ Ok (es, rest)
  list_again es rest are =
      ap (list_at R read) (append_assoc (eight (length es)) (flat_map spelled es) rest) ∙ list_count (length es) (flat_map spelled es ++ rest) are.few
      ∙ ap (λ (n : ℕ). more_at R read n [] (flat_map spelled es ++ rest)) (let n : length es ≡ length es + 0 = omega arith in n)
      ∙ over 0 [] es rest are.fit are.rise ∙ no_more R read es rest

  list_fails : (bytes : List ℕ) (f : Flaw) (left : ℕ) → IsBytes bytes → list_at R read bytes ≡ Err (f, left) → ListFails R spelled Fits Bad bytes f left
  list_fails bytes f left fits e = by_number (number_at bytes) refl
    where
      by_number : (r : Read ℕ) → number_at bytes ≡ r → ListFails R spelled Fits Bad bytes f left
      by_number (Ok x) is =
          let t = number_field.takes bytes x fits is in
          inr (fails_within bytes x.0 x.0 [] x.1 f left t.1 (omega arith) (at_first bytes x t.0) (sym (list_more R read bytes x is) ∙ e))
      by_number (Err g) is =
          let bad = number_field.fails bytes g fits is in
          let same = listed_err {A = List (K × X) × List ℕ} (g, length bytes) (f, left) (sym (list_cut R read bytes g is) ∙ e) in
          inl (bad.0, (sym (ap (λ (p : Flaw × ℕ). p.0) same) ∙ bad.1, sym (ap (λ (p : Flaw × ℕ). p.1) same)))

  list_refuses : (bytes : List ℕ) (f : Flaw) (left : ℕ) → ListFails R spelled Fits Bad bytes f left → list_at R read bytes ≡ Err (f, left)
  list_refuses bytes f left (inl (cut, (is, place))) =
      list_cut R read bytes Short (number_field.refuses bytes Short (cut, refl)) ∙ ap (λ (g : Flaw). Err (g, length bytes)) (sym is) ∙ ap (λ (n : ℕ). Err (f, n)) (sym place)
  list_refuses bytes f left (inr stops) =
      let es = stops.before in
      let within : length es < stops.count = stops.fewer in
      let k = stops.count - length es - 1 in
      let n : stops.count ≡ length es + suc k = omega (arith, within) in
      ap (list_at R read) stops.is ∙ list_count stops.count (flat_map spelled es ++ stops.rest) stops.counted
      ∙ ap (λ (m : ℕ). more_at R read m [] (flat_map spelled es ++ stops.rest)) n
      ∙ over (suc k) [] es stops.rest stops.fit stops.rise
      ∙ more_err R read k es stops.rest f (next_refuses stops.rise stops.fails)
      ∙ ap (λ (m : ℕ). Err (f, m)) (sym stops.place)

  pub list_field : IsListField (list_at R read) spelled (AreRising R Fits) (ListFails R spelled Fits Bad)
  list_field = record { takes = list_takes; again = list_again; fails = list_fails; refuses = list_refuses }

-- ---- a list whose place of a flaw isn't told

module _ {X : Type 0} {listed : List ℕ → Listed X} {spelled : X → List ℕ} {Are : List X → Type 0} {Bad : List ℕ → Flaw → ℕ → Type 0} (field : IsListField listed spelled Are Bad) where
  untold_ok : (r : Listed X) (a : List X × List ℕ) → without_place r ≡ Ok a → r ≡ Ok a
  untold_ok (Ok b) a e = ap (λ (z : List X × List ℕ). Ok z) (ok_is b a e)
  untold_ok (Err f) a e = absurd cc

  untold_err : (r : Listed X) (f : Flaw) → without_place r ≡ Err f → (left : ℕ) × (r ≡ Err (f, left))
  untold_err (Ok b) f e = absurd (ok_no_err b f e)
  untold_err (Err g) f e = (g.1, ap (λ (h : Flaw). Err (h, g.1)) (err_is {A = List X × List ℕ} g.0 f e))

  pub untold_field : IsField (λ bytes. without_place (listed bytes)) (list_bytes spelled) Are (λ bytes f. (left : ℕ) × Bad bytes f left)
  untold_field = record {
    takes = λ bytes a fits e. field.takes bytes a fits (untold_ok (listed bytes) a e);
    again = λ es rest are. ap (λ (r : Listed X). without_place r) (field.again es rest are);
    fails = λ bytes f fits e. let p = untold_err (listed bytes) f e in (p.0, field.fails bytes f p.0 fits p.1);
    refuses = λ bytes f bad. ap (λ (r : Listed X). without_place r) (field.refuses bytes f bad.0 bad.1);
  }
