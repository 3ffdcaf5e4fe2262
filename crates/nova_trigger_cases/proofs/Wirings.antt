-- The wiring of the cases is one, whichever earlier tasks the second and the third run after.
use Rattle.std.proofs.Common.{◌≡◌, ℕ, zero, suc, ◌<◌, [], ◌∷◌, true, false, get_or, Option, Some, None, refl, sym, subst, arith}
use Rattle.std.specs.Prelude.{IfSome}
use Rattle.nova_meta.specs.declared.wiring.Edge.{Edge}
use Rattle.nova_meta.specs.declared.wiring.Wire.{Wire}
use Rattle.nova_meta.specs.declared.wiring.Wiring.{Wiring}
use Rattle.nova_meta.specs.Wired.{IsWire, IsWiring, is_based, wire_at, writer_of}

abbrev first : Wire
first = record { inputs = (record { channel = 0; new = true }) ∷ ((record { channel = 1; new = false }) ∷ []); output = 2; based = false; after = None; stateful = false }

abbrev second : Option ℕ → Wire
second a = record { inputs = (record { channel = 2; new = true }) ∷ []; output = 3; based = false; after = a; stateful = false }

abbrev third : Option ℕ → Wire
third b = record { inputs = (record { channel = 3; new = false }) ∷ []; output = 4; based = true; after = b; stateful = false }

abbrev three : Option ℕ → Option ℕ → Wiring
three a b = record { writers = None ∷ (None ∷ (Some 0 ∷ (Some 1 ∷ (Some 2 ∷ [])))); tasks = first ∷ (second a ∷ (third b ∷ [])) }

value_is : (m n : ℕ) → Some m ≡ Some n → m ≡ n
value_is m n e = cc

no_value : (n : ℕ) → None ≡ Some n → ⊥
no_value n e = cc

-- what holds of the two inputs of the first, and of the one of another
of_two : (P : Edge → Type 0) (x y : Edge) → P x → P y → (k : ℕ) (d : Edge) → k < 2 → P (get_or (x ∷ (y ∷ [])) k d)
of_two P x y p q zero d lt = p
of_two P x y p q (suc zero) d lt = q
of_two P x y p q (suc (suc k)) d lt = absurd (omega arith)

of_one : (P : Edge → Type 0) (x : Edge) → P x → (k : ℕ) (d : Edge) → k < 1 → P (get_or (x ∷ []) k d)
of_one P x p zero d lt = p
of_one P x p (suc k) d lt = absurd (omega arith)

abbrev InRange : Edge → Type 0
InRange e = e.channel < 5

module _ (a b : Option ℕ) (sooner : IfSome a (λ other. other < 1)) (earlier : IfSome b (λ other. other < 2)) where
  writers_in : (k : ℕ) (d : Option ℕ) → k < 5 → IfSome (get_or (three a b).writers k d) (λ t. t < 3)
  writers_in zero d lt = tt
  writers_in (suc zero) d lt = tt
  writers_in (suc (suc zero)) d lt = omega arith
  writers_in (suc (suc (suc zero))) d lt = omega arith
  writers_in (suc (suc (suc (suc zero)))) d lt = omega arith
  writers_in (suc (suc (suc (suc (suc k))))) d lt = absurd (omega arith)

  outputs : (c t : ℕ) → writer_of (three a b) c ≡ Some t → (wire_at (three a b) t).output ≡ c
  outputs zero t e = absurd (no_value t e)
  outputs (suc zero) t e = absurd (no_value t e)
  outputs (suc (suc zero)) t e = subst (λ n. (wire_at (three a b) n).output ≡ 2) (value_is 0 t e) refl
  outputs (suc (suc (suc zero))) t e = subst (λ n. (wire_at (three a b) n).output ≡ 3) (value_is 1 t e) refl
  outputs (suc (suc (suc (suc zero)))) t e = subst (λ n. (wire_at (three a b) n).output ≡ 4) (value_is 2 t e) refl
  outputs (suc (suc (suc (suc (suc c))))) t e = absurd (no_value t e)

  abbrev IsEarlier : ℕ → Edge → Type 0
  IsEarlier t e = IfSome (writer_of (three a b) e.channel) (λ other. other < t)

  abbrev IsWhole : Edge → Type 0
  IsWhole e = e.new ≡ true → is_based (three a b) e.channel ≡ false

  tasks_are : (t : ℕ) → t < 3 → IsWire (three a b) t (wire_at (three a b) t)
  tasks_are zero lt = record {
    few = omega arith;
    inputs = of_two InRange _ _ (omega arith) (omega arith);
    earlier = of_two (IsEarlier 0) _ _ tt tt;
    output = omega arith;
    writes = refl;
    after = tt;
    whole = of_two IsWhole _ _ (λ e. refl) (λ e. refl);
  }
  tasks_are (suc zero) lt = record {
    few = omega arith;
    inputs = of_one InRange _ (omega arith);
    earlier = of_one (IsEarlier 1) _ (omega arith);
    output = omega arith;
    writes = refl;
    after = sooner;
    whole = of_one IsWhole _ (λ e. refl);
  }
  tasks_are (suc (suc zero)) lt = record {
    few = omega arith;
    inputs = of_one InRange _ (omega arith);
    earlier = of_one (IsEarlier 2) _ (omega arith);
    output = omega arith;
    writes = refl;
    after = earlier;
    whole = of_one IsWhole _ (λ e. refl);
  }
  tasks_are (suc (suc (suc t))) lt = absurd (omega arith)

  three_is_wiring : IsWiring (three a b)
  three_is_wiring = record { few_channels = omega arith; few_tasks = omega arith; writers = writers_in; outputs = outputs; tasks = tasks_are }

  pub three_are_wired : (w : Wiring) → w.writers ≡ (three a b).writers → w.tasks ≡ (three a b).tasks → IsWiring w
  three_are_wired w e f = subst IsWiring (sym same) three_is_wiring
    where
      same : w ≡ three a b
      same = λ k. record { writers = e k; tasks = f k }
