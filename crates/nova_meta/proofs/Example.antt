-- The worked wiring is one.
use Rattle.std.proofs.Common.{◌≡◌, ℕ, zero, suc, ◌<◌, true, false, get_or, Option, Some, None, refl, sym, subst, arith}
use Rattle.std.specs.Prelude.{IfSome}
use Rattle.nova_meta.specs.declared.wiring.Edge.{Edge}
use Rattle.nova_meta.specs.declared.wiring.Wiring.{Wiring}
use Rattle.nova_meta.specs.Worked.{first, second, third, three}
use Rattle.nova_meta.specs.Wired.{IsWire, IsWiring, is_based, wire_at, writer_of}

writers_in : (k : ℕ) (d : Option ℕ) → k < 5 → IfSome (get_or three.writers k d) (λ t. t < 3)
writers_in zero d lt = tt
writers_in (suc zero) d lt = tt
writers_in (suc (suc zero)) d lt = omega arith
writers_in (suc (suc (suc zero))) d lt = omega arith
writers_in (suc (suc (suc (suc zero)))) d lt = omega arith
writers_in (suc (suc (suc (suc (suc k))))) d lt = absurd (omega arith)

value_is : (a t : ℕ) → Some a ≡ Some t → a ≡ t
value_is a t e = cc

no_value : (t : ℕ) → None ≡ Some t → ⊥
no_value t e = cc

outputs : (c t : ℕ) → writer_of three c ≡ Some t → (wire_at three t).output ≡ c
outputs zero t e = absurd (no_value t e)
outputs (suc zero) t e = absurd (no_value t e)
outputs (suc (suc zero)) t e = subst (λ n. (wire_at three n).output ≡ 2) (value_is 0 t e) refl
outputs (suc (suc (suc zero))) t e = subst (λ n. (wire_at three n).output ≡ 3) (value_is 1 t e) refl
outputs (suc (suc (suc (suc zero)))) t e = subst (λ n. (wire_at three n).output ≡ 4) (value_is 2 t e) refl
outputs (suc (suc (suc (suc (suc c))))) t e = absurd (no_value t e)

-- what holds of the two inputs of the first, and of the one of the second and of the third
of_first : (P : Edge → Type 0) → P (record { channel = 0; new = true }) → P (record { channel = 1; new = false }) → (k : ℕ) (d : Edge) → k < 2 → P (get_or first.inputs k d)
of_first P a b zero d lt = a
of_first P a b (suc zero) d lt = b
of_first P a b (suc (suc k)) d lt = absurd (omega arith)

of_second : (P : Edge → Type 0) → P (record { channel = 2; new = true }) → (k : ℕ) (d : Edge) → k < 1 → P (get_or second.inputs k d)
of_second P a zero d lt = a
of_second P a (suc k) d lt = absurd (omega arith)

of_third : (P : Edge → Type 0) → P (record { channel = 3; new = false }) → (k : ℕ) (d : Edge) → k < 1 → P (get_or third.inputs k d)
of_third P a zero d lt = a
of_third P a (suc k) d lt = absurd (omega arith)

abbrev InRange : Edge → Type 0
InRange e = e.channel < 5

abbrev IsEarlier : ℕ → Edge → Type 0
IsEarlier t e = IfSome (writer_of three e.channel) (λ other. other < t)

abbrev IsWhole : Edge → Type 0
IsWhole e = e.new ≡ true → is_based three e.channel ≡ false

tasks_are : (t : ℕ) → t < 3 → IsWire three t (wire_at three t)
tasks_are zero lt = record {
  few = omega arith;
  inputs = of_first InRange (omega arith) (omega arith);
  earlier = of_first (IsEarlier 0) tt tt;
  output = omega arith;
  writes = refl;
  after = tt;
  whole = of_first IsWhole (λ e. refl) (λ e. refl);
}
tasks_are (suc zero) lt = record {
  few = omega arith;
  inputs = of_second InRange (omega arith);
  earlier = of_second (IsEarlier 1) (omega arith);
  output = omega arith;
  writes = refl;
  after = omega arith;
  whole = of_second IsWhole (λ e. refl);
}
tasks_are (suc (suc zero)) lt = record {
  few = omega arith;
  inputs = of_third InRange (omega arith);
  earlier = of_third (IsEarlier 2) (omega arith);
  output = omega arith;
  writes = refl;
  after = tt;
  whole = of_third IsWhole (λ e. refl);
}
tasks_are (suc (suc (suc t))) lt = absurd (omega arith)

pub three_is_wiring : IsWiring three
three_is_wiring = record { few_channels = omega arith; few_tasks = omega arith; writers = writers_in; outputs = outputs; tasks = tasks_are }

pub three_are_wired : (w : Wiring) → w.writers ≡ three.writers → w.tasks ≡ three.tasks → IsWiring w
three_are_wired w e f = subst IsWiring (sym same) three_is_wiring
  where
    same : w ≡ three
    same = λ k. record { writers = e k; tasks = f k }
