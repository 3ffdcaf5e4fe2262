-- Files have one greatest mark, and a journal one list of payloads.
use Rattle.std.proofs.Common.{◌≡◌, ◌⊎◌, inl, inr, ℕ, ◌<◌, List, Option, Some, None, sym, ◌∙◌, subst, arith}
use Rattle.std.specs.Prelude.{IsSome}
use Rattle.nova_outside.specs.Disk.{Files}
use Rattle.nova_journal.specs.Log.{IsLog, IsReadTo, Log}
use Rattle.nova_journal.specs.Marks.{IsMark}
use Rattle.nova_journal.proofs.OneWay.{one_log}

pub some_is : {A : Type 0} (x y : A) → Some x ≡ Some y → x ≡ y
some_is x y e = cc

none_there : IsSome {T = List ℕ} None → ⊥
none_there is = cc

pub one_mark : (files : Files) (x y : ℕ) → IsMark files (Some x) → IsMark files (Some y) → x ≡ y
one_mark files x y one other = elim (three x y) as (λ _. x ≡ y) [
  | inl e ↦ e
  | inr (inl below) ↦ absurd (none_there (subst IsSome (one.1 y below) other.0))
  | inr (inr above) ↦ absurd (none_there (subst IsSome (other.1 x above) one.0))
]
  where
    three : (m n : ℕ) → (m ≡ n) ⊎ ((m < n) ⊎ (n < m))
    three m n = grind arith

pub none_or_one : (files : Files) (x : ℕ) → IsMark files None → IsMark files (Some x) → ⊥
none_or_one files x none one = none_there (subst IsSome (none x) one.0)

pub one_journal : (c : Option (List ℕ)) (ps qs : List (List ℕ)) → IsLog ps c → IsLog qs c → ps ≡ qs
one_journal c ps qs (f, is, one) (g, also, other) =
    one_log f ps qs one (subst (Log qs) (some_is g f (sym also ∙ is)) other)

pub one_reading : (c : Option (List ℕ)) (end to : ℕ) (ps qs : List (List ℕ)) → IsReadTo end ps c → IsReadTo to qs c → ps ≡ qs
one_reading c end to ps qs (f, is, one) (g, also, other) = one_journal c ps qs (f, is, one.log) (g, also, other.log)
