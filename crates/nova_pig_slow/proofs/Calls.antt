-- What calls give of no members, and of one more.
use Rattle.std.proofs.Common.{◌≡◌, ℕ, ℤ, pos, of_z, to_z, ◌+◌, ◌+ℤ◌, List, [], ◌∷◌, ◌++◌, Option, Some, None, refl, ap, arith}
use Rattle.std.proofs.lemmas.Int.{SFits-int_wrap, int_wrap-add_left, int_wrap_fits, ints, to_z-of_z}
use Rattle.std.specs.Int.{w64}
use Rattle.nova_value.specs.declared.value.Value.TheVariants.{Long}
use Rattle.nova_value.specs.Wrapped.{wrapped}
use Rattle.nova_pig_tree.specs.declared.expression.CallKind.{CallKind}
use Rattle.nova_pig_tree.specs.declared.expression.CallKind.TheVariants as kind
use Rattle.nova_pig_algebra.specs.Meaning.{calls_over, kind_over, no_calls, total}

wrapped_none : wrapped (pos 0) ≡ pos 0
wrapped_none = int_wrap_fits w64 (pos 0) (omega arith)

none_over : (k : CallKind) (column : Option ℕ) → kind_over k column [] ≡ Long (pos 0)
none_over kind.Count column = ap Long wrapped_none
none_over kind.Sum None = ap Long wrapped_none
none_over kind.Sum (Some k) = ap Long wrapped_none
none_over kind.Min None = refl
none_over kind.Min (Some k) = refl
none_over kind.Max None = refl
none_over kind.Max (Some k) = refl

-- over no members each call gives what it gives over a row
pub over_none : calls_over [] ≡ no_calls
over_none = λ i c. none_over c.kind c.column i

pub total_more : (ns : List ℤ) (n : ℤ) → total (ns ++ n ∷ []) ≡ total ns +ℤ n
total_more [] n = omega (arith, ints)
total_more (m ∷ ns) n = let rest = total_more ns n in omega (arith, ints, rest)

pub wrapped_more : (a b : ℤ) → wrapped (wrapped a +ℤ b) ≡ wrapped (a +ℤ b)
wrapped_more a b = int_wrap-add_left w64 a b

-- the bits of a wrapped number read back
pub wrapped_again : (x : ℤ) → to_z w64 (of_z w64 (wrapped x)) ≡ wrapped x
wrapped_again x = to_z-of_z w64 (wrapped x) (SFits-int_wrap w64 x)

pub one_more : (n : ℕ) → pos n +ℤ pos 1 ≡ pos (n + 1)
one_more n = omega (arith, ints)
