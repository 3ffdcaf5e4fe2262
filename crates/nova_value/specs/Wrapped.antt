-- Whole numbers as numbers of 64 bits, in two's complement.
use Rattle.std.specs.Prelude.{◌≡◌, ◌^◌, ℤ, pos, ◌+ℤ◌, ◌*ℤ◌}
use Rattle.std.specs.Int.{int_wrap, w64}
use Rattle.nova_value.specs.Rows.{IsLong}

-- the number of 64 bits that is congruent to x modulo 2^64
abbrev pub wrapped : ℤ → ℤ
wrapped x = int_wrap w64 x

-- n has 64 bits, and differs from x by a multiple of 2^64
pub record IsWrapped (x n : ℤ) : Type 0 where
  pub long : IsLong n
  pub times : ℤ
  pub congruent : x ≡ n +ℤ times *ℤ pos (2 ^ 64)
