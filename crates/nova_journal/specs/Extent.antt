-- What an open journal is seen as.
use Rattle.std.specs.Prelude.{ℕ, ◌<◌, ◌≤◌, ◌^◌}

-- its generation and its length
pub record Extent : Type 0 where
  pub generation : ℕ
  pub length : ℕ

-- There is a gate, and both have their bounds.
pub record IsExtent (e : Extent) : Type 0 where
  pub gated : 1 ≤ e.length
  pub bounded : e.length < 2 ^ 63
  pub numbered : e.generation < 2 ^ 62
