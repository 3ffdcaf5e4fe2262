-- What is seen of a host: what was done to it, and how many bytes were read from its files.
use Rattle.std.specs.Prelude.{ℕ, List}
use Rattle.nova_outside.specs.declared.Host as host
use Rattle.nova_outside.specs.History.{Event}

pub record Seen : Type 0 where
  pub history : List Event
  pub read : ℕ

abbrev pub seen : {D : Type 0} → host.Ghosts D → D → Seen
seen H d = record { history = H.history d; read = H.bytes_read d }
