-- What a call did to a host that did nothing but reply.
use Rattle.std.specs.Prelude.{◌≡◌, ℕ, List, ◌++◌, Result}
use Rattle.std.specs.Result.{MatchResult}
use Rattle.nova_outside.specs.declared.Host as host
use Rattle.nova_outside.specs.Causes.{HasCause}
use Rattle.nova_outside.specs.Replies.{Gives, GivesInPart}
use Rattle.nova_script.specs.Buffered.{Holds}

-- A call did nothing but reply. `Whole` is so of the replies where it succeeded, and `Part` where it failed, which it did only where the count of failed replies rose.
pub record OnlyReplies {D T E : Type 0} (H : host.Ghosts D) (old new : D) (Whole Part : Type 0) (result : Result T E) : Type 0 where
  pub given : MatchResult result (λ _. Whole) (λ _. Part)
  pub cause : HasCause (H.reply_faults old) (H.reply_faults new) result
  pub disk_faults : H.disk_faults new ≡ H.disk_faults old
  pub bytes_read : H.bytes_read new ≡ H.bytes_read old

-- it gave these bytes, or a front of them
abbrev pub Replies : {D T E : Type 0} → host.Ghosts D → D → D → List ℕ → Result T E → Type 0
Replies H old new bytes result =
    OnlyReplies H old new (Gives H.is_honest (H.history old) (H.history new) bytes) (GivesInPart H.is_honest (H.history old) (H.history new) bytes) result

-- it gave what a buffer held and these bytes, as far as they aren't held now, or a front of both
abbrev pub Pushes : {D T E : Type 0} → host.Ghosts D → D → D → List ℕ → List ℕ → List ℕ → Result T E → Type 0
Pushes H old new held left bytes result =
    OnlyReplies H old new (Holds H.is_honest (H.history old) (H.history new) held left bytes) (GivesInPart H.is_honest (H.history old) (H.history new) (held ++ bytes)) result
