-- The room of a load, told before its block is written.
use Rattle.std.proofs.Common.{◌≡◌, inl, inr, ℕ, ◌+◌, ◌-◌, ◌<◌, ◌≤◌, ◌^◌, true, false, ◌&&◌, length, min, refl, ap, sym, ◌∙◌, arith}
use Rattle.std.specs.Prelude.{nat_le, nat_lt}
use Rattle.std.proofs.lemmas.Bool.Decides.{nat_tests}
use Rattle.nova_delta.specs.Merge.{DeltaValue}
use Rattle.nova_journal.specs.Log.{frame, length_bytes}
use Rattle.nova_row_codec.specs.Spelling.{spelling_of, told_length}
use Rattle.nova_commit.specs.Commits.{commit_bytes}
use Rattle.nova_commit.specs.declared.commit.Commit.TheVariants as commit
use Rattle.nova_meta.specs.Catalog.{Entered, allows, bound, shelf_at, total}
use Rattle.nova_machine.specs.Workflow.{is_input}
use Rattle.nova_runner.specs.Acts.{IsFull, has_room, load_block, load_commit}
use Rattle.nova_runner.specs.Held.{Held}
use Rattle.nova_runner.specs.Readable.{IsKept}
use Rattle.nova_runner.proofs.Allowing.{load_rules}

load_frame : (c b z : ℕ) → length (frame (commit_bytes (commit.Load c b z))) ≡ 30
unfolding commit_bytes length_bytes
load_frame c b z = refl

-- what 64 bits don't tell is past the bound
told_fits : (t n : ℕ) → nat_le (t + min n (2 ^ 64 - 1)) bound ≡ nat_le (t + n) bound
told_fits t n = grind (arith, nat_tests)

told_room : (cat : Entered) (c n : ℕ) → has_room cat (commit.Load c cat.next (min n (2 ^ 64 - 1))) ≡ has_room cat (commit.Load c cat.next n)
told_room cat c n = ap (λ b. b && (nat_lt (shelf_at cat c).version bound && nat_lt cat.next bound)) (told_fits (total (shelf_at cat c)) n)

module _ (store : Held) (channel : ℕ) (delta : DeltaValue) (kept : IsKept store) (input : is_input store.flow channel ≡ true) (below : channel < length store.catalog.channels) where
  abbrev pub size : ℕ
  size = length (spelling_of (load_block store.catalog channel delta))

  long : length (frame (commit_bytes (load_commit store.catalog channel delta))) ≡ 30
  long = load_frame channel store.catalog.next size

  rules : allows store.catalog (commit.Load channel store.catalog.next (told_length (spelling_of (load_block store.catalog channel delta)))) ≡ has_room store.catalog (load_commit store.catalog channel delta)
  rules = load_rules store.catalog store.flow channel (min size (2 ^ 64 - 1)) kept.read input kept.begun below kept.wired ∙ told_room store.catalog channel size

  pub long_full : 2 ^ 62 < store.journal.length + 30 → IsFull store.journal.length store.catalog (load_commit store.catalog channel delta)
  long_full past = inl (omega (arith, past, long))

  pub counter_full : allows store.catalog (commit.Load channel store.catalog.next (told_length (spelling_of (load_block store.catalog channel delta)))) ≡ false → IsFull store.journal.length store.catalog (load_commit store.catalog channel delta)
  counter_full not_allowed = inr (sym rules ∙ not_allowed)

  pub not_full : store.journal.length + 30 ≤ 2 ^ 62 → allows store.catalog (commit.Load channel store.catalog.next (told_length (spelling_of (load_block store.catalog channel delta)))) ≡ true → IsFull store.journal.length store.catalog (load_commit store.catalog channel delta) → ⊥
  not_full room allowed (inl past) = omega (arith, room, past, long)
  not_full room allowed (inr full) = let both : true ≡ false = sym allowed ∙ rules ∙ full in cc
