-- What a run that is allowed keeps.
use Rattle.std.proofs.Common.{◌≡◌, ◌≢◌, ℕ, suc, ◌+◌, ◌<◌, ◌≤◌, ◌==◌, Bool, true, false, not, ◌&&◌, List, [], ◌∷◌, length, Option, refl, ap, sym, arith}
use Rattle.std.specs.Prelude.{nat_le, nat_lt}
use Rattle.std.proofs.lemmas.Bool.Decides.{nat_tests}
use Rattle.nova_path.specs.Shelf.{is_in}
use Rattle.nova_path.specs.Intervals.{spans}
use Rattle.nova_path.proofs.Paths.{same_number}
use Rattle.nova_meta.specs.declared.captured.Captured.{Captured}
use Rattle.nova_commit.specs.declared.commit.PartFile.{PartFile}
use Rattle.nova_commit.specs.declared.commit.Commit.TheVariants.{Load, Run, Joined}
use Rattle.nova_meta.specs.declared.wiring.Edge.{Edge}
use Rattle.nova_meta.specs.Wired.{is_input, wire_at}
use Rattle.nova_meta.specs.Catalog.{Entered, allows, bound, is_channel, is_task, is_timely, may_join, total, may_add, may_have_parts, may_parts, may_rise, may_run, may_see, may_see_all, may_write, progress_at, shelf_at}

pub and_both : (a b : Bool) → (a && b) ≡ true → (a ≡ true) × (b ≡ true)
and_both true b e = (refl, e)
and_both false b e = cc

pub is_less : (a b : ℕ) → nat_lt a b ≡ true → a < b
is_less a b e = grind (arith, nat_tests)

-- one version for each input
pub seen_each : (cat : Entered) (last : Option Captured) (k : ℕ) (es : List Edge) (vs : List ℕ) → may_see_all cat last k es vs ≡ true → length vs ≡ length es
seen_each cat last k [] [] e = refl
seen_each cat last k [] (v ∷ vs) e = cc
seen_each cat last k (x ∷ es) [] e = cc
seen_each cat last k (x ∷ es) (v ∷ vs) e = ap suc (seen_each cat last (suc k) es vs (and_both (may_see cat last k x v) (may_see_all cat last (suc k) es vs) e).1)

pub seen_not_each : (cat : Entered) (last : Option Captured) (es : List Edge) (vs : List ℕ) → length es ≢ length vs → false ≡ may_see_all cat last 0 es vs
seen_not_each cat last es vs ne = by_case (may_see_all cat last 0 es vs) refl
  where
    by_case : (b : Bool) → may_see_all cat last 0 es vs ≡ b → false ≡ may_see_all cat last 0 es vs
    by_case true e = absurd (ne (sym (seen_each cat last 0 es vs e)))
    by_case false e = sym e

pub is_at_most : (a b : ℕ) → nat_le a b ≡ true → a ≤ b
is_at_most a b e = grind (arith, nat_tests)

pub record LoadKeeps (cat : Entered) (c block size : ℕ) : Type 0 where
  pub channel : c < length cat.channels
  pub number : block ≡ cat.next
  pub room : total (shelf_at cat c) + size ≤ bound
  pub grow : (shelf_at cat c).version < bound
  pub next : cat.next < bound

pub load_keeps : (cat : Entered) (c block size : ℕ) → allows cat (Load c block size) ≡ true → LoadKeeps cat c block size
load_keeps cat c block size e =
    let s = shelf_at cat c in
    let a = and_both cat.begun (is_channel cat c && (is_input cat.wiring c && (may_add cat c block size && (may_rise s.version && may_rise cat.next)))) e in
    let b = and_both (is_channel cat c) (is_input cat.wiring c && (may_add cat c block size && (may_rise s.version && may_rise cat.next))) a.1 in
    let d = and_both (is_input cat.wiring c) (may_add cat c block size && (may_rise s.version && may_rise cat.next)) b.1 in
    let f = and_both (may_add cat c block size) (may_rise s.version && may_rise cat.next) d.1 in
    let g = and_both (may_rise s.version) (may_rise cat.next) f.1 in
    let room = and_both (block == cat.next) (nat_le (total s + size) bound) f.0 in
    record { channel = is_less c (length cat.channels) b.0; number = same_number block cat.next room.0; room = is_at_most (total s + size) bound room.1; grow = is_less s.version bound g.0; next = is_less cat.next bound g.1 }

pub record JoinKeeps (cat : Entered) (c from to block size : ℕ) : Type 0 where
  pub channel : c < length cat.channels
  pub number : block ≡ cat.next
  pub rises : from < to
  pub low : to ≤ (shelf_at cat c).version
  pub absent : is_in (spans (shelf_at cat c).intervals) (record { from = from; to = to }) ≡ false
  pub room : total (shelf_at cat c) + size ≤ bound
  pub next : cat.next < bound

not_true : (b : Bool) → not b ≡ true → b ≡ false
not_true true e = cc
not_true false e = refl

pub join_keeps : (cat : Entered) (c from to block size : ℕ) → allows cat (Joined c from to block size) ≡ true → JoinKeeps cat c from to block size
join_keeps cat c from to block size e =
    let s = shelf_at cat c in
    let there = is_in (spans s.intervals) (record { from = from; to = to }) in
    let a = and_both cat.begun (is_channel cat c && may_join cat c from to block size) e in
    let b = and_both (is_channel cat c) (may_join cat c from to block size) a.1 in
    let d = and_both (nat_lt from to) (nat_le to s.version && (not there && (may_add cat c block size && may_rise cat.next))) b.1 in
    let f = and_both (nat_le to s.version) (not there && (may_add cat c block size && may_rise cat.next)) d.1 in
    let g = and_both (not there) (may_add cat c block size && may_rise cat.next) f.1 in
    let h = and_both (may_add cat c block size) (may_rise cat.next) g.1 in
    let room = and_both (block == cat.next) (nat_le (total s + size) bound) h.0 in
    record {
      channel = is_less c (length cat.channels) b.0;
      number = same_number block cat.next room.0;
      rises = is_less from to d.0;
      low = is_at_most to s.version f.0;
      absent = not_true there g.0;
      room = is_at_most (total s + size) bound room.1;
      next = is_less cat.next bound h.1;
    }

pub record RunKeeps (cat : Entered) (t : ℕ) (versions : List ℕ) (block size : ℕ) (parts : List PartFile) : Type 0 where
  pub task : t < length cat.tasks
  pub each : length versions ≡ length (wire_at cat.wiring t).inputs
  pub add : may_add cat (wire_at cat.wiring t).output block size ≡ true
  pub grow : may_rise (shelf_at cat (wire_at cat.wiring t).output).version ≡ true
  pub runs : (progress_at cat t).runs < bound
  pub next : cat.next + length parts < bound
  pub kept : may_have_parts (wire_at cat.wiring t).stateful parts ≡ true
  pub numbers : may_parts 0 (cat.next + 1) parts ≡ true
  pub seen : may_see_all cat (progress_at cat t).last 0 (wire_at cat.wiring t).inputs versions ≡ true

pub run_keeps : (cat : Entered) (t : ℕ) (versions : List ℕ) (moment seen block size : ℕ) (parts : List PartFile) → allows cat (Run t versions moment seen block size parts) ≡ true → RunKeeps cat t versions block size parts
run_keeps cat t versions moment seen block size parts e =
    let wire = wire_at cat.wiring t in
    let a = and_both cat.begun (is_task cat t && may_run cat t versions moment seen block size parts) e in
    let b = and_both (is_task cat t) (may_run cat t versions moment seen block size parts) a.1 in
    let c = and_both (is_timely cat t moment seen) (may_write cat t block size parts && may_see_all cat (progress_at cat t).last 0 wire.inputs versions) b.1 in
    let d = and_both (may_write cat t block size parts) (may_see_all cat (progress_at cat t).last 0 wire.inputs versions) c.1 in
    let f = and_both (may_add cat wire.output block size) (may_rise (shelf_at cat wire.output).version && (may_rise (progress_at cat t).runs && (may_rise (cat.next + length parts) && (may_have_parts wire.stateful parts && may_parts 0 (cat.next + 1) parts)))) d.0 in
    let g = and_both (may_rise (shelf_at cat wire.output).version) (may_rise (progress_at cat t).runs && (may_rise (cat.next + length parts) && (may_have_parts wire.stateful parts && may_parts 0 (cat.next + 1) parts))) f.1 in
    let h = and_both (may_rise (progress_at cat t).runs) (may_rise (cat.next + length parts) && (may_have_parts wire.stateful parts && may_parts 0 (cat.next + 1) parts)) g.1 in
    let i = and_both (may_rise (cat.next + length parts)) ((may_have_parts wire.stateful parts && may_parts 0 (cat.next + 1) parts)) h.1 in
    record {
      task = is_less t (length cat.tasks) b.0;
      each = seen_each cat (progress_at cat t).last 0 wire.inputs versions d.1;
      add = f.0;
      grow = g.0;
      runs = is_less (progress_at cat t).runs bound h.0;
      next = is_less (cat.next + length parts) bound i.0;
      kept = (and_both (may_have_parts wire.stateful parts) (may_parts 0 (cat.next + 1) parts) i.1).0;
      numbers = (and_both (may_have_parts wire.stateful parts) (may_parts 0 (cat.next + 1) parts) i.1).1;
      seen = d.1;
    }
