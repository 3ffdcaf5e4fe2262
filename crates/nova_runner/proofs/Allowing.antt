-- What a store asks of a load's commit.
use Rattle.std.proofs.Common.{◌≡◌, ◌≢◌, inl, inr, ℕ, ◌+◌, ◌<◌, ◌≤◌, ◌^◌, ◌==◌, Bool, true, false, ◌&&◌, [], ◌∷◌, length, refl, ap, sym, ◌∙◌, subst, arith, sum_by, if◌then◌else◌}
use Rattle.std.specs.Prelude.{nat_lt, nat_le}
use Rattle.std.proofs.lemmas.Bool.Decides.{nat_tests}
use Rattle.nova_path.specs.Lists.{IsOneOf}
use Rattle.nova_path.specs.Intervals.{size_of}
use Rattle.nova_path.specs.declared.interval.Interval.{Interval}
use Rattle.nova_channel.specs.Reading.{AreNumbered}
use Rattle.nova_meta.specs.Catalog.{Entered, Shelved, allows, applied, bound, interval_of, may_rise, next_shelf, nothing_shelved, shelf_at, total}
use Rattle.nova_meta.specs.Named.{Channel, Content, Names, State as StatePart}
use Rattle.nova_meta.specs.Wired.{is_based, is_input}
use Rattle.nova_commit.specs.declared.commit.Commit.TheVariants as commit
use Rattle.nova_meta.proofs.Allowed.{and_both}
use Rattle.nova_meta.proofs.Sound.{sound_step}
use Rattle.nova_meta.proofs.Shelved.{placed_all}
use Rattle.nova_machine.specs.Workflow.{Workflow, is_input as flow_input}
use Rattle.nova_machine.proofs.Growth.{at_set}
use Rattle.nova_runner.specs.Acts.{has_room}
use Rattle.nova_runner.specs.Committing.{AreSpare}
use Rattle.nova_runner.specs.Files.{IsNamed, Piece}
use Rattle.nova_runner.specs.Readable.{IsReadable}
use Rattle.nova_runner.specs.Texts.{HasFlow}
use Rattle.nova_runner.specs.Workflow.{wiring_of}
use Rattle.nova_runner.specs.declared.ready.Fresh.{Fresh}
use Rattle.nova_runner.proofs.Leading.{which}
use Rattle.nova_runner.proofs.Flows.{input_known}

equal_itself : (n : ℕ) → (n == n) ≡ true
equal_itself n = grind (arith, nat_tests)

only_room : (a b c d x y z : Bool) → a ≡ true → b ≡ true → c ≡ true → d ≡ true → (a && (b && (c && ((d && x) && (y && z))))) ≡ (x && (y && z))
only_room true true true true x y z p q r s = refl
only_room false b c d x y z p q r s = cc
only_room true false c d x y z p q r s = cc
only_room true true false d x y z p q r s = cc
only_room true true true false x y z p q r s = cc

-- only room can keep a load's commit out
pub load_rules : (cat : Entered) (f : Workflow) (c size : ℕ) → HasFlow f.text f → flow_input f c ≡ true → cat.begun ≡ true → c < length cat.channels → cat.wiring ≡ wiring_of f → allows cat (commit.Load c cat.next size) ≡ has_room cat (commit.Load c cat.next size)
load_rules cat f c size read input begun below wired =
    only_room cat.begun (nat_lt c (length cat.channels)) (is_input cat.wiring c) (cat.next == cat.next) (nat_le (total (shelf_at cat c) + size) bound) (may_rise (shelf_at cat c).version) (nat_lt cat.next bound)
    begun (grind (arith, nat_tests)) (subst (λ w. is_input w c ≡ true) (sym wired) (input_known f read c ∙ input)) (equal_itself cat.next)

-- room for a load leaves its number below the bound
pub load_low : (cat : Entered) (c size : ℕ) → has_room cat (commit.Load c cat.next size) ≡ true → cat.next < 2 ^ 62
load_low cat c size room =
    let is : nat_lt cat.next bound ≡ true = (and_both (may_rise (shelf_at cat c).version) (nat_lt cat.next bound) (and_both (nat_le (total (shelf_at cat c) + size) bound) (may_rise (shelf_at cat c).version && nat_lt cat.next bound) room).1).1 in
    grind (arith, nat_tests)

-- and the sizes of its channel at the bound
load_fit : (cat : Entered) (c size : ℕ) → has_room cat (commit.Load c cat.next size) ≡ true → sum_by size_of (shelf_at cat c).intervals + size ≤ 2 ^ 62
load_fit cat c size room =
    let is : nat_le (total (shelf_at cat c) + size) bound ≡ true = (and_both (nat_le (total (shelf_at cat c) + size) bound) (may_rise (shelf_at cat c).version && nat_lt cat.next bound) room).0 in
    grind (arith, nat_tests)

-- and the number of the new version is in range
load_rise : (cat : Entered) (c size : ℕ) → has_room cat (commit.Load c cat.next size) ≡ true → (shelf_at cat c).version < 2 ^ 62
load_rise cat c size room =
    let counters = (and_both (nat_le (total (shelf_at cat c) + size) bound) (may_rise (shelf_at cat c).version && nat_lt cat.next bound) room).1 in
    let is : nat_lt (shelf_at cat c).version bound ≡ true = (and_both (may_rise (shelf_at cat c).version) (nat_lt cat.next bound) counters).0 in
    grind (arith, nat_tests)

-- what a catalog names behind a load's commit is below its next number again
pub below_next : (cat : Entered) (c size : ℕ) → ((p : Piece) → IsNamed cat p → p.block < cat.next) → (w : Content) (b z : ℕ) → Names (applied cat (commit.Load c cat.next size)) w b z → b < cat.next + 1
below_next cat c size below (StatePart t part) b z named = let lt = below (record { content = StatePart t part; block = b; size = z }) named in omega (arith, lt)
below_next cat c size below (Channel d i j) b z named = elim (which cat c size d (interval_of i j b z) named) as (λ _. b < cat.next + 1) [
  | inl old ↦ let lt = below (record { content = Channel d i j; block = b; size = z }) old in omega (arith, lt)
  | inr new ↦ let e = ap (λ (x : Interval). x.block) new.1 in omega (arith, e)
]

pub load_readable : (cat : Entered) (c size : ℕ) → IsReadable cat → has_room cat (commit.Load c cat.next size) ≡ true → allows cat (commit.Load c cat.next size) ≡ true → IsReadable (applied cat (commit.Load c cat.next size))
load_readable cat c size is room allowed =
    let low = load_low cat c size room in
    let based = is_based cat.wiring c in
    let sh = shelf_at cat c in
    record {
      below = λ p named. below_next cat c size is.below p.content p.block p.size named;
      numbered = at_set (λ n (k : Shelved). AreNumbered k.intervals) cat.channels c (next_shelf based sh cat.next size) nothing_shelved is.numbered
          (placed_all (λ (x : Interval). x.block < 2 ^ 62) (interval_of (if based then 0 else sh.version) (sh.version + 1) cat.next size) sh.intervals low (is.numbered c));
      sound = sound_step cat.wiring cat (commit.Load c cat.next size) is.sound allowed;
      timely = is.timely;
    }

pub load_spare : (cat : Entered) (c size : ℕ) (fresh : Fresh) → IsReadable cat → has_room cat (commit.Load c cat.next size) ≡ true → fresh.block ≡ cat.next → AreSpare cat (commit.Load c cat.next size) (fresh ∷ [])
load_spare cat c size fresh is room number = record {
  brings = λ i. number i ∷ [];
  spare = λ p f named one. elim one as (λ _. f.block ≢ p.block) [
    | inl e ↦ λ same. let lt = is.below p named in let n = ap (λ (g : Fresh). g.block) e in omega (arith, lt, n, same, number)
    | inr none ↦ absurd none
  ];
  apart = λ f g one other same. only f one ∙ sym (only g other);
  low = (let lt = load_low cat c size room in omega (arith, lt, number), tt);
}
  where
    only : (f : Fresh) → IsOneOf (fresh ∷ []) f → f ≡ fresh
    only f (inl e) = sym e
    only f (inr none) = absurd none
