-- The command that a place of the drill gives.
use Rattle.std.proofs.Common.{◌≡◌, ℕ, zero, suc, ◌+◌, ◌-◌, ◌*◌, ◌<◌, ◌≤◌, List, [], ◌∷◌, ◌++◌, drop, slice_index_or, refl, sym, ap, ◌∙◌, subst, arith}
use Rattle.std.proofs.Math.Seq.{drop-nil}
use Rattle.nova_script.specs.declared.command.Command.TheVariants as command
use Rattle.nova_delta.specs.Merge.{DeltaValue}
use Rattle.nova_drill.specs.declared.drill.DrillStep.{DrillStep}
use Rattle.nova_drill.specs.declared.drill.DrillStep.TheVariants.{LoadRows, Do}
use Rattle.nova_drill.specs.declared.drill.Next.{Next}
use Rattle.nova_drill.specs.declared.drill.Next.TheVariants as next
use Rattle.nova_drill.specs.Entries.{raw_load}
use Rattle.nova_drill.specs.Numbers.{number_after}
use Rattle.nova_drill.specs.Places.{IsInRound, Place, later_rounds, left, left_from}
use Rattle.nova_drill.specs.Steps.{channels, compactions, kept_behind, rounds}

-- ---- a load

one_more : (round count : ℕ) → round ≤ count → count + 1 - round ≡ suc (count - round)
one_more round count le = omega (arith, le)

pub load_given : (p : Place) (delta : DeltaValue) (last : ℕ) → p.next ≡ next.Raw → p.round ≤ p.count → delta ≡ raw_load p.number → last ≡ number_after 8 p.number
    → left p ≡ LoadRows 0 delta ∷ Do (command.Tick (10 * p.round)) ∷ Do command.Work ∷ kept_behind p.round (rounds (p.count - p.round) (p.round + 1) last)
load_given p delta last next_is le delta_is last_is =
    subst (λ (d : DeltaValue). left p ≡ LoadRows 0 d ∷ Do (command.Tick (10 * p.round)) ∷ Do command.Work ∷ kept_behind p.round (rounds (p.count - p.round) (p.round + 1) last)) (sym delta_is)
    (subst (λ (l : ℕ). left p ≡ LoadRows 0 (raw_load p.number) ∷ Do (command.Tick (10 * p.round)) ∷ Do command.Work ∷ kept_behind p.round (rounds (p.count - p.round) (p.round + 1) l)) (sym last_is)
    (ap (left_from p) next_is ∙ ap (λ (n : ℕ). rounds n p.round p.number) (one_more p.round p.count le)))

-- ---- a compaction

pub is_channel : (p : Place) (n : Next) (c : ℕ) → n ≡ next.Compact c → IsInRound p n → c < 6
is_channel p n c is here = (subst (IsInRound p) is here).1

next_channel : (c : ℕ) → c < 6 → drop c compactions ≡ Do (command.Compact (slice_index_or channels c [])) ∷ drop (c + 1) compactions
next_channel zero less = refl
next_channel (suc zero) less = refl
next_channel (suc (suc zero)) less = refl
next_channel (suc (suc (suc zero))) less = refl
next_channel (suc (suc (suc (suc zero)))) less = refl
next_channel (suc (suc (suc (suc (suc zero))))) less = refl
next_channel (suc (suc (suc (suc (suc (suc c)))))) less = absurd (omega (arith, less))

no_channel : (c : ℕ) → 6 ≤ c → drop c compactions ≡ []
no_channel zero all = absurd (omega (arith, all))
no_channel (suc zero) all = absurd (omega (arith, all))
no_channel (suc (suc zero)) all = absurd (omega (arith, all))
no_channel (suc (suc (suc zero))) all = absurd (omega (arith, all))
no_channel (suc (suc (suc (suc zero)))) all = absurd (omega (arith, all))
no_channel (suc (suc (suc (suc (suc zero))))) all = absurd (omega (arith, all))
no_channel (suc (suc (suc (suc (suc (suc c)))))) all = drop-nil c

-- the compaction of this channel, and then the rest
abbrev Compacts : Place → ℕ → List ℕ → Place → Type 0
Compacts p c name q = left p ≡ Do (command.Compact name) ∷ left q

first_of_them : (p : Place) (c : ℕ) (name : List ℕ) → c < 6 → p.next ≡ next.Compact c → name ≡ slice_index_or channels c []
    → left p ≡ Do (command.Compact name) ∷ (drop (c + 1) compactions ++ Do command.Collect ∷ later_rounds p)
first_of_them p c name less next_is name_is =
    subst (λ (n : List ℕ). left p ≡ Do (command.Compact n) ∷ (drop (c + 1) compactions ++ Do command.Collect ∷ later_rounds p)) (sym name_is)
    (ap (left_from p) next_is ∙ ap (λ (steps : List DrillStep). steps ++ Do command.Collect ∷ later_rounds p) (next_channel c less))

pub another_left : (p q : Place) (c : ℕ) (name : List ℕ) → c < 6 → p.next ≡ next.Compact c → name ≡ slice_index_or channels c [] → q ≡ record p { next = next.Compact (c + 1) } → Compacts p c name q
another_left p q c name less next_is name_is is = subst (Compacts p c name) (sym is) (first_of_them p c name less next_is name_is)

pub last_done : (p q : Place) (c : ℕ) (name : List ℕ) → c < 6 → 6 ≤ c + 1 → p.next ≡ next.Compact c → name ≡ slice_index_or channels c [] → q ≡ record p { next = next.Collect } → Compacts p c name q
last_done p q c name less all next_is name_is is =
    subst (Compacts p c name) (sym is)
    (first_of_them p c name less next_is name_is ∙ ap (λ (steps : List DrillStep). Do (command.Compact name) ∷ (steps ++ Do command.Collect ∷ later_rounds p)) (no_channel (c + 1) all))
