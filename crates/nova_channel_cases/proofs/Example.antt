-- The workflow of one channel is one; intervals whose blocks have files; a path that was found.
use Rattle.std.proofs.Common.{◌≡◌, ℕ, zero, suc, ◌<◌, ◌^◌, true, List, [], ◌∷◌, get_or, IfSome, Option, Some, None, refl, sym, subst, ap, ◌∙◌, arith}
use Rattle.std.specs.Prelude.{nat_lt, is_some, option_map}
use Rattle.std.specs.List.{list_all}
use Rattle.nova_path.specs.declared.interval.Interval.{Interval}
use Rattle.nova_path.specs.declared.interval.Chosen.{Chosen}
use Rattle.nova_path.specs.Shelf.{HasPath, Span}
use Rattle.nova_path.specs.Intervals.{spans}
use Rattle.nova_path.specs.Choice.{path_in}
use Rattle.nova_meta.specs.Catalog.{Shelved}
use Rattle.nova_meta.specs.Shelves.{IsShelved}
use Rattle.nova_meta.proofs.Allowed.{and_both, is_less}
use Rattle.nova_meta.proofs.Sound.{leads_path}
use Rattle.nova_channel.specs.Reading.{AreNumbered}
use Rattle.nova_channel_cases.specs.Examples.{is_low, one_input}
use Rattle.nova_meta.specs.Wired.{IsWiring, writer_of}
use Rattle.nova_meta.specs.declared.wiring.Wiring.{Wiring}

no_writer : (c t : ℕ) → writer_of one_input c ≡ Some t → ⊥
no_writer zero t e = cc
no_writer (suc c) t e = cc

no_task : (t : ℕ) → t < 0 → ⊥
no_task t lt = omega (arith, lt)

one_is_wiring : IsWiring one_input
one_is_wiring = record {
  few_channels = omega arith;
  few_tasks = omega arith;
  writers = writers;
  outputs = λ c t e. absurd (no_writer c t e);
  tasks = λ t lt. absurd (no_task t lt);
}
  where
    writers : (k : ℕ) (d : Option ℕ) → k < 1 → IfSome (get_or one_input.writers k d) (λ t. t < 0)
    writers zero d lt = tt
    writers (suc k) d lt = absurd (omega arith)

pub one_is_wired : (w : Wiring) → w.writers ≡ one_input.writers → w.tasks ≡ one_input.tasks → IsWiring w
one_is_wired w e f = subst IsWiring (sym same) one_is_wiring
  where
    same : w ≡ one_input
    same = λ k. record { writers = e k; tasks = f k }

pub numbered : (xs : List Interval) → list_all is_low xs ≡ true → AreNumbered xs
numbered [] e = tt
numbered (x ∷ xs) e = let parts = and_both (is_low x) (list_all is_low xs) e in (is_less x.block (2 ^ 62) parts.0, numbered xs parts.1)

pub path_found : (s : Shelved) → IsShelved s → (i j : ℕ) (steps : Chosen → List Span) (found : Option Chosen) → path_in s.intervals i j ≡ option_map steps found → is_some found ≡ true → HasPath (spans s.intervals) i j
path_found s is i j steps found e told = leads_path s is i j (ap is_some e ∙ some found told)
  where
    some : (o : Option Chosen) → is_some o ≡ true → is_some (option_map steps o) ≡ true
    some (Some x) h = refl
    some None h = h
