use Rattle.std.specs.Prelude.{ℕ}
use Rattle.nova_journal.specs.declared.format_fault.FormatFault.{FormatFault}
use Rattle.nova_journal.specs.declared.format_fault.FormatFault.TheVariants.{At, NoMemory}

abbrev pub OnDamage : (ℕ → Type 0) → FormatFault → Type 0
OnDamage P (At at) = P at
OnDamage P NoMemory = Unit {0}
