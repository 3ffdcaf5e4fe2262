use Rattle.nova_pig_pattern.proofs.Tabled.{patterns_are_the_table, admission_is_the_table}
use Rattle.nova_pig_pattern.proofs.laws.patterns_are_the_table.Goals as goal

pub returns : goal.returns
returns c = record { patterns = patterns_are_the_table; admission = admission_is_the_table }
