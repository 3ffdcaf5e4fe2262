use Rattle.nova_pig_pattern.proofs.Examples.{filtered_key, key_of_each_arm, joined_key, key_in_its_order}
use Rattle.nova_pig_pattern.proofs.laws.output_keys_are_worked.Goals as goal

pub returns : goal.returns
returns c = record { filtered = filtered_key; arms = key_of_each_arm; joined = joined_key; order = key_in_its_order }
