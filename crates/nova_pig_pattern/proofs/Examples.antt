-- The output keys that are worked out, by the definitions alone.
use Rattle.std.proofs.Common.{refl}
use Rattle.nova_pig_algebra.specs.Tree.{trees_after}
use Rattle.nova_pig_pattern.specs.Worked.{FilteredKey, KeyOfEachArm, JoinedKey, KeyInItsOrder}

pub filtered_key : FilteredKey
unfolding trees_after
filtered_key cond = refl

pub key_of_each_arm : KeyOfEachArm
unfolding trees_after
key_of_each_arm cond = refl

pub joined_key : JoinedKey
unfolding trees_after
joined_key = refl

pub key_in_its_order : KeyInItsOrder
unfolding trees_after
key_in_its_order = refl
