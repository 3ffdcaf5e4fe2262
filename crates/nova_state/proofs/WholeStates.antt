-- A state by its parts and as a whole.
use Rattle.std.specs.Prelude.{◌≡◌}
use Rattle.std.proofs.Common.{ap, sym, ◌∙◌, arith, refl}
use Rattle.nova_delta.specs.Merge.{RowMap}
use Rattle.nova_pig_algebra.specs.Plan.{Plan}
use Rattle.nova_groups.specs.State.{StateValue}
use Rattle.nova_groups.specs.Parts.{part, part_of}
use Rattle.nova_groups.proofs.Slots.{first_is_whole}
use Rattle.nova_state.specs.Advance.{state_of, IsStateOf}

pub state_is : (p : Plan) (st : StateValue) (m : RowMap) → IsStateOf p st m → st ≡ state_of p m
state_is p st m is = sym (first_is_whole st) ∙ is 0 (omega arith) (part_of part 0 st) refl ∙ first_is_whole (state_of p m)

pub is_state : (p : Plan) (st : StateValue) (m : RowMap) → st ≡ state_of p m → IsStateOf p st m
is_state p st m is s lt held e = let same : part_of part s st ≡ held = cc in sym same ∙ ap (part_of part s) is
