use Rattle.nova_state_part.proofs.Parts.{damage_cause, damage_told}
use Rattle.nova_state_part.proofs.file.decoded.Goals as goal

pub returns-in-Err : goal.returns-in-Err
returns-in-Err c = record {
  found = tt;
  told = rw c.damage.ensures (damage_told c.args.sorts.now c.args.bytes.now c.in-Err.fault c.args.file c.in-Err.ensures.refused);
  cause = rw c.damage.ensures (damage_cause c.in-Err.fault c.args.file);
}
