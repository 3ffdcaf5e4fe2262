use Rattle.nova_session_laws.proofs.Keys.{loads_write_their_keys as loads_write_their_keys_law}
use Rattle.nova_session_laws.proofs.loads_write_their_keys.Goals as goal

pub returns : goal.returns
returns c = loads_write_their_keys_law
