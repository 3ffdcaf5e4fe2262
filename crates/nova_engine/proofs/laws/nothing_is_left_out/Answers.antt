use Rattle.nova_engine.proofs.LeftOut as left_out
use Rattle.nova_engine.proofs.laws.nothing_is_left_out.Goals as goal

pub returns-clause-damage : goal.returns-clause-damage
returns-clause-damage c = left_out.no_damage_where_files_stand

pub returns-clause-complete : goal.returns-clause-complete
returns-clause-complete c = left_out.complete
