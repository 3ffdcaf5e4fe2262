use Rattle.nova_engine.proofs.HasRoom as room
use Rattle.nova_engine.proofs.laws.sessions_have_room.Goals as goal

pub returns-clause-turns : goal.returns-clause-turns
returns-clause-turns c = room.room_is_by_turns

pub returns-clause-none : goal.returns-clause-none
returns-clause-none c = room.no_commits_have_room

pub returns-clause-loads : goal.returns-clause-loads
returns-clause-loads c = room.loads_have_room
