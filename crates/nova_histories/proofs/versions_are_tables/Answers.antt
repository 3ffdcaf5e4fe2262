use Rattle.nova_histories.proofs.Tables as tables
use Rattle.nova_histories.proofs.versions_are_tables.Goals as goal

pub returns-clause-tables : goal.returns-clause-tables
returns-clause-tables c = tables.versions_are_tables

pub returns-clause-keys : goal.returns-clause-keys
returns-clause-keys c = tables.written_keys_fit

pub returns-clause-blocks : goal.returns-clause-blocks
returns-clause-blocks c = tables.blocks_are_deltas
