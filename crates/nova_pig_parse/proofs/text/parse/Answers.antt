use Rattle.nova_pig_parse.proofs.Faults.{ok_found, ok_complete, err_found, err_complete}
use Rattle.nova_pig_parse.proofs.text.parse.Goals as goal

pub returns-clause-script : goal.returns-clause-script
returns-clause-script c = ok_found c.args.text.now _ c.script_of.ensures

pub returns-clause-read : goal.returns-clause-read
returns-clause-read c = ok_complete c.args.text.now _ c.script_of.ensures

pub returns-clause-fault : goal.returns-clause-fault
returns-clause-fault c = err_found c.args.text.now _ c.script_of.ensures

pub returns-clause-only : goal.returns-clause-only
returns-clause-only c = err_complete c.args.text.now _ c.script_of.ensures
