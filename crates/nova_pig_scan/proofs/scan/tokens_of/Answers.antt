use Rattle.nova_pig_scan.proofs.Exact.{ok_found, ok_complete, err_found, err_complete}
use Rattle.nova_pig_scan.proofs.scan.tokens_of.Goals as goal

pub returns-clause-found : goal.returns-clause-found
returns-clause-found c = ok_found c.args.text.now _ c.scan_text.ensures

pub returns-clause-complete : goal.returns-clause-complete
returns-clause-complete c = ok_complete c.args.text.now _ c.scan_text.ensures

pub returns-clause-fault : goal.returns-clause-fault
returns-clause-fault c = err_found c.args.text.now _ c.scan_text.ensures

pub returns-clause-only : goal.returns-clause-only
returns-clause-only c = err_complete c.args.text.now _ c.scan_text.ensures
