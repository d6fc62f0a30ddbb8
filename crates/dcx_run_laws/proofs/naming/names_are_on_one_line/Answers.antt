-- Names on one line.
use Rattle.dcx_run_laws.proofs.Names.{names_are_on_one_line}
use Rattle.dcx_run_laws.proofs.naming.names_are_on_one_line.Goals as goal

pub returns : goal.returns
returns c = names_are_on_one_line
