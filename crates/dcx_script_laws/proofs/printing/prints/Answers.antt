-- The law of prints.
use Rattle.dcx_script_laws.proofs.Prints.{prints_hold}
use Rattle.dcx_script_laws.proofs.printing.prints.Goals as goal

pub returns : goal.returns
returns c = prints_hold
