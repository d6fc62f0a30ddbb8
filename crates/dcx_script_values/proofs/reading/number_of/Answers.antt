-- What is no plain number has the number 0, and there is one fraction of value 0.
use Rattle.std.proofs.Common.{rules}
use Rattle.dcx_atom.proofs.FormedSums.{zero_frac-unique}
use Rattle.dcx_script_values.proofs.reading.number_of.Goals as goal

pub returns-in_default : goal.returns-in_default
returns-in_default c = rw (zero_frac-unique c.zero-in_default.result c.zero-in_default.ensures) (search rules)
