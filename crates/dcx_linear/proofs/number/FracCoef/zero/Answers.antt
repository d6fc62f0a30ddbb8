-- There is one fraction that is 0.
use Rattle.dcx_atom.proofs.FormedSums.{zero_frac-unique}
use Rattle.dcx_linear.proofs.number.FracCoef.zero.Goals as goal

pub returns : goal.returns
returns c = zero_frac-unique c.zero.result c.zero.ensures
