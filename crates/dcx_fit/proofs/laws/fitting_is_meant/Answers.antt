-- A setting that fits the parameters and divides by no 0 is a fitting one of the problem, and no other is.
use Rattle.dcx_fit.proofs.Fitting.{fitting_holds}
use Rattle.dcx_fit.proofs.laws.fitting_is_meant.Goals as goal

pub returns : goal.returns
returns c = fitting_holds
