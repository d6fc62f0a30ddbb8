-- A setting that fits, and a point with the names and shapes, give each parameter and variable an array.
use Rattle.dcx_cert_check.proofs.Given.{arrays_given}
use Rattle.dcx_cert_check.proofs.laws.arrays_are_given.Goals as goal

pub returns : goal.returns
returns c = arrays_given
