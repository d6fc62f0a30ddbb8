-- Arrays are points.
use Rattle.dcx_postsolve.proofs.Alike.{arrays_are_points}
use Rattle.dcx_postsolve.proofs.laws.arrays_are_points.Goals as goal

pub returns : goal.returns
returns c = arrays_are_points
