-- The point has the arrays of the variables so far.
use Rattle.dcx_postsolve.proofs.Names.{IsFront}
use Rattle.dcx_postsolve.proofs.point.point_of_variables.Given as goal

abbrev pub invariant-variables : goal.invariant-variables
invariant-variables l = IsFront l.variables l.unknowns l.place l.point
