-- Nodes that are formed of fractions meet the equations.
use Rattle.dcx_formed.proofs.LawsHold.{fracs_meet_equations}
use Rattle.dcx_formed.proofs.laws.fracs_meet_equations.Goals as goal

pub returns : goal.returns
returns c = fracs_meet_equations
