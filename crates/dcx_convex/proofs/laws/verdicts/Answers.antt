-- The rules give each example its verdict.
use Rattle.dcx_convex.proofs.LawsHold.{verdicts}
use Rattle.dcx_convex.proofs.laws.verdicts.Goals as goal

pub returns : goal.returns
returns c = verdicts
