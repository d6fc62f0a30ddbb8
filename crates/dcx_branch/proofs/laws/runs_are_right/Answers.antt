-- The law of the lemma of its name.
use Rattle.dcx_branch.proofs.Right.{runs_are_right}
use Rattle.dcx_branch.proofs.laws.runs_are_right.Goals as goal

pub returns : goal.returns
returns c = runs_are_right
