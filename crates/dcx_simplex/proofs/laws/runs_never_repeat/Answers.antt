-- Each phase of a run begins at a tableau from which it may begin.
use Rattle.dcx_simplex.proofs.Runs.{never_repeat}
use Rattle.dcx_simplex.proofs.laws.runs_never_repeat.Goals as goal

-- the law, as it is proved
pub returns : goal.returns
returns c = never_repeat
