-- A run of nodes has one end, or one stop.
use Rattle.dcx_branch.proofs.OneRun.{runs_are_one}
use Rattle.dcx_branch.proofs.laws.runs_are_one.Goals as goal

pub returns : goal.returns
returns c = runs_are_one
