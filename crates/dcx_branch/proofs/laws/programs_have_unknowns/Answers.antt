-- Each reduced program has the unknowns of the variables.
use Rattle.dcx_branch.proofs.Enough.{programs_have_unknowns}
use Rattle.dcx_branch.proofs.laws.programs_have_unknowns.Goals as goal

pub returns : goal.returns
returns c = programs_have_unknowns
