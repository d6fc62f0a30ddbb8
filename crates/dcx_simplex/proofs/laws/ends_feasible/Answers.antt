-- Each pivot keeps the tableau one of the program.
use Rattle.dcx_simplex.proofs.EndLaws.{ends_feasible}
use Rattle.dcx_simplex.proofs.laws.ends_feasible.Goals as goal

-- the law, as it is proved
pub returns : goal.returns
returns c = ends_feasible
