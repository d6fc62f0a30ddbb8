-- The first tableau of a program is a start, and no phase of a run from a start repeats a basis.
use Rattle.dcx_simplex.proofs.Runs.{programs_run_short}
use Rattle.dcx_simplex.proofs.laws.programs_run_short.Goals as goal

-- the law, as it is proved
pub returns : goal.returns
returns c = programs_run_short
