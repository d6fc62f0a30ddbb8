-- What a program keeps is what a run begins from.
use Rattle.dcx_simplex.proofs.Starts.{starts}
use Rattle.dcx_simplex.proofs.laws.programs_start.Goals as goal

pub returns : goal.returns
returns c p = starts p.rows p.columns p.objective p.phase p.form
