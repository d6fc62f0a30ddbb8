-- The rule takes one pivot at most at each tableau, and what ends a phase rules a further pivot out.
use Rattle.dcx_simplex.proofs.OneEnd.{ends_once}
use Rattle.dcx_simplex.proofs.laws.ends_once.Goals as goal

pub returns : goal.returns
returns c = ends_once
