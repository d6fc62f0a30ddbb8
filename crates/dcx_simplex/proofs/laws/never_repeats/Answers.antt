-- A set of basic columns that came twice would have a greatest column that both enters and leaves.
use Rattle.dcx_simplex.proofs.PhaseLaws.{never_repeats}
use Rattle.dcx_simplex.proofs.laws.never_repeats.Goals as goal

-- the law, as it is proved
pub returns : goal.returns
returns c = never_repeats
