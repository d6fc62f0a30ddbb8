-- The same list is the same set.
use Rattle.dcx_simplex.proofs.PhaseLaws.{never_repeats_list}
use Rattle.dcx_simplex.proofs.laws.never_repeats_list.Goals as goal

-- the law, as it is proved
pub returns : goal.returns
returns c = never_repeats_list
