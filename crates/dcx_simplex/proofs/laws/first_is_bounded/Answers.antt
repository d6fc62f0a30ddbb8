-- The sum of the artificials is never below 0.
use Rattle.dcx_simplex.proofs.EndLaws.{first_is_bounded}
use Rattle.dcx_simplex.proofs.laws.first_is_bounded.Goals as goal

-- the law, as it is proved
pub returns : goal.returns
returns c = first_is_bounded
