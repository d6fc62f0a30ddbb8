-- The cost stays just where the right side is 0.
use Rattle.dcx_simplex.proofs.PhaseLaws.{same_value}
use Rattle.dcx_simplex.proofs.Moves.{value_stays}
use Rattle.dcx_simplex.proofs.laws.stays_just_at_zero.Goals as goal

-- the law, as it is proved
pub returns : goal.returns
returns c equations cost bound t r k ready next = (same_value equations cost bound t r k ready next, value_stays equations cost bound t ready r k next)
