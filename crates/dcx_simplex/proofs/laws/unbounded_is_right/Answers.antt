-- There are a point and a ray.
use Rattle.dcx_simplex.proofs.EndLaws.{unbounded_is_right}
use Rattle.dcx_simplex.proofs.laws.unbounded_is_right.Goals as goal

-- the law, as it is proved
pub returns : goal.returns
returns c = unbounded_is_right
