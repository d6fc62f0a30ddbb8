-- Where a point and a ray show a problem unbounded, no number bounds it from below.
use Rattle.dcx_right.proofs.Optima.{unbounded_have_no_least}
use Rattle.dcx_right.proofs.laws.unbounded_have_no_least.Goals as goal

pub returns : goal.returns
returns c = unbounded_have_no_least
