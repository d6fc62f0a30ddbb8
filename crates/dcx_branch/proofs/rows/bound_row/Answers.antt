-- Neither 1 nor -1 is 0.
use Rattle.dcx_branch.proofs.Units.{one_some, minus_one_some}
use Rattle.dcx_branch.proofs.rows.bound_row.Goals as goal

pub unit_row-requires : goal.unit_row-requires
unit_row-requires c = one_some c.one.result c.one.ensures

pub unit_row-requires-else-bound : goal.unit_row-requires-else-bound
unit_row-requires-else-bound c = minus_one_some c.one-else-bound.result c.neg-else-bound.result c.one-else-bound.ensures c.neg-else-bound.ensures
