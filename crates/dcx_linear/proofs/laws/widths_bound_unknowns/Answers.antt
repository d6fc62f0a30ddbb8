-- Terms name unknowns below their width.
use Rattle.dcx_linear.proofs.Widths.{width_bounds}
use Rattle.dcx_linear.proofs.laws.widths_bound_unknowns.Goals as goal

pub returns : goal.returns
returns g c = λ ts n h. width_bounds ts n h
