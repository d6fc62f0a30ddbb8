-- A sum of forms is no wider than both.
use Rattle.dcx_linear.proofs.Widths.{sum_width}
use Rattle.dcx_linear.proofs.laws.widths_of_sums.Goals as goal

pub returns : goal.returns
returns g c = λ n f h k s a b. sum_width g.C.Coef.number_of n g.C.Coef.sum_gives f h k s a b
