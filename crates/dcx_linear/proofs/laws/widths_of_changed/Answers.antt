-- A form that is multiplied or divided is no wider.
use Rattle.dcx_linear.proofs.Widths.{change_width}
use Rattle.dcx_linear.proofs.laws.widths_of_changed.Goals as goal

pub returns : goal.returns
returns g c = λ n change f h s a. change_width g.C.Coef.number_of n g.C.Coef.change_gives change f h s a
