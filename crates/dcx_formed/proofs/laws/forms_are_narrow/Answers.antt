-- Formed nodes speak of unknowns of the layout alone.
use Rattle.dcx_formed.proofs.NarrowHold.{forms_are_narrow}
use Rattle.dcx_formed.proofs.laws.forms_are_narrow.Goals as goal

pub returns : goal.returns
returns g c = let t = g.C.Coef in forms_are_narrow t.of_number t.number_of t.sum_gives t.change_gives t.parameter_gives
