-- There are forms that meet the equations.
use Rattle.dcx_unknowns.proofs.EquationsHold.{equations_have_forms}
use Rattle.dcx_unknowns.proofs.laws.equations_have_forms.Goals as goal

pub returns : goal.returns
returns c = equations_have_forms
