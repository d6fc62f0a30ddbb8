-- Forms are beyond values.
use Rattle.dcx_convex.proofs.LawsHold.{forms_are_beyond}
use Rattle.dcx_convex.proofs.laws.forms_are_beyond.Goals as goal

pub returns : goal.returns
returns c = forms_are_beyond
