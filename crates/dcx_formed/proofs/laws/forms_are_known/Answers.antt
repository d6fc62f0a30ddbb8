-- Formed nodes speak of declared parameters alone.
use Rattle.dcx_formed.proofs.NarrowHold.{forms_are_known}
use Rattle.dcx_formed.proofs.laws.forms_are_known.Goals as goal

pub returns : goal.returns
returns c = forms_are_known
