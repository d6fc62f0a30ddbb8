-- What bounds a program at all unknowns bounds it at all points and unknowns of the graphs.
use Rattle.dcx_cert_complete.proofs.Bounded.{forms_bound_programs}
use Rattle.dcx_cert_complete.proofs.laws.forms_bound_programs.Goals as goal

pub returns : goal.returns
returns c = forms_bound_programs
