-- A session's program is that of forms that meet the equations of the nodes.
use Rattle.dcx_cert_complete.proofs.Programs.{session_programs_have_forms}
use Rattle.dcx_cert_complete.proofs.laws.session_programs_have_forms.Goals as goal

pub returns : goal.returns
returns c = session_programs_have_forms
