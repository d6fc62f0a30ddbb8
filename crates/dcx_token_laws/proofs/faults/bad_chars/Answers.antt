-- It is the step that stops that finds nothing there.
use Rattle.dcx_token_laws.proofs.Faulty.{bad_chars}
use Rattle.dcx_token_laws.proofs.faults.bad_chars.Goals as goal

pub returns : goal.returns
returns c = bad_chars
