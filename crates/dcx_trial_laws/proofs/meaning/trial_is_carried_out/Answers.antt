-- What is read is the tree of the script, no line of which has a fault.
use Rattle.dcx_trial_laws.proofs.Carried.{no_fault}
use Rattle.dcx_trial_laws.proofs.Parsed.{is_read}
use Rattle.dcx_trial_laws.proofs.Sized.{bounded}
use Rattle.dcx_trial_laws.proofs.meaning.trial_is_carried_out.Goals as goal

pub returns : goal.returns
returns c = λ size script asked reading. no_fault size (bounded asked.0 size asked.1) script (is_read size script reading)
