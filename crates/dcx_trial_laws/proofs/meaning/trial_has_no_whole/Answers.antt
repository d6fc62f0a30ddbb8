-- What is read is the tree of the script, whose lines declare two variables.
use Rattle.dcx_trial_laws.proofs.Carried.{none_whole}
use Rattle.dcx_trial_laws.proofs.Parsed.{is_read}
use Rattle.dcx_trial_laws.proofs.Sized.{bounded}
use Rattle.dcx_trial_laws.proofs.meaning.trial_has_no_whole.Goals as goal

pub returns : goal.returns
returns c = λ size script asked reading work carried_out. none_whole size (bounded asked.0 size asked.1) script (is_read size script reading) work carried_out
