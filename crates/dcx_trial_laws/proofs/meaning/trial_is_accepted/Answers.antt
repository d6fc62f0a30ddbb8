-- What is read is the tree of the script, whose lines are carried out one after the other.
use Rattle.dcx_trial_laws.proofs.Dpp.{trials_accepted}
use Rattle.dcx_trial_laws.proofs.Parsed.{is_read}
use Rattle.dcx_trial_laws.proofs.meaning.trial_is_accepted.Goals as goal

pub returns : goal.returns
returns c = λ size script reading work carried_out. trials_accepted size script (is_read size script reading) work carried_out
