-- What is read of the script is its tree, by its pieces.
use Rattle.dcx_trial_laws.proofs.Parsed.{is_read}
use Rattle.dcx_trial_laws.proofs.reading.trial_is_read.Goals as goal

pub returns : goal.returns
returns c = is_read
