-- Runs with the same report have the same answers.
use Rattle.dcx_run_laws.proofs.Answers as holds
use Rattle.dcx_run_laws.proofs.telling.reports_tell_answers.Goals as goal

pub returns : goal.returns
returns c = holds.reports_tell_answers
