-- Each certificate of an answer shows it at its setting.
use Rattle.dcx_cert_runs.proofs.Shown.{sections_are_shown}
use Rattle.dcx_cert_runs.proofs.laws.sections_are_shown.Goals as goal

pub returns : goal.returns
returns c = sections_are_shown
