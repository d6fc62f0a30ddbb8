-- A file has one answer.
use Rattle.dcx_settings.proofs.OneAnswer.{refused_one, settings_apart}
use Rattle.dcx_settings.proofs.laws.files.Goals as goal

pub returns-clause-one : goal.returns-clause-one
returns-clause-one c = refused_one

pub returns-clause-apart : goal.returns-clause-apart
returns-clause-apart c = settings_apart
