-- Tokens have one reading.
use Rattle.dcx_settings.proofs.Viability.{one_spelling}
use Rattle.dcx_settings.proofs.OneReading.{spelled_apart}
use Rattle.dcx_settings.proofs.laws.readings.Goals as goal

pub returns-clause-one : goal.returns-clause-one
returns-clause-one c = one_spelling

pub returns-clause-apart : goal.returns-clause-apart
returns-clause-apart c = spelled_apart
