-- The checks that pass show that the setting fits, and that the point is feasible with the stated value.
use Rattle.dcx_cert_check.proofs.Sound.{checks_sound}
use Rattle.dcx_cert_check.proofs.laws.checks_are_sound.Goals as goal

pub returns : goal.returns
returns c = checks_sound
