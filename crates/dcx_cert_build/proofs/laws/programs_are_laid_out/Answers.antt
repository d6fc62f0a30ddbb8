-- How the programs of problems are laid out.
use Rattle.dcx_cert_build.proofs.Laid.{programs_are_laid_out}
use Rattle.dcx_cert_build.proofs.laws.programs_are_laid_out.Goals as goal

pub returns : goal.returns
returns c = programs_are_laid_out
