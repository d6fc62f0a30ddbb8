-- The numbers of differences.
use Rattle.dcx_script_laws.proofs.Numbered.{numbers_hold}
use Rattle.dcx_script_laws.proofs.operators.numbers.Goals as goal

pub returns : goal.returns
returns c = numbers_hold
