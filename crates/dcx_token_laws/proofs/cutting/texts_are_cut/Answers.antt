-- Each step of a reading cuts one stretch off.
use Rattle.dcx_token_laws.proofs.Stretches.{texts_are_cut}
use Rattle.dcx_token_laws.proofs.cutting.texts_are_cut.Goals as goal

pub returns : goal.returns
returns c = texts_are_cut
