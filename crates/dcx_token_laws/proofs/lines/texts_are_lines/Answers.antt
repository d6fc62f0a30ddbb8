-- Along a reading the blocks that are open stand at rising depths.
use Rattle.dcx_token_laws.proofs.Depths.{texts_are_lines}
use Rattle.dcx_token_laws.proofs.lines.texts_are_lines.Goals as goal

pub returns : goal.returns
returns c = texts_are_lines
