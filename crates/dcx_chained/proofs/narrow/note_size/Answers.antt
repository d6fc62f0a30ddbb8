-- The size is written at the row, and nowhere else.
use Rattle.std.proofs.Common.{get_or-set_same, get_or-set_other}
use Rattle.dcx_chained.proofs.narrow.note_size.Goals as goal

pub returns-clause-there : goal.returns-clause-there
returns-clause-there c = λ _. get_or-set_same c.args.sizes.now c.args.i c.args.size 0 c.requires

pub returns-clause-others : goal.returns-clause-others
returns-clause-others c = λ k other. get_or-set_other c.args.sizes.now c.args.i k c.args.size 0 other
