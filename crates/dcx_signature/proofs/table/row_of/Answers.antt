-- The row is that of the arguments.
use Rattle.std.proofs.Common.{sym, ◌∙◌}
use Rattle.dcx_signature.proofs.table.row_of.Goals as goal

pub returns-in-Some : goal.returns-in-Some
returns-in-Some c = c.these.ensures ∙ sym c.in-Some.ensures

pub returns-in-None : goal.returns-in-None
returns-in-None c = c.several.ensures ∙ sym c.in-None.ensures
