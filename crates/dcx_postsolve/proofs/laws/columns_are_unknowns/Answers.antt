-- Columns tell the unknowns.
use Rattle.dcx_postsolve.proofs.ColumnParts.{columns_tell}
use Rattle.dcx_postsolve.proofs.laws.columns_are_unknowns.Goals as goal

pub returns : goal.returns
returns c = columns_tell
