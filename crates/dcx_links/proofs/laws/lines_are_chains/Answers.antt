-- Links that each lead to the next cell make a chain.
use Rattle.dcx_links.proofs.Chains.{row_line, column_line}
use Rattle.dcx_links.proofs.laws.lines_are_chains.Goals as goal

pub returns : goal.returns
returns c = λ s sound l. (row_line s.cells.items s.row_heads.items s.column_heads.items s.free sound l, column_line s.cells.items s.row_heads.items s.column_heads.items s.free sound l)
