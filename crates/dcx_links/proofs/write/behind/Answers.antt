-- The link that comes from the cell leads on behind its place.
use Rattle.dcx_links.proofs.Kept.{from_cell}
use Rattle.dcx_links.proofs.write.behind.Goals as goal

pub row_link-link-requires-clause-from : goal.row_link-link-requires-clause-from
row_link-link-requires-clause-from c = rw c.deref.ensures.value (from_cell c.args.store.now.cells.items c.args.at c.args.row c.args.column c.requires.here)

pub returns-clause-from : goal.returns-clause-from
returns-clause-from c = from_cell c.args.store.now.cells.items c.args.at c.args.row c.args.column c.requires.here
