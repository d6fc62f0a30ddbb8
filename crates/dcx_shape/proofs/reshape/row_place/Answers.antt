-- The row and the column of a place, and the other place of that entry.
use Rattle.dcx_shape.specs.Shape.{sides_of}
use Rattle.dcx_shape.proofs.Entries.{turned_along, turned_below}
use Rattle.dcx_shape.proofs.reshape.row_place.Goals as goal

pub returns-clause-turned : goal.returns-clause-turned
returns-clause-turned c = turned_along (sides_of c.args.shape) c.args.place _ _ c.rows-rows.ensures c.cols.ensures c.requires

pub returns-clause-within : goal.returns-clause-within
returns-clause-within c = (turned_below (sides_of c.args.shape) _ _ (turned_along (sides_of c.args.shape) c.args.place _ _ c.rows-rows.ensures c.cols.ensures c.requires)).0
