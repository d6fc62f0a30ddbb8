-- The place along the rows is that of an entry.
use Rattle.dcx_shape.specs.Shape.{sides_of}
use Rattle.dcx_shape.proofs.Entries.{turned_along, turned_below}
use Rattle.dcx_affine.proofs.places.place_by_columns.Goals as goal

pub returns-clause-within : goal.returns-clause-within
returns-clause-within c =
    let s = sides_of c.args.shape in
    (turned_below s _ c.args.p (turned_along s c.args.p c.rows-rows.result c.cols-cols.result c.rows-rows.ensures c.cols-cols.ensures c.requires)).0
