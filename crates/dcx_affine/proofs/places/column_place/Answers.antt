-- The place down the columns is that of an entry.
use Rattle.dcx_shape.specs.Shape.{sides_of}
use Rattle.dcx_shape.proofs.Entries.{turned_down, turned_below}
use Rattle.dcx_affine.proofs.places.column_place.Goals as goal

pub returns-clause-within : goal.returns-clause-within
returns-clause-within c =
    let s = sides_of c.args.shape in
    (turned_below s c.args.k _ (turned_down s c.args.k c.rows-rows.result c.cols-cols.result c.rows-rows.ensures c.cols-cols.ensures c.requires)).1
