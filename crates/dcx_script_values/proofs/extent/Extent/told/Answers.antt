-- A side that is too great for its type has no shape, and neither has the greatest of the type.
use Rattle.dcx_script_values.proofs.ShapesAsked.{shape_with-told, shape_with-told_side}
use Rattle.dcx_script_values.proofs.extent.Extent.told.Goals as goal

pub returns-in-Vector-clause-shape : goal.returns-in-Vector-clause-shape
returns-in-Vector-clause-shape c = rw (c.told_side.ensures, c.in-Vector.is) (shape_with-told_side c.in-Vector.n)

pub returns-in-Matrix-clause-shape : goal.returns-in-Matrix-clause-shape
returns-in-Matrix-clause-shape c = rw (c.told_side-in-Matrix.ensures, c.told_side-in-Matrix-2.ensures, c.in-Matrix.is) (shape_with-told c.in-Matrix.m c.in-Matrix.n)
