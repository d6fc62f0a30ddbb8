-- Sides as they are told have the same shape as the sides that are asked for, or none as well.
use Rattle.std.proofs.Common.{sym, ap, ◌∙◌}
use Rattle.dcx_shape.specs.declared.shape.Sides.TheVariants.{Scalar, Vector, Matrix}
use Rattle.dcx_array.specs.Shapes.{shape_with}
use Rattle.dcx_array.proofs.AllowedShapes.{shape_with-is}
use Rattle.dcx_script_values.proofs.ShapesAsked.{shape_is}
use Rattle.dcx_script_values.proofs.extent.Extent.shape.Goals as goal

pub returns-in-Scalar : goal.returns-in-Scalar
returns-in-Scalar c = sym (shape_with-is Scalar c.scalar.result c.scalar.ensures) ∙ (ap shape_with (sym c.in-Scalar.is) ∙ c.told.ensures.shape)

pub returns-in-Vector : goal.returns-in-Vector
returns-in-Vector c = shape_is (Vector c.in-Vector.n) c.vector.result c.vector.ensures.exists c.vector.ensures.sides ∙ (ap shape_with (sym c.in-Vector.is) ∙ c.told.ensures.shape)

pub returns-in-Matrix : goal.returns-in-Matrix
returns-in-Matrix c = shape_is (Matrix c.in-Matrix.m c.in-Matrix.n) c.matrix.result c.matrix.ensures.exists c.matrix.ensures.sides ∙ (ap shape_with (sym c.in-Matrix.is) ∙ c.told.ensures.shape)
