-- There is a shape exactly of sides that are allowed.
use Rattle.std.proofs.Common.{sym, ap, ◌∙◌}
use Rattle.dcx_shape.specs.declared.shape.Sides.TheVariants.{Vector, Matrix}
use Rattle.dcx_shape.specs.Sides.{entries_of}
use Rattle.dcx_array.specs.Shapes.{size_fault, allowed_shape}
use Rattle.dcx_array.proofs.AllowedShapes.{allowed_is, allowed_shape-is, size_fault-told}
use Rattle.dcx_array.proofs.shapes.allowed_shape.Goals as goal

pub returns-in-Scalar : goal.returns-in-Scalar
returns-in-Scalar c = sym (allowed_shape-is c.args.sides c.scalar.result (c.scalar.ensures ∙ sym c.in-Scalar.is))

pub returns-in-Vector : goal.returns-in-Vector
returns-in-Vector c =
    c.ok_or.ensures.value ∙ allowed_is (Vector c.in-Vector.n) c.vector.result c.size_fault.result c.vector.ensures.exists c.vector.ensures.sides c.size_fault.ensures
    ∙ ap allowed_shape (sym c.in-Vector.is)

pub returns-in-Matrix : goal.returns-in-Matrix
returns-in-Matrix c =
    c.ok_or-in-Matrix.ensures.value
    ∙ allowed_is (Matrix c.in-Matrix.m c.in-Matrix.n) c.matrix.result c.size_fault-in-Matrix.result c.matrix.ensures.exists c.matrix.ensures.sides
    (c.size_fault-in-Matrix.ensures ∙ ap size_fault c.saturating_mul.ensures ∙ size_fault-told (entries_of (Matrix c.in-Matrix.m c.in-Matrix.n)))
    ∙ ap allowed_shape (sym c.in-Matrix.is)
