-- A matrix product has the shape that the crate of shapes gives it.
use Rattle.std.proofs.Common.{sym, ap, ◌∙◌}
use Rattle.dcx_shape.specs.Shape.{sides_of}
use Rattle.dcx_affine.specs.Pairing.{paired_sides}
use Rattle.dcx_affine.proofs.Products.{product_shape}
use Rattle.dcx_affine.proofs.pairing.Pairing.shape.Goals as goal

pub returns-in-MatTimes : goal.returns-in-MatTimes
returns-in-MatTimes c =
    let a = sides_of c.args.a in
    let b = sides_of c.args.b in
    product_shape a b c.matmul_shape.result c.matmul_shape.ensures.exists c.matmul_shape.ensures.sides ∙ ap (λ p. paired_sides p a b) (sym c.in-MatTimes.is)
