-- The laws of shapes.
use Rattle.dcx_array.proofs.AllowedShapes.{shape_with-back, shape_with-is, shape_with-few, product_is}
use Rattle.dcx_array.proofs.Broadcasts.{broadcast_back, broadcast_is}
use Rattle.dcx_array.proofs.laws.shapes.Goals as goal

pub returns : goal.returns
returns c = record {
  shape = λ s shape. (shape_with-back s shape, shape_with-is s shape);
  allowed = shape_with-few;
  broadcast = λ a b x. (broadcast_back a b x, broadcast_is a b x);
  product = product_is;
}
